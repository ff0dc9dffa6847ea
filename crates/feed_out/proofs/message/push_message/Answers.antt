-- The bytes are those of the message of what the view holds.
use Rattle.std.proofs.Common.{◌≡◌, ◌<◌, ◌^◌, ◌++◌, length, length-append, ap, refl, arith, rules}
use Rattle.std.proofs.lemmas.Result.{on_ok_weaker}
use Rattle.board_defs.specs.Feed.{combined_feed}
use Rattle.board_defs.specs.Views.{folds_of}
use Rattle.feed_out.proofs.Again.{bytes_again}
use Rattle.feed_out.proofs.Bytes.{bytes_are, prefix_is}
use Rattle.feed_out.proofs.message.push_message.Goals as goal

pub returns-clause-feed : goal.returns-clause-feed
returns-clause-feed c =
    on_ok_weaker c.push_entities.result
    (bytes_are c.args.view.now c.plans.result.now c.plans-2.result.now c.args.plan c.index-plans-plan.result c.as_str-prefix.result.now c.feeds_of.result c.entities_of.result c.newest_stamp-newest.result c.args.out.now.items c.push_header.new.out.items c.push_entities.new.out.items
    c.plans.ensures c.plans-2.ensures c.requires c.as_str-prefix.ensures c.feeds_of.ensures c.entities_of.ensures c.newest_stamp-newest.ensures c.in_ok-push_header.ensures.written)
    c.push_entities.ensures.written

pub returns-clause-again : goal.returns-clause-again
returns-clause-again c =
    let feed = combined_feed c.args.view.now.plans c.args.plan (folds_of c.args.view.now) in
    let low : c.newest_stamp-newest.result < 2 ^ 64 = omega arith in
    let fits : length c.push_entities.new.out.items < 2 ^ 64 = search rules in
    λ h were stands. on_ok_weaker c.push_entities.result
    (λ (is : c.push_entities.new.out.items ≡ c.args.out.now.items ++ feed).
    let small : length feed < 2 ^ 64 = omega (arith, ap length is, length-append c.args.out.now.items feed) in
    bytes_again c.args.view.now c.args.plan c.feeds_of.result c.newest_stamp-newest.result feed c.as_str-prefix.result.now refl small
    (prefix_is c.args.view.now c.plans.result.now c.plans-2.result.now c.args.plan c.index-plans-plan.result c.as_str-prefix.result.now c.plans.ensures c.plans-2.ensures c.requires c.as_str-prefix.ensures)
    c.is_text.ensures c.sound.ensures.plans c.feeds_of.ensures c.newest_stamp-newest.ensures low h were stands)
    (returns-clause-feed c)
