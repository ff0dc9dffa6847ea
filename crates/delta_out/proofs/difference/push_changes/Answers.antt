-- The bytes are those of the difference, which brings a reader from the one combined feed to the other.
use Rattle.std.proofs.Common.{◌≡◌, ◌<◌, ◌^◌, ◌++◌, length, length-append, sym, ap, subst, arith, rules}
use Rattle.std.specs.List.{AllByRecursion}
use Rattle.std.proofs.lemmas.Result.{on_ok_weaker}
use Rattle.delta_defs.specs.OneHistory.{FeedHoldsSince}
use Rattle.feed_out.proofs.Bytes.{prefix_is}
use Rattle.board_defs.specs.Views.{folds_of}
use Rattle.delta_defs.specs.Changes.{changes_bytes}
use Rattle.delta_out.proofs.AgainLemmas.{reads_as}
use Rattle.delta_out.proofs.LawLemmas.{brings_to}
use Rattle.delta_out.proofs.MessageLemmas.{sent_are}
use Rattle.delta_defs.proofs.OneHistory.{all_held_since}
use Rattle.delta_out.proofs.difference.push_changes.Goals as goal

pub push_feeds-requires : goal.push_feeds-requires
push_feeds-requires c =
    subst (λ folds. AllByRecursion (FeedHoldsSince folds) c.feeds_of-2.result) (sym c.feeds.ensures)
    (subst (AllByRecursion (FeedHoldsSince c.args.old.now.folds)) (sym c.feeds_of-2.ensures) (all_held_since c.args.plan c.args.old.now c.args.view.now c.requires.one_history))

pub returns-clause-sent : goal.returns-clause-sent
returns-clause-sent c =
    on_ok_weaker c.push_feeds.result
    (sent_are c.args.view.now c.plans.result.now c.plans-2.result.now c.args.plan c.index-plans-plan.result c.as_str-prefix.result.now c.feeds_of.result c.feeds_of-2.result c.newest_stamp-stamp.result
    c.args.old.now.folds c.feeds.result.now c.args.out.now.items c.push_header.new.out.items c.push_feeds.new.out.items
    c.plans.ensures c.plans-2.ensures c.requires.plan c.as_str-prefix.ensures c.feeds_of.ensures c.newest_stamp-stamp.ensures c.feeds.ensures c.feeds_of-2.ensures c.in_ok-push_header.ensures.written)
    c.push_feeds.ensures.sent

pub returns-clause-brings : goal.returns-clause-brings
returns-clause-brings c = λ g h were read then stands. on_ok_weaker c.push_feeds.result
    (λ each. brings_to c.args.view.now c.args.plan c.args.old.now.folds c.feeds.result.now c.as_str-prefix.result.now c.feeds_of-2.result
    (prefix_is c.args.view.now c.plans.result.now c.plans-2.result.now c.args.plan c.index-plans-plan.result c.as_str-prefix.result.now c.plans.ensures c.plans-2.ensures c.requires.plan c.as_str-prefix.ensures)
    c.is_text.ensures c.sound.ensures.plans c.feeds_of-2.ensures c.feeds.ensures each g h were read then stands)
    c.push_feeds.ensures.short

pub returns-clause-reads : goal.returns-clause-reads
returns-clause-reads c =
    let told = changes_bytes c.args.view.now.plans c.args.plan c.args.old.now.folds (folds_of c.args.view.now) in
    let low : c.newest_stamp-stamp.result < 2 ^ 64 = omega arith in
    let fits : length c.push_feeds.new.out.items < 2 ^ 64 = search rules in
    λ g h were read_h then stands. on_ok_weaker c.push_feeds.result
    (λ (is : c.push_feeds.new.out.items ≡ c.args.out.now.items ++ told).
    let small : length told < 2 ^ 64 = omega (arith, ap length is, length-append c.args.out.now.items told) in
    reads_as c.args.view.now c.args.plan c.args.old.now.folds c.feeds_of.result c.newest_stamp-stamp.result c.as_str-prefix.result.now small
    (prefix_is c.args.view.now c.plans.result.now c.plans-2.result.now c.args.plan c.index-plans-plan.result c.as_str-prefix.result.now c.plans.ensures c.plans-2.ensures c.requires.plan c.as_str-prefix.ensures)
    c.is_text.ensures c.sound.ensures.plans c.feeds_of.ensures c.newest_stamp-stamp.ensures low g h were read_h then stands)
    (returns-clause-sent c)
