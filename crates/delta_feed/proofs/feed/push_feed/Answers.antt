-- Where nothing is gone, all that is sent is of what has a newer stamp.
use Rattle.std.proofs.Common.{◌++◌, sym, ap, ◌∙◌}
use Rattle.std.proofs.lemmas.Result.{on_ok_weaker}
use Rattle.delta_feed.proofs.NewerLemmas.{newer_sent}
use Rattle.delta_feed.proofs.feed.push_feed.Goals as goal

pub returns-then-has_lost_none-clause-sent : goal.returns-then-has_lost_none-clause-sent
returns-then-has_lost_none-clause-sent c =
    let told = sym c.has_lost_none.ensures ∙ c.if-has_lost_none.true in
    let all = newer_sent c.args.prefix.now c.args.feed.now c.args.stamp c.args.old.now c.args.new.now c.sound.ensures c.sound-2.ensures c.is_by_own_id.ensures c.requires told in
    on_ok_weaker c.push_newer.result (λ written. written ∙ ap (λ bytes. c.args.out.now.items ++ bytes) all.0) c.push_newer.ensures.sent

pub returns-then-has_lost_none-clause-short : goal.returns-then-has_lost_none-clause-short
returns-then-has_lost_none-clause-short c =
    let told = sym c.has_lost_none.ensures ∙ c.if-has_lost_none.true in
    on_ok_weaker c.push_newer.result (newer_sent c.args.prefix.now c.args.feed.now c.args.stamp c.args.old.now c.args.new.now c.sound.ensures c.sound-2.ensures c.is_by_own_id.ensures c.requires told).1 c.push_newer.ensures.short
