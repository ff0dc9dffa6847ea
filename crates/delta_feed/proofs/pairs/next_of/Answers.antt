-- The lesser of the first ids goes first.
use Rattle.std.proofs.Common.{◌≡◌, Some, None, sym}
use Rattle.std.specs.Prelude.{slice_get}
use Rattle.delta_feed.specs.Pairs as rule
use Rattle.delta_feed.proofs.PairLemmas.{none_left, next_is}
use Rattle.delta_feed.proofs.pairs.next_of.Goals as goal

pub returns-in-Some-clause-next : goal.returns-in-Some-clause-next
returns-in-Some-clause-next c =
    let told : rule.least_id (slice_get c.args.old.now 0) (slice_get c.args.new.now 0) ≡ Some c.in-Some.id.now = rw (c.first.ensures, c.first-2.ensures) at (sym c.in-Some.ensures) in
    next_is c.in-Some.id.now c.args.old.now c.args.new.now c.take_under.new.self c.take_under-in-Some.new.self _ _ c.requires.old c.requires.new told
    c.take_under.ensures.taken c.take_under-in-Some.ensures.taken c.take_under.ensures.left c.take_under-in-Some.ensures.left

pub returns-in-None-clause-next : goal.returns-in-None-clause-next
returns-in-None-clause-next c =
    let told : rule.least_id (slice_get c.args.old.now 0) (slice_get c.args.new.now 0) ≡ None = rw (c.first.ensures, c.first-2.ensures) at (sym c.in-None.ensures) in
    let none = none_left c.args.old.now c.args.new.now told in
    (none, none)
