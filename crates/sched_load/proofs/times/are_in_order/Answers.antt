use Rattle.std.proofs.Common.{None, get_or}
use Rattle.std.proofs.lemmas.Option.{slice_get-get_or}
use Rattle.sched_load.specs.declared.visits.Visit.{Visit}
use Rattle.sched_load.proofs.TimeLemmas.{follows_all, late, left_early}
use Rattle.sched_load.proofs.times.are_in_order.Goals as goal

pub returns-then-stay-before : goal.returns-then-stay-before
returns-then-stay-before c =
    let none : Visit = record { trip = 0; stop = 0; sequence = 0; stay = None; pickup = 0 } in
    late c.args.visits.now c.loop-visit.visit-index c.loop-visit.before (get_or c.args.visits.now c.loop-visit.visit-index none) c.in-Some.stay c.loop-visit.invariant (slice_get-get_or c.args.visits.now c.loop-visit.visit-index none c.loop-visit-test.true) c.in-Some.is c.if-stay-before.true

pub returns-then-stay : goal.returns-then-stay
returns-then-stay c =
    let none : Visit = record { trip = 0; stop = 0; sequence = 0; stay = None; pickup = 0 } in
    left_early c.args.visits.now c.loop-visit.visit-index c.loop-visit.before (get_or c.args.visits.now c.loop-visit.visit-index none) c.in-Some.stay c.loop-visit.invariant (slice_get-get_or c.args.visits.now c.loop-visit.visit-index none c.loop-visit-test.true) c.in-Some.is c.if-stay.true

pub returns : goal.returns
returns c = follows_all c.args.visits.now c.loop-visit.visit-index c.loop-visit.before c.loop-visit.invariant c.loop-visit-test.false
