use Rattle.std.proofs.Common.{None, get_or, ◌+◌}
use Rattle.std.proofs.lemmas.Option.{slice_get-get_or}
use Rattle.sched_load.specs.declared.visits.Visit.{Visit}
use Rattle.sched_load.proofs.RestLemmas.{steps_rest}
use Rattle.sched_load.proofs.TimeLemmas.{fills_more}
use Rattle.sched_load.proofs.times.places_of.Goals as goal

pub loop-i-preserved : goal.loop-i-preserved
loop-i-preserved c =
    let none : Visit = record { trip = 0; stop = 0; sequence = 0; stay = None; pickup = 0 } in
    let visits = c.args.visits.now in
    let visit = get_or visits c.loop-i.i none in
    fills_more visits c.loop-i.i c.loop-i.course c.step.result.0 c.loop-i.places.items c.push.new.self.items visit c.step.result.1 c.place_at.result c.loop-i.invariant
    (slice_get-get_or visits c.loop-i.i none c.loop-i-test.true) (steps_rest c.loop-i.course c.step.result.0 c.step.result.1 visit visits (c.loop-i.i + 1) c.step.ensures) c.place_at.ensures c.in_ok-push.ensures.items
