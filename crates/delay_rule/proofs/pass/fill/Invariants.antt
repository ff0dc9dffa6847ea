use Rattle.std.proofs.Common.{drop}
use Rattle.delay_rule.proofs.StepLaw.{GoesOn}
use Rattle.delay_rule.proofs.pass.fill.Given as goal

abbrev pub invariant-loop-stop_update : goal.invariant-loop-stop_update
invariant-loop-stop_update l =
    GoesOn l.plan l.places l.base l.update.stop_time_update l.update.delay l.fn.out.items l.out.items (drop l.stop_update-index l.stop_update-items) l.reached.place l.reached.carry
