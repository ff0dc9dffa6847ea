-- The pass stays at its hub.
use Rattle.hub_history.specs.Told.{AreOne}
use Rattle.test_running.proofs.looking.look_beside.Given as goal

abbrev pub invariant-loop-round : goal.invariant-loop-round
invariant-loop-round g l = AreOne l.pass.line g.H.OfHub.told
