-- The pass stays at its hub.
use Rattle.hub_history.specs.Told.{AreOne}
use Rattle.test_running.proofs.looking.look_round.Given as goal

abbrev pub invariant-loop : goal.invariant-loop
invariant-loop g l = AreOne l.pass.line g.H.OfHub.told
