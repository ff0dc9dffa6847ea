-- The shower stays at its hub.
use Rattle.hub_history.specs.Told.{AreOne}
use Rattle.test_running.proofs.looking.put_all.Given as goal

abbrev pub invariant-loop-number : goal.invariant-loop-number
invariant-loop-number g l = AreOne l.shower g.H.OfHub.told
