use Rattle.std.proofs.Common.{◌≤◌}
use Rattle.hub_replay.proofs.Skipping.{Skipping}
use Rattle.hub_replay.proofs.steps.skip.Given as goal

abbrev pub invariant-pieces : goal.invariant-pieces
invariant-pieces g l = record {
  skipping : Skipping l.fn.window l.window (g.S.Source.left l.fn.input) (g.S.Source.left l.input) l.count l.to_go;
  faults : g.S.Source.faults l.fn.input ≤ g.S.Source.faults l.input;
}

abbrev pub decreases-pieces : goal.decreases-pieces
decreases-pieces g l = l.window.allowed
