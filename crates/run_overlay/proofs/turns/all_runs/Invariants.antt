-- The runs of the changes that were gone over.
use Rattle.std.proofs.Common.{◌≡◌, take}
use Rattle.run_overlay.specs.Changing.{touched_runs}
use Rattle.run_overlay.proofs.turns.all_runs.Given as goal

abbrev pub invariant-loop-one : goal.invariant-loop-one
invariant-loop-one l = l.runs.items ≡ touched_runs (take l.one-index l.ids)
