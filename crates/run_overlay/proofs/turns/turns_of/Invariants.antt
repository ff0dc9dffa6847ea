-- What became of the runs that were gone over, by one step each at most.
use Rattle.std.proofs.Common.{◌≡◌, ◌+◌, ◌≤◌, map, take}
use Rattle.run_overlay.specs.Turning.{turn_of}
use Rattle.run_overlay.specs.Updates.{updates_of}
use Rattle.run_overlay.proofs.turns.turns_of.Given as goal

abbrev pub invariant-loop-number : goal.invariant-loop-number
invariant-loop-number g l = record {
  turns : l.turns.items ≡ map (turn_of l.plan (updates_of l.table)) (take l.number l.runs);
  few : l.steps ≤ l.initial.steps + l.number;
}
