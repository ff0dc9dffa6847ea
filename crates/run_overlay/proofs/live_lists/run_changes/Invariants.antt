-- What the turns that were gone over change, and what those change that are left, are all.
use Rattle.std.proofs.Common.{◌≡◌, ◌++◌, map}
use Rattle.run_overlay.specs.Turning.{run_change}
use Rattle.run_overlay.proofs.live_lists.run_changes.Given as goal

abbrev pub invariant-loop-turn : goal.invariant-loop-turn
invariant-loop-turn l = l.changes.items ++ map run_change l.turn-iterator.rest.items ≡ map run_change l.fn.turns.items
