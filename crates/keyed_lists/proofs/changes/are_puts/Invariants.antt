-- Those that were gone over are.
use Rattle.std.proofs.Common.{◌≡◌, drop}
use Rattle.keyed_lists.specs.Keyed.{are_puts}
use Rattle.keyed_lists.proofs.changes.are_puts.Given as goal

abbrev pub invariant-loop-change : goal.invariant-loop-change
invariant-loop-change g l = are_puts (drop l.change-index l.changes) ≡ are_puts l.changes
