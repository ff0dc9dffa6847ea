-- What each pass so far knew begins the ending; the others are as they were.
use Rattle.std.proofs.Common.{◌≡◌, ℕ, ◌<◌, ◌≤◌, length, slice_index_or}
use mathlib.Core.List.{IsPrefix}
use Rattle.snapshot_cell.specs.Seen.{PassSeen}
use Rattle.hub_serve.proofs.closing.finish_all.Given as goal

abbrev pub invariant-loop-i : goal.invariant-loop-i
invariant-loop-i g l = record {
  same_length : length l.passes ≡ length l.fn.passes;
  later : (i : ℕ) (none : PassSeen) → l.i ≤ i → slice_index_or l.passes i none ≡ slice_index_or l.fn.passes i none;
  begins : (i : ℕ) (none : PassSeen) → i < l.i → IsPrefix (slice_index_or l.fn.passes i none).line.log l.ending.log;
}
