-- The rows of the updates that were gone over were appended.
use Rattle.std.proofs.Common.{[], drop}
use Rattle.std.specs.List.{flat_map}
use Rattle.board_parts.proofs.Appended.{IsLeft}
use Rattle.board_added.specs.Added.{as_row, rows_unless, IsThere}
use Rattle.board_added.proofs.counting.added_rows.Given as goal

abbrev pub invariant-loop-update : goal.invariant-loop-update
invariant-loop-update l =
    IsLeft (as_row l.plan) (IsThere l.plan) [] l.rows.items
    (flat_map (rows_unless l.plan l.query l.stop l.sorted.items) (drop l.update-index l.added))
    (flat_map (rows_unless l.plan l.query l.stop l.sorted.items) l.added)
