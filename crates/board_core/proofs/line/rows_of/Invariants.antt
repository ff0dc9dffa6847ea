-- The rows of the lines that were gone over.
use Rattle.std.proofs.Common.{◌≡◌, map, take}
use Rattle.board_core.specs.Lines.{line_row}
use Rattle.board_core.proofs.line.rows_of.Given as goal

abbrev pub invariant-loop-line : goal.invariant-loop-line
invariant-loop-line l = l.rows.items ≡ map (λ x. (line_row l.plan x).row) (take l.line-index l.lines)
