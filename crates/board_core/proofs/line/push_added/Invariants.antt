-- The rows that were gone over were appended.
use Rattle.std.proofs.Common.{◌≡◌, ◌++◌, map, take}
use Rattle.board_core.specs.declared.line.Line.TheVariants.{Added}
use Rattle.board_core.proofs.line.push_added.Given as goal

abbrev pub invariant-loop-row : goal.invariant-loop-row
invariant-loop-row l = l.lines.items ≡ l.initial.lines.items ++ map Added (take l.row-index l.added)
