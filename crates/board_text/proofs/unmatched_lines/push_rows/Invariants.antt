-- The lines of the rows that were gone over stand there.
use Rattle.std.proofs.Common.{◌≡◌, ◌++◌, take}
use Rattle.std.specs.Io.{StartsWith}
use Rattle.std.specs.List.{flat_map}
use Rattle.board_text_defs.specs.UnmatchedText.{unmatched_line}
use Rattle.board_text.proofs.unmatched_lines.push_rows.Given as goal

abbrev pub invariant-loop-row : goal.invariant-loop-row
invariant-loop-row l = record {
  written : l.out.items ≡ l.initial.out.items ++ flat_map (unmatched_line l.feeds) (take l.row-index l.rows);
  begins : StartsWith l.out.items l.initial.out.items;
}
