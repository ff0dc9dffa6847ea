-- What the lines that were gone over are about.
use Rattle.std.proofs.Common.{◌≡◌, map, take}
use Rattle.board_core.specs.Lines.{subject_of}
use Rattle.board_core.proofs.line.subjects_of.Given as goal

abbrev pub invariant-loop-line : goal.invariant-loop-line
invariant-loop-line l = l.subjects.items ≡ map subject_of (take l.line-index l.lines)
