-- What was taken and what is still to be taken are the first so many.
use Rattle.std.proofs.Common.{◌≡◌, ◌-◌, ◌++◌, map, take}
use Rattle.board_core.specs.declared.line.Line.TheVariants.{Run}
use Rattle.board_core.proofs.line.first_runs.Given as goal

abbrev pub invariant-loop : goal.invariant-loop
invariant-loop l = l.lines.items ++ map Run (take (l.limit - l.counter) l.runs) ≡ map Run (take l.limit l.initial.runs)
