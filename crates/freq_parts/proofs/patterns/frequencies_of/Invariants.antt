use Rattle.std.proofs.Common.{◌≡◌, ◌++◌, map, drop}
use Rattle.std.specs.List.{enumerate_from}
use Rattle.sched_load_defs.specs.Frequencies as rule
use Rattle.freq_parts.proofs.patterns.frequencies_of.Given as goal

abbrev pub invariant-loop-place : goal.invariant-loop-place
invariant-loop-place l = l.list.items ++ map (rule.frequency_of l.patterns) (enumerate_from l.place (drop l.place l.rows)) ≡ map (rule.frequency_of l.patterns) (enumerate_from 0 l.rows)
