use Rattle.std.proofs.Common.{◌≡◌, ◌++◌, map, drop}
use Rattle.sched_load_defs.specs.Frequencies as rule
use Rattle.freq_parts.proofs.patterns.patterns_of.Given as goal

abbrev pub invariant-loop-timed : goal.invariant-loop-timed
invariant-loop-timed l = l.list.items ++ map rule.pattern_of (drop l.timed-index l.patterns) ≡ map rule.pattern_of l.patterns
