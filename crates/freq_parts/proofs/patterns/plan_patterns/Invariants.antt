use Rattle.std.proofs.Common.{◌≡◌, ◌++◌, map, drop}
use Rattle.sched_load_defs.specs.Frequencies as rule
use Rattle.freq_parts.proofs.patterns.plan_patterns.Given as goal

abbrev pub invariant-loop-timed : goal.invariant-loop-timed
invariant-loop-timed l = l.list.items ++ map rule.plan_pattern (drop l.timed-index l.patterns) ≡ map rule.plan_pattern l.patterns
