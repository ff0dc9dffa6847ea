use Rattle.std.proofs.Common.{◌≡◌, ◌++◌, drop}
use Rattle.std.specs.List.{flat_map}
use Rattle.sched_load_defs.specs.Frequencies as rule
use Rattle.freq_parts.proofs.derived.with_derived.Given as goal

abbrev pub invariant-loop-one : goal.invariant-loop-one
invariant-loop-one l = l.all.items ++ flat_map (rule.timed_of l.patterns) (drop l.one-index l.derived) ≡ l.fn.others.items ++ flat_map (rule.timed_of l.patterns) l.derived
