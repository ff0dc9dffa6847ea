use Rattle.std.proofs.Common.{◌≡◌, ◌++◌, map, drop}
use Rattle.sched_load_defs.specs.Frequencies as rule
use Rattle.freq_parts.proofs.derived.numbered.Given as goal

abbrev pub invariant-loop-one : goal.invariant-loop-one
invariant-loop-one l = l.list.items ++ map (rule.plan_derived l.timed) (drop l.one-index l.derived) ≡ map (rule.plan_derived l.timed) l.derived
