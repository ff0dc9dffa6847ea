use Rattle.std.proofs.Common.{◌≡◌, ◌+◌, sum_by, take}
use Rattle.sched_types.proofs.derived.with_patterns.Given as goal

abbrev pub invariant-loop-pattern : goal.invariant-loop-pattern
invariant-loop-pattern l = l.total ≡ l.count + sum_by (λ pattern. pattern.places) (take l.pattern-index l.patterns)
