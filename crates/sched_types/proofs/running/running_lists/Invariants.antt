use Rattle.std.proofs.Common.{◌≡◌, map, take}
use Rattle.sched_types.specs.Sound.{days_marked}
use Rattle.sched_types.proofs.running.running_lists.Given as goal

abbrev pub invariant-loop-days : goal.invariant-loop-days
invariant-loop-days l = map (λ v. v.items) l.lists.items ≡ map (days_marked l.count) (take l.days-index (map (λ v. v.items) l.active))
