use Rattle.std.proofs.Common.{◌≡◌, length, map}
use Rattle.std.specs.List.{range_with_len}
use Rattle.sched_types.proofs.ChildrenLemmas.{children_among}
use Rattle.sched_types.proofs.children.children_lists.Given as goal

abbrev pub invariant-loop-number : goal.invariant-loop-number
invariant-loop-number l = map (λ v. v.items) l.lists.items ≡ map (children_among l.stops l.number) (range_with_len 0 (length l.stops))
