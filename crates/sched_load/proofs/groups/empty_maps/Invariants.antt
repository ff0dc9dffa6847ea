use Rattle.std.proofs.Common.{◌≡◌, map, []}
use Rattle.std.specs.List.{range_with_len}
use Rattle.sched_load.specs.Listed.{entries_of}
use Rattle.sched_load.proofs.groups.empty_maps.Given as goal

abbrev pub invariant-loop : goal.invariant-loop
invariant-loop g l = entries_of l.maps.items ≡ map (λ _. []) (range_with_len 0 l.counter)
