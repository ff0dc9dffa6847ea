use Rattle.std.proofs.Common.{◌≡◌, map}
use Rattle.std.specs.List.{range_with_len}
use Rattle.sched_load.specs.Built.{places_of_trip}
use Rattle.sched_load.proofs.build.places_lists.Given as goal

abbrev pub invariant-loop-trip : goal.invariant-loop-trip
invariant-loop-trip l = map (λ v. v.items) l.lists.items ≡ map (places_of_trip l.visits) (range_with_len 0 l.trip)
