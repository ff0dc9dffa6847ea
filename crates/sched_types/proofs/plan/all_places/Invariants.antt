use Rattle.std.proofs.Common.{◌≡◌, length, map, sum_by, take}
use Rattle.sched_types.proofs.plan.all_places.Given as goal

abbrev pub invariant-loop-trip : goal.invariant-loop-trip
invariant-loop-trip l = l.total ≡ sum_by length (take l.trip-index (map (λ v. v.items) l.places))
