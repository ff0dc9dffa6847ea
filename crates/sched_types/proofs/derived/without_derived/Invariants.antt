use Rattle.std.proofs.Common.{◌≡◌, ◌-◌, map, take}
use Rattle.sched_types.specs.Timetable.{places_derived}
use Rattle.sched_types.proofs.derived.without_derived.Given as goal

abbrev pub invariant-loop-trip : goal.invariant-loop-trip
invariant-loop-trip l = l.left ≡ l.total - places_derived (map (λ v. v.items) l.places) (take l.trip-index l.derived)
