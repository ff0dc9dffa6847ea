use Rattle.std.proofs.Common.{◌≡◌, ◌++◌, map, drop}
use Rattle.sched_types.specs.declared.rows.Trip.{Trip}
use Rattle.freq_parts.proofs.patterns.trip_ids.Given as goal

abbrev pub invariant-loop-trip : goal.invariant-loop-trip
invariant-loop-trip l = l.ids.items ++ map (λ (trip : Trip). trip.id) (drop l.trip-index l.trips) ≡ map (λ (trip : Trip). trip.id) l.trips
