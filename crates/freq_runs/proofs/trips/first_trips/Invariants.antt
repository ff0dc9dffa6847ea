use Rattle.std.proofs.Common.{◌≡◌, ◌+◌, ◌*◌, map}
use Rattle.std.specs.List.{range_with_len}
use Rattle.freq_runs.specs.Trips.{trip_at}
use Rattle.freq_runs.proofs.trips.first_trips.Given as goal

abbrev pub invariant-loop-x : goal.invariant-loop-x
invariant-loop-x l = l.trips.items ≡ map (λ x. trip_at l.row.pattern l.pattern (l.row.start + x * l.row.headway)) (range_with_len 0 l.x)
