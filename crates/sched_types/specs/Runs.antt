-- The runs of a timetable, and the places of a trip at which passengers may get on.
use Rattle.std.specs.Prelude.{ℕ, ◌-◌, List, length, map, take, filter}
use Rattle.std.specs.List.{enumerate_from, flat_map, range_with_len}
use Rattle.sched_types.specs.declared.rows.Place.{Place}
use Rattle.sched_types.specs.declared.rows.Run.{Run}
use Rattle.sched_types.specs.Timetable.{Timetable, places_of, is_run}

-- all runs of a timetable, by day and then by trip
unfoldable pub all_runs : Timetable → List Run
all_runs t =
    filter (is_run t)
    (flat_map (λ day. map (λ trip. record { trip = trip; day = day })
    (range_with_len 0 (length t.trips)))
    (range_with_len 0 (length t.bases)))

-- the places of a trip but the last, from which nobody leaves, with their numbers
abbrev pub departures_of : Timetable → ℕ → List (ℕ × Place)
departures_of t trip = let places = places_of t trip in
    enumerate_from 0 (take (length places - 1) places)
