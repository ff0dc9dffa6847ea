-- The departures of each stop, as trip after trip adds its own.
use Rattle.std.specs.Prelude.{◌≡◌, ℕ, List, ◌++◌, length, map}
use Rattle.std.specs.List.{flat_map, range_with_len}
use Rattle.sched_types.specs.Timetable.{Timetable}
use Rattle.stop_index.specs.declared.trip_departure.TripDeparture.{TripDeparture}
use Rattle.stop_index.specs.Index.{trip_departures}

-- a list for each stop
abbrev pub for_stops : Timetable → (ℕ → List TripDeparture) → List (List TripDeparture)
for_stops t of_stop = map of_stop (range_with_len 0 (length t.stops))

-- for each stop the departures of the first trips
abbrev pub gathered : Timetable → ℕ → List (List TripDeparture)
gathered t count =
    for_stops t (λ stop. flat_map (trip_departures t stop) (range_with_len 0 count))

-- whatever was there of each stop, the departures of the trip come after it
pub record AddsTrip (t : Timetable) (trip : ℕ) (old new : List (List TripDeparture)) : Type 0 where
  pub adds : (before : ℕ → List TripDeparture) → old ≡ for_stops t before
      → new ≡ for_stops t (λ stop. before stop ++ trip_departures t stop trip)
