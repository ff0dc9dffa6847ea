-- Trips that are found by their route, direction and first departure, without their ids (GTFS
-- Realtime, TripDescriptor: route_id, direction_id and start_time).
use Rattle.std.specs.Prelude.{◌≡◌, ℕ, Bool, false, ◌&&◌, ◌==◌, Option, Some, None, option_and_then, unwrap_or, List, [], length, filter, slice_get}
use Rattle.std.specs.List.{range_with_len}
use Rattle.std.specs.List.Sorted.{IsSortedByKey}
use Rattle.std.specs.Option.{option_cmp}
use Rattle.std.specs.Ordering.{nat_cmp, ordering_then}
use Rattle.std.specs.declared.cmp.Ordering.{Ordering}
use Rattle.sched_types.specs.declared.departures.Departure.{Departure}
use Rattle.sched_types.specs.declared.rows.Trip.{Trip}
use Rattle.sched_types.specs.declared.rows.Place.{Place}
use Rattle.sched_types.specs.Timetable.{Timetable}

-- what a trip is found by, if it has a direction and a first place
abbrev pub in_direction : ℕ → Option Place → ℕ → Option Departure
in_direction route None direction = None
in_direction route (Some place) direction =
    Some (record { route = route; direction = direction; seconds = place.departure })

abbrev pub departure_by : Option Trip → Option Place → Option Departure
departure_by None place = None
departure_by (Some trip) place = option_and_then (in_direction trip.route place) trip.direction

abbrev pub departure_of : List Trip → List (List Place) → ℕ → Option Departure
departure_of trips places trip =
    departure_by (slice_get trips trip) (slice_get (unwrap_or (slice_get places trip) []) 0)

abbrev pub is_departure : Departure → Option Departure → Bool
is_departure wanted None = false
is_departure wanted (Some d) = (d.route == wanted.route) && (d.direction == wanted.direction)
    && (d.seconds == wanted.seconds)

abbrev pub leaves_so : List Trip → List (List Place) → Departure → ℕ → Bool
leaves_so trips places wanted trip = is_departure wanted (departure_of trips places trip)

-- a trip of that route and direction whose first place is left at that time
abbrev pub departs_so : Timetable → ℕ → ℕ → ℕ → ℕ → Bool
departs_so t route direction departure trip =
    leaves_so t.trips t.places
    (record { route = route; direction = direction; seconds = departure }) trip

-- departures go by route, then by direction, then by time
abbrev pub departure_cmp : Departure → Departure → Ordering
departure_cmp a b =
    ordering_then (nat_cmp a.route b.route)
    (ordering_then (nat_cmp a.direction b.direction) (nat_cmp a.seconds b.seconds))

-- the numbers of all trips, by their departures; those with one departure by rising numbers
pub record AreInOrder (trips : List Trip) (places : List (List Place))
    (order : List ℕ) : Type 0 where
  pub sorted : IsSortedByKey (departure_of trips places) (option_cmp departure_cmp) order
  pub same : (wanted : Departure) → filter (leaves_so trips places wanted) order
      ≡ filter (leaves_so trips places wanted) (range_with_len 0 (length trips))
