-- What an index keeps of a timetable.
use Rattle.std.specs.Prelude.{ℕ, ◌+◌, ◌-◌, Bool, List, length, map, filter, int_le}
use Rattle.std.specs.List.{flat_map, list_all, range_with_len}
use Rattle.std.specs.Ordering.{nat_cmp, ordering_then}
use Rattle.std.specs.declared.cmp.Ordering.{Ordering}
use Rattle.order.specs.Order.{ordered}
use Rattle.sched_types.specs.declared.rows.Place.{Place}
use Rattle.sched_types.specs.Timetable.{Timetable, base_of}
use Rattle.stop_index.specs.declared.trip_departure.TripDeparture.{TripDeparture}
use Rattle.sched_types.specs.Runs.{departures_of}
use Rattle.stop_index.specs.Slots.{is_at}

-- for each stop its departures, on whatever day, and whether no day begins later than the day after
-- it
pub record Index : Type 0 where
  pub departures : List (List TripDeparture)
  pub days_rise : Bool

-- the departure of a trip from a numbered place
abbrev pub trip_departure : ℕ → ℕ × Place → TripDeparture
trip_departure trip numbered =
    record { seconds = numbered.1.departure; trip = trip; place = numbered.0 }

-- the departures of a trip at a stop
abbrev pub trip_departures : Timetable → ℕ → ℕ → List TripDeparture
trip_departures t stop trip =
    map (trip_departure trip) (filter (is_at stop) (departures_of t trip))

-- by time, trip and place
abbrev pub departure_cmp : TripDeparture → TripDeparture → Ordering
departure_cmp a b =
    ordering_then (nat_cmp a.seconds b.seconds)
    (ordering_then (nat_cmp a.trip b.trip) (nat_cmp a.place b.place))

-- the departures of all trips at a stop, in order
abbrev pub departures_at : Timetable → ℕ → List TripDeparture
departures_at t stop =
    ordered departure_cmp
    (flat_map (trip_departures t stop) (range_with_len 0 (length t.trips)))

-- no day's times are counted from a later instant than those of the day after
abbrev pub days_are_rising : Timetable → Bool
days_are_rising t =
    list_all (λ day. int_le (base_of t day) (base_of t (day + 1)))
    (range_with_len 0 (length t.bases - 1))

-- the index of a timetable
unfoldable pub index_of : Timetable → Index
index_of t = record {
  departures = map (departures_at t) (range_with_len 0 (length t.stops));
  days_rise = days_are_rising t;
}
