-- Departures of runs by their numbers, and the rows that they become.
use Rattle.std.specs.Prelude.{◌<◌, [], length, slice_get, Some, unwrap_or}
use Rattle.std.specs.Option.{option_map}
use Rattle.std.specs.Ordering.{int_cmp, nat_cmp, ordering_then}
use Rattle.std.specs.declared.cmp.Ordering.{Ordering}
use Rattle.sched_types.specs.Timetable.{Timetable}
use Rattle.board_defs.specs.Rows.{BoardRow, RunOf, date_text, route_text, stop_id_of}
use Rattle.run_departures.specs.declared.departure.Departure.{Departure}

-- the row that a departure becomes
abbrev pub as_row : Timetable → Departure → BoardRow
as_row t d = let trip = slice_get t.trips d.run.trip in record {
  row = record {
    expected = d.expected;
    scheduled = Some d.scheduled;
    delay = d.delay;
    state = d.state;
    route = route_text t trip;
    headsign = unwrap_or (option_map (λ x. x.headsign) trip) [];
    trip = unwrap_or (option_map (λ x. x.id) trip) [];
    date = date_text t d.run.day;
    platform = stop_id_of t d.stop;
  };
  subject = RunOf d.run;
  place = d.place;
  stop = d.stop;
}

-- it is of a trip, a day and a stop of the timetable
pub record IsThere (t : Timetable) (d : Departure) : Type 0 where
  pub trip : d.run.trip < length t.trips
  pub day : d.run.day < length t.bases
  pub stop : d.stop < length t.stops

-- Departures go by the expected instant, the trip, the day and the place, as their rows do: numbers
-- of trips and of days stand for the texts of their ids and dates.
abbrev pub departure_cmp : Departure → Departure → Ordering
departure_cmp a b =
    ordering_then (int_cmp a.expected b.expected)
    (ordering_then (nat_cmp a.run.trip b.run.trip)
    (ordering_then (nat_cmp a.run.day b.run.day) (nat_cmp a.place b.place)))
