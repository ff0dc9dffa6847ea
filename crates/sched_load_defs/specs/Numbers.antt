-- The timetable of a dataset's rows: they are listed by rising bytes of their ids, and refer to one
-- another by their places in these lists.
use Rattle.std.specs.Prelude.{ℕ, ◌==◌, bytes_eq, if◌then◌else◌, List, [], ◌∷◌, ◌++◌, length, map, filter, zip, Option, Some, None, unwrap_or}
use Rattle.std.specs.Cmp.Lexicographic.{slice_cmp}
use Rattle.std.specs.FinMap.Entries.{put}
use Rattle.std.specs.List.{range_with_len}
use Rattle.std.specs.Ordering.{nat_cmp}
use Rattle.std.specs.declared.cmp.Ordering.{Ordering}
use Rattle.gtfs_rows.specs.declared.rows.AgencyRow.{AgencyRow}
use Rattle.gtfs_rows.specs.declared.rows.StopRow.{StopRow}
use Rattle.gtfs_rows.specs.declared.rows.RouteRow.{RouteRow}
use Rattle.gtfs_rows.specs.declared.rows.TripRow.{TripRow}
use Rattle.gtfs_rows.specs.declared.rows.StopTimeRow.{StopTimeRow}
use Rattle.gtfs_rows.specs.declared.rows.CalendarRow.{CalendarRow}
use Rattle.gtfs_rows.specs.declared.rows.ExceptionRow.{ExceptionRow}
use Rattle.gtfs_rows.specs.declared.rows.FrequencyRow.{FrequencyRow}
use Rattle.text_defs.specs.Dates.{date_plus}
use Rattle.service_day.specs.Zone.{TzText, base_of}
use Rattle.sched_types.specs.declared.rows.Stop.{Stop}
use Rattle.sched_types.specs.declared.rows.Route.{Route}
use Rattle.sched_types.specs.declared.rows.Trip.{Trip}
use Rattle.sched_types.specs.declared.rows.Place.{Place}
use Rattle.sched_types.specs.Timetable.{Timetable, number_of}
use Rattle.sched_load_defs.specs.Services.{active_days}
use Rattle.sched_load_defs.specs.Times.{Times, times_of, all_times}

-- the rows of the eight files
pub record Dataset : Type 0 where
  pub agencies : List AgencyRow
  pub stops : List StopRow
  pub routes : List RouteRow
  pub trips : List TripRow
  pub stop_times : List StopTimeRow
  pub calendar : List CalendarRow
  pub exceptions : List ExceptionRow
  pub frequencies : List FrequencyRow

-- rows under their keys, by rising keys; of rows with one key the first counts
abbrev pub rows_with_keys : {K R : Type 0} → (K → K → Ordering) → (R → K) → List R → List (K × R)
rows_with_keys order key [] = []
rows_with_keys order key (row ∷ rows) = put order (key row) row (rows_with_keys order key rows)

-- rows by rising keys
unfoldable pub rows_by_key : {K R : Type 0} → (K → K → Ordering) → (R → K) → List R → List R
rows_by_key order key rows = map (λ entry. entry.1) (rows_with_keys order key rows)

-- rows by rising bytes of their ids
abbrev pub by_id : {R : Type 0} → (R → List ℕ) → List R → List R
by_id id_of rows = rows_by_key (slice_cmp nat_cmp) id_of rows

-- the agency_ids
abbrev pub agency_ids : Dataset → List (List ℕ)
agency_ids dataset = by_id (λ id. id) (map (λ row. row.agency_id) dataset.agencies)

abbrev pub stop_rows : Dataset → List StopRow
stop_rows dataset = by_id (λ row. row.stop_id) dataset.stops

abbrev pub route_rows : Dataset → List RouteRow
route_rows dataset = by_id (λ row. row.route_id) dataset.routes

abbrev pub trip_rows : Dataset → List TripRow
trip_rows dataset = by_id (λ row. row.trip_id) dataset.trips

-- every service_id that a file names
abbrev pub service_ids : Dataset → List (List ℕ)
service_ids dataset =
    by_id (λ id. id)
    (map (λ row. row.service_id) dataset.trips ++ map (λ row. row.service_id) dataset.calendar
    ++ map (λ row. row.service_id) dataset.exceptions)

-- the number of a row that is there
abbrev pub known_number : {R : Type 0} → (R → List ℕ) → List R → List ℕ → ℕ
known_number id_of rows id = unwrap_or (number_of id_of rows id) 0

-- a stop; an empty parent_station names none, since no stop has an empty id
abbrev pub stop_of : Dataset → StopRow → Stop
stop_of dataset row = record {
  id = row.stop_id;
  name = row.stop_name;
  parent = number_of (λ stop. stop.stop_id) (stop_rows dataset) row.parent_station;
}

-- the agency of a route with that agency_id: an empty one is the only agency's, where there is one
-- agency
abbrev pub agency_of : Dataset → List ℕ → Option ℕ
agency_of dataset id =
    if bytes_eq id [] then (if length dataset.agencies == 1 then Some 0 else None)
    else number_of (λ id. id) (agency_ids dataset) id

abbrev pub route_of : Dataset → RouteRow → Route
route_of dataset row = record {
  id = row.route_id;
  agency = agency_of dataset row.agency_id;
  short = row.route_short_name;
  long = row.route_long_name;
  kind = row.route_type;
}

abbrev pub trip_of : Dataset → TripRow → Trip
trip_of dataset row = record {
  id = row.trip_id;
  route = known_number (λ route. route.route_id) (route_rows dataset) row.route_id;
  service = known_number (λ id. id) (service_ids dataset) row.service_id;
  headsign = row.trip_headsign;
  direction = row.direction_id;
}

-- the stop times of a trip, in order of stop_sequence
abbrev pub stop_times_of : List StopTimeRow → List ℕ → List StopTimeRow
stop_times_of rows trip_id =
    rows_by_key nat_cmp (λ row. row.stop_sequence)
    (filter (λ row. bytes_eq row.trip_id trip_id) rows)

-- their times, where they have any
abbrev pub given_times : List StopTimeRow → List (Option Times)
given_times rows = map (λ row. times_of row.arrival_time row.departure_time) rows

-- a place of a trip, with its times; an empty pickup_type is 0
abbrev pub place_of : Dataset → StopTimeRow × Times → Place
place_of dataset (row, times) = record {
  stop = known_number (λ stop. stop.stop_id) (stop_rows dataset) row.stop_id;
  sequence = row.stop_sequence;
  arrival = times.arrival;
  departure = times.departure;
  pickup = unwrap_or row.pickup_type 0;
}

-- the places of stop times
abbrev pub places_with : Dataset → List StopTimeRow → List Place
places_with dataset rows = map (place_of dataset) (zip rows (all_times (given_times rows)))

-- The timetable of rows that are consistent, in a zone, for a window of days from a first one on,
-- in which each trip of trips.txt is one trip: as if there were no frequencies.txt.
unfoldable pub timetable_of : TzText → ℕ → ℕ → Dataset → Timetable
timetable_of rule first days dataset = record {
  agencies = agency_ids dataset;
  stops = map (stop_of dataset) (stop_rows dataset);
  routes = map (route_of dataset) (route_rows dataset);
  trips = map (trip_of dataset) (trip_rows dataset);
  places = map (λ trip. places_with dataset (stop_times_of dataset.stop_times trip.trip_id))
      (trip_rows dataset);
  active = map (active_days dataset.calendar dataset.exceptions first days) (service_ids dataset);
  first = first;
  bases = map (λ day. base_of rule (date_plus first day)) (range_with_len 0 days);
  patterns = [];
  derived = [];
}
