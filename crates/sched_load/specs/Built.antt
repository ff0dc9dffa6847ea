-- What the loader makes of the rows that it read.
use Rattle.std.specs.Prelude.{◌≡◌, ℕ, ◌≤◌, ◌⊎◌, ◌==◌, bytes_eq, List, [], length, filter, slice_get, Option, Some, None, if◌then◌else◌, Result, Ok, Err}
use Rattle.gtfs_rows.specs.declared.rows.AgencyRow.{AgencyRow}
use Rattle.gtfs_rows.specs.declared.rows.StopRow.{StopRow}
use Rattle.gtfs_rows.specs.declared.rows.RouteRow.{RouteRow}
use Rattle.gtfs_rows.specs.declared.rows.TripRow.{TripRow}
use Rattle.sched_types.specs.declared.rows.Stop.{Stop}
use Rattle.sched_types.specs.declared.rows.Route.{Route}
use Rattle.sched_types.specs.declared.rows.Trip.{Trip}
use Rattle.sched_types.specs.declared.rows.Place.{Place}
use Rattle.sched_load.specs.declared.visits.Visit.{Visit}
use Rattle.sched_load.specs.Course.{places_in}
use Rattle.sched_load_defs.specs.Files.{most_rows}
use Rattle.sched_types.specs.Timetable.{Timetable, number_of}
use Rattle.sched_load_defs.specs.declared.fault.LoadFault.{LoadFault}
use Rattle.sched_load_defs.specs.declared.fault.LoadFault.TheVariants as fault
use Rattle.service_day.specs.Zone.{TzText}
use Rattle.sched_load_defs.specs.Frequencies.{load_answer_of, with_frequencies}
use Rattle.sched_load_defs.specs.Loading.{with_times}
use Rattle.sched_load_defs.specs.Numbers.{Dataset, by_id, known_number, timetable_of}
use Rattle.row_tables.specs.Alone.{RefusesAlone}

-- the times of all trips are in order
abbrev pub IsInOrder : Dataset → Type 0
IsInOrder d = with_times d ≡ Ok d

-- the same, or the fault of the first trip whose times are not
abbrev pub TimesAre : Dataset → Result (Unit {0}) LoadFault → Type 0
TimesAre d (Ok _) = with_times d ≡ Ok d
TimesAre d (Err e) = RefusesAlone (with_times d) e

-- the timetable of rows whose times are in order, for a window of days from a first one on; or the
-- fault of the trips that frequencies.txt gives
abbrev pub plan_told : TzText → ℕ → ℕ → Dataset → Result Timetable LoadFault
plan_told rule first days d =
    load_answer_of (with_frequencies d.frequencies (timetable_of rule first days d))

-- a plan is the timetable that is told, or the fault is the one that is told; memory may run out in
-- place of both
abbrev pub IsBuilt : Result Timetable LoadFault → Result Timetable LoadFault → Type 0
IsBuilt told (Ok plan) = told ≡ Ok plan
IsBuilt told (Err e) = (e ≡ fault.NoMemory) ⊎ RefusesAlone told e

-- a stop, among the rows of stops.txt
abbrev pub stop_in : List StopRow → StopRow → Stop
stop_in stops row =
    record {
      id = row.stop_id;
      name = row.stop_name;
      parent = number_of (λ stop. stop.stop_id)
          (by_id (λ stop. stop.stop_id) stops) row.parent_station;
    }

-- the number of the agency with an id: an empty one is the only agency's, where there is one agency
abbrev pub agency_in : List AgencyRow → List ℕ → Option ℕ
agency_in agencies id =
    if bytes_eq id [] then (if length agencies == 1 then Some 0 else None)
    else number_of (λ row. row.agency_id) (by_id (λ row. row.agency_id) agencies) id

-- a route, by the rows of agency.txt
abbrev pub route_in : List AgencyRow → RouteRow → Route
route_in agencies row =
    record {
      id = row.route_id;
      agency = agency_in agencies row.agency_id;
      short = row.route_short_name;
      long = row.route_long_name;
      kind = row.route_type;
    }

-- a trip, by the rows of routes.txt and the services
abbrev pub trip_in : List RouteRow → List (List ℕ) → TripRow → Trip
trip_in routes services row = record {
  id = row.trip_id;
  route = known_number (λ route. route.route_id)
      (by_id (λ route. route.route_id) routes) row.route_id;
  service = known_number (λ id. id) services row.service_id;
  headsign = row.trip_headsign;
  direction = row.direction_id;
}

-- there are no more visits than a file has rows, and their pickup_types are in range
pub record AreSmall (visits : List Visit) : Type 0 where
  pub few : length visits ≤ most_rows
  pub pickups : (i : ℕ) (visit : Visit) → slice_get visits i ≡ Some visit → visit.pickup ≤ 3

-- the places of a trip
abbrev pub places_of_trip : List Visit → ℕ → List Place
places_of_trip visits trip = places_in (filter (λ visit. visit.trip == trip) visits)
