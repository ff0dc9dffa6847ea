-- The rules on rows, one by one: each line computes.
use Rattle.std.specs.Prelude.{◌≡◌, refl, ℕ, true, false, List, codes, [], ◌∷◌, map, Some, None, Err}
use Rattle.text_defs.specs.Dates.{day_number, next_day, date_plus}
use Rattle.service_day.specs.Service.{is_active}
use Rattle.gtfs_rows.specs.declared.column.Column.TheVariants as column
use Rattle.gtfs_rows.specs.declared.rows.AgencyRow.{AgencyRow}
use Rattle.gtfs_rows.specs.declared.rows.StopRow.{StopRow}
use Rattle.gtfs_rows.specs.declared.rows.RouteRow.{RouteRow}
use Rattle.gtfs_rows.specs.declared.rows.TripRow.{TripRow}
use Rattle.gtfs_rows.specs.declared.rows.StopTimeRow.{StopTimeRow}
use Rattle.sched_load_defs.specs.declared.fault.File.TheVariants as file
use Rattle.sched_load_defs.specs.declared.fault.LoadFault.TheVariants as fault
use Rattle.sched_load_defs.specs.References.{consistent_agencies, consistent_routes, consistent_stop_times}
use Rattle.sched_load_defs.specs.Services.{active_days}
use Rattle.sched_load_defs.specs.Times.{Times, times_of, all_times, are_times, times_at, times_behind}
use Rattle.sched_load_defs.specs.Numbers.{Dataset, agency_of, agency_ids, service_ids, stop_times_of, rows_by_key}

-- ---- times

abbrev stays : ℕ → ℕ → Times
stays arrival departure = record { arrival = arrival; departure = departure }

-- an empty time takes the other time of its row
other_time : map (times_of (Some 7)) (None ∷ Some 9 ∷ []) ≡ Some (stays 7 7) ∷ Some (stays 7 9) ∷ []
other_time = refl

one_time : times_of None (Some 9) ≡ Some (stays 9 9)
one_time = refl

-- two places between 100 and 201 lie a third and two thirds of 101 seconds behind, rounded down; the time
-- at which the place before is left counts, and the time at which the one behind is reached
two_between : all_times (Some (stays 90 100) ∷ None ∷ None ∷ Some (stays 201 300) ∷ []) ≡ stays 90 100 ∷ times_at 133 ∷ times_at 167 ∷ stays 201 300 ∷ []
unfolding times_behind
two_between = refl

-- after a timed place the count begins anew
two_gaps : all_times (Some (stays 0 0) ∷ None ∷ Some (stays 10 20) ∷ None ∷ Some (stays 31 31) ∷ []) ≡ stays 0 0 ∷ times_at 5 ∷ stays 10 20 ∷ times_at 25 ∷ stays 31 31 ∷ []
unfolding times_behind
two_gaps = refl

-- the one place of a trip, which is untimed
lone_place : all_times (None ∷ []) ≡ times_at 0 ∷ []
unfolding times_behind
lone_place = refl

-- a trip with one place may have any times; one with two may have no untimed end, no departure before its
-- arrival, and no arrival before the last departure; the same second is fine
orders : map are_times (
    []
    ∷ (None ∷ [])
    ∷ (Some (stays 9 8) ∷ [])
    ∷ (Some (stays 1 1) ∷ None ∷ [])
    ∷ (None ∷ Some (stays 1 1) ∷ [])
    ∷ (Some (stays 9 8) ∷ Some (stays 10 10) ∷ [])
    ∷ (Some (stays 1 5) ∷ None ∷ Some (stays 4 4) ∷ [])
    ∷ (Some (stays 1 5) ∷ None ∷ Some (stays 5 5) ∷ [])
    ∷ []
    ) ≡ true ∷ true ∷ true ∷ false ∷ false ∷ false ∷ false ∷ true ∷ []
orders = refl

-- ---- references

abbrev agency : List ℕ → AgencyRow
agency id = record { agency_id = id }

abbrev route : List ℕ → List ℕ → RouteRow
route id agency_id = record { route_id = id; agency_id = agency_id; route_short_name = []; route_long_name = []; route_type = 3 }

abbrev trip : List ℕ → List ℕ → TripRow
trip id route_id = record { trip_id = id; route_id = route_id; service_id = codes "X"; trip_headsign = []; direction_id = None }

abbrev stop : List ℕ → StopRow
stop id = record { stop_id = id; stop_name = []; location_type = None; parent_station = [] }

abbrev stop_time : List ℕ → List ℕ → ℕ → StopTimeRow
stop_time trip_id stop_id sequence = record { trip_id = trip_id; stop_id = stop_id; stop_sequence = sequence; arrival_time = None; departure_time = None; pickup_type = None }

-- two agencies without an id are one agency twice
unnamed_agencies : consistent_agencies (agency [] ∷ agency [] ∷ []) ≡ Err (fault.Duplicate file.Agency 3)
unnamed_agencies = refl

-- a row that refers to nothing and is there twice refers to nothing first
twice_to_nothing : consistent_routes [] (route (codes "a") [] ∷ route (codes "a") (codes "B") ∷ []) ≡ Err (fault.UnknownRef file.Routes 3 column.AgencyId)
twice_to_nothing = refl

-- but the first row that is at fault comes first
earlier_row : consistent_routes [] (route (codes "a") [] ∷ route (codes "a") [] ∷ route (codes "b") (codes "B") ∷ []) ≡ Err (fault.Duplicate file.Routes 3)
earlier_row = refl

-- a stop time's trip before its stop
trip_first : consistent_stop_times [] [] (stop_time (codes "t") (codes "s") 1 ∷ []) ≡ Err (fault.UnknownRef file.StopTimes 2 column.TripId)
trip_first = refl

stop_second : consistent_stop_times (trip (codes "t") [] ∷ []) [] (stop_time (codes "t") (codes "s") 1 ∷ []) ≡ Err (fault.UnknownRef file.StopTimes 2 column.StopId)
stop_second = refl

-- one stop_sequence in two trips is fine, twice in one trip isn't
sequence_twice : consistent_stop_times (trip (codes "t") [] ∷ trip (codes "u") [] ∷ []) (stop (codes "s") ∷ [])
    (stop_time (codes "t") (codes "s") 1 ∷ stop_time (codes "u") (codes "s") 1 ∷ stop_time (codes "t") (codes "s") 1 ∷ [])
    ≡ Err (fault.Duplicate file.StopTimes 4)
sequence_twice = refl

-- ---- services

-- 1 to 7 March 2025, of which the second is a Sunday: Sundays and Mondays, with the Monday removed and the
-- Tuesday added
sundays : active_days
    (record { service_id = codes "X"; monday = 1; tuesday = 0; wednesday = 0; thursday = 0; friday = 0; saturday = 0; sunday = 1; start_date = 20250101; end_date = 20251231 } ∷ [])
    (record { service_id = codes "X"; date = 20250303; exception_type = 2 } ∷ record { service_id = codes "X"; date = 20250304; exception_type = 1 } ∷ [])
    20250301 7 (codes "X")
    ≡ 1 ∷ 3 ∷ []
unfolding day_number next_day date_plus is_active
sundays = refl

-- a service without a row of calendar.txt has its added days alone, and one without any row has none
added_only : map (active_days [] (record { service_id = codes "X"; date = 20250304; exception_type = 1 } ∷ []) 20250301 7) (codes "X" ∷ codes "Y" ∷ [])
    ≡ (3 ∷ []) ∷ [] ∷ []
unfolding day_number next_day date_plus is_active
added_only = refl

-- ---- numbers

abbrev no_rows : Dataset
no_rows = record { agencies = []; stops = []; routes = []; trips = []; stop_times = []; calendar = []; exceptions = []; frequencies = [] }

-- an empty agency_id is the only agency's, and of two agencies none
only_agency : agency_of (record no_rows { agencies = agency (codes "A") ∷ [] }) [] ≡ Some 0
only_agency = refl

no_agency : agency_of (record no_rows { agencies = agency (codes "A") ∷ agency [] ∷ [] }) [] ≡ None
no_agency = refl

-- ids by rising bytes: capitals first, and a beginning before what goes on
rising_ids : agency_ids (record no_rows { agencies = agency (codes "b") ∷ agency (codes "ab") ∷ agency (codes "B") ∷ agency (codes "a") ∷ [] })
    ≡ codes "B" ∷ codes "a" ∷ codes "ab" ∷ codes "b" ∷ []
unfolding rows_by_key
rising_ids = refl

-- services from each of three files, each once
all_services : service_ids (record no_rows {
  trips = trip (codes "t") (codes "r") ∷ [];
  exceptions = record { service_id = codes "A"; date = 20250304; exception_type = 1 } ∷ record { service_id = codes "A"; date = 20250305; exception_type = 1 } ∷ [];
}) ≡ codes "A" ∷ codes "X" ∷ []
unfolding rows_by_key
all_services = refl

-- places go by stop_sequence, and not by their order in the file
by_sequence : map (λ row. row.stop_sequence) (stop_times_of (stop_time (codes "t") (codes "s") 9 ∷ stop_time (codes "u") (codes "s") 3 ∷ stop_time (codes "t") (codes "s") 2 ∷ []) (codes "t"))
    ≡ 2 ∷ 9 ∷ []
unfolding rows_by_key
by_sequence = refl
