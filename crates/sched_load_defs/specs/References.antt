-- Which rows of a file refer to rows that aren't there, and which have the id of an earlier row. A
-- file is judged by this once all its rows could be read (GTFS Schedule, "Field Types", Foreign ID
-- and Unique ID).
use Rattle.std.specs.Prelude.{ℕ, ◌+◌, Bool, false, ◌&&◌, ◌||◌, ◌==◌, bytes_eq, if◌then◌else◌, List, [], ◌∷◌, take, Option, Some, None, option_map, Result}
use Rattle.std.specs.List.{list_any, enumerate_from}
use Rattle.answer_defs.specs.Steps.{◌>>=◌, unless}
use Rattle.answer_defs.specs.Choices.{or_else}
use Rattle.gtfs_rows.specs.declared.column.Column.{Column}
use Rattle.gtfs_rows.specs.declared.column.Column.TheVariants as column
use Rattle.gtfs_rows.specs.declared.rows.AgencyRow.{AgencyRow}
use Rattle.gtfs_rows.specs.declared.rows.StopRow.{StopRow}
use Rattle.gtfs_rows.specs.declared.rows.RouteRow.{RouteRow}
use Rattle.gtfs_rows.specs.declared.rows.TripRow.{TripRow}
use Rattle.gtfs_rows.specs.declared.rows.StopTimeRow.{StopTimeRow}
use Rattle.gtfs_rows.specs.declared.rows.CalendarRow.{CalendarRow}
use Rattle.gtfs_rows.specs.declared.rows.ExceptionRow.{ExceptionRow}
use Rattle.gtfs_rows.specs.declared.rows.FrequencyRow.{FrequencyRow}
use Rattle.sched_load_defs.specs.declared.fault.File.{File}
use Rattle.sched_load_defs.specs.declared.fault.File.TheVariants as file
use Rattle.sched_load_defs.specs.declared.fault.LoadFault.{LoadFault}
use Rattle.sched_load_defs.specs.declared.fault.LoadFault.TheVariants as fault

-- the first fault that an item of a list has, if any has one
abbrev pub first_fault : {X : Type 0} → (X → Option LoadFault) → List X → Option LoadFault
first_fault fault_of [] = None
first_fault fault_of (x ∷ xs) = or_else (fault_of x) (first_fault fault_of xs)

-- the number of a row of data by its place among them: the header of a file is row 1
abbrev pub row_at : ℕ → ℕ
row_at place = place + 2

-- an earlier row is the same one as the row at that place
abbrev pub is_twin : {R : Type 0} → (R → R → Bool) → List R → ℕ → R → Bool
is_twin same rows place row = list_any (λ earlier. same earlier row) (take place rows)

-- what is wrong with a row first: a reference to no row, in the order of the columns, or an earlier
-- row that is the same one
abbrev pub row_fault : {R : Type 0} → File → (R → Option Column) → (R → R → Bool) → List R → ℕ × R
    → Option LoadFault
row_fault name unknown same rows (place, row) =
    or_else (option_map (λ column. fault.UnknownRef name (row_at place) column) (unknown row))
    (if is_twin same rows place row then Some (fault.Duplicate name (row_at place)) else None)

-- the rows of a file, of which none is at fault, or the fault of the first that is
abbrev pub consistent : {R : Type 0} → File → (R → Option Column) → (R → R → Bool) → List R
    → Result (List R) LoadFault
consistent name unknown same rows =
    unless (first_fault (row_fault name unknown same rows) (enumerate_from 0 rows)) rows

-- a row has this id
abbrev pub has_id : {R : Type 0} → (R → List ℕ) → List R → List ℕ → Bool
has_id id_of rows id = list_any (λ row. bytes_eq (id_of row) id) rows

-- a column whose id is that of no row
abbrev pub unless_known : Column → Bool → Option Column
unless_known column known = if known then None else Some column

-- a file that refers to no other
abbrev pub refers_to_none : {R : Type 0} → R → Option Column
refers_to_none row = None

-- an agency has its agency_id alone, and an empty one is an id like any other here
abbrev pub consistent_agencies : List AgencyRow → Result (List AgencyRow) LoadFault
consistent_agencies =
    consistent file.Agency refers_to_none (λ a b. bytes_eq a.agency_id b.agency_id)

-- a stop's parent_station, which may be empty, is a stop
abbrev pub parent_fault : List StopRow → ℕ × StopRow → Option LoadFault
parent_fault rows (place, row) =
    if bytes_eq row.parent_station [] || has_id (λ stop. stop.stop_id) rows row.parent_station
    then None
    else Some (fault.UnknownRef file.Stops (row_at place) column.ParentStation)

-- the stops whose parent_station, if they have one, is a stop of the file, or the fault of the
-- first row that is at fault
abbrev pub with_parents : List StopRow → Result (List StopRow) LoadFault
with_parents rows = unless (first_fault (parent_fault rows) (enumerate_from 0 rows)) rows

-- no two stops have one stop_id, and then each parent_station is a stop
abbrev pub consistent_stops : List StopRow → Result (List StopRow) LoadFault
consistent_stops rows =
    consistent file.Stops refers_to_none (λ a b. bytes_eq a.stop_id b.stop_id) rows >>= with_parents

-- a route's agency_id, which may be empty, is an agency's
abbrev pub unknown_in_route : List AgencyRow → RouteRow → Option Column
unknown_in_route agencies row =
    unless_known column.AgencyId (bytes_eq row.agency_id []
    || has_id (λ agency. agency.agency_id) agencies row.agency_id)

-- and no two routes have one route_id
abbrev pub consistent_routes : List AgencyRow → List RouteRow → Result (List RouteRow) LoadFault
consistent_routes agencies =
    consistent file.Routes (unknown_in_route agencies) (λ a b. bytes_eq a.route_id b.route_id)

-- a trip's route_id is a route's; its service_id need stand in no other file
abbrev pub unknown_in_trip : List RouteRow → TripRow → Option Column
unknown_in_trip routes row =
    unless_known column.RouteId (has_id (λ route. route.route_id) routes row.route_id)

-- and no two trips have one trip_id
abbrev pub consistent_trips : List RouteRow → List TripRow → Result (List TripRow) LoadFault
consistent_trips routes =
    consistent file.Trips (unknown_in_trip routes) (λ a b. bytes_eq a.trip_id b.trip_id)

-- a stop time's trip_id is a trip's, and its stop_id is a stop's
abbrev pub unknown_in_stop_time : List TripRow → List StopRow → StopTimeRow → Option Column
unknown_in_stop_time trips stops row =
    or_else (unless_known column.TripId (has_id (λ trip. trip.trip_id) trips row.trip_id))
    (unless_known column.StopId (has_id (λ stop. stop.stop_id) stops row.stop_id))

-- and no two stop times of a trip have one stop_sequence
abbrev pub consistent_stop_times : List TripRow → List StopRow → List StopTimeRow
    → Result (List StopTimeRow) LoadFault
consistent_stop_times trips stops =
    consistent file.StopTimes (unknown_in_stop_time trips stops)
    (λ a b. bytes_eq a.trip_id b.trip_id && (a.stop_sequence == b.stop_sequence))

-- no two rows of calendar.txt have one service_id
abbrev pub consistent_calendar : List CalendarRow → Result (List CalendarRow) LoadFault
consistent_calendar =
    consistent file.Calendar refers_to_none (λ a b. bytes_eq a.service_id b.service_id)

-- no two rows of calendar_dates.txt have one service_id and one date
abbrev pub consistent_exceptions : List ExceptionRow → Result (List ExceptionRow) LoadFault
consistent_exceptions =
    consistent file.CalendarDates refers_to_none (λ a b. bytes_eq a.service_id b.service_id
    && (a.date == b.date))

-- the trip_id of a row of frequencies.txt is a trip's
abbrev pub unknown_in_frequency : List TripRow → FrequencyRow → Option Column
unknown_in_frequency trips row =
    unless_known column.TripId (has_id (λ trip. trip.trip_id) trips row.trip_id)

-- two rows may be about one trip; what they derive is judged later
abbrev pub consistent_frequencies : List TripRow → List FrequencyRow
    → Result (List FrequencyRow) LoadFault
consistent_frequencies trips =
    consistent file.Frequencies (unknown_in_frequency trips) (λ a b. false)
