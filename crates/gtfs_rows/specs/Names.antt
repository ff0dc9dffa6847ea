-- The names of the columns that are read, as the GTFS Schedule Reference spells them.
use Rattle.std.specs.Prelude.{ℕ, List, [], ◌∷◌, codes}
use Rattle.gtfs_rows.specs.declared.column.Column.{Column}
use Rattle.gtfs_rows.specs.declared.column.Column.TheVariants as column

-- the name that heads a column
abbrev pub column_name : Column → List ℕ
column_name column.AgencyId = codes "agency_id"
column_name column.StopId = codes "stop_id"
column_name column.StopName = codes "stop_name"
column_name column.LocationType = codes "location_type"
column_name column.ParentStation = codes "parent_station"
column_name column.RouteId = codes "route_id"
column_name column.RouteShortName = codes "route_short_name"
column_name column.RouteLongName = codes "route_long_name"
column_name column.RouteType = codes "route_type"
column_name column.TripId = codes "trip_id"
column_name column.ServiceId = codes "service_id"
column_name column.TripHeadsign = codes "trip_headsign"
column_name column.DirectionId = codes "direction_id"
column_name column.StopSequence = codes "stop_sequence"
column_name column.ArrivalTime = codes "arrival_time"
column_name column.DepartureTime = codes "departure_time"
column_name column.PickupType = codes "pickup_type"
column_name column.Monday = codes "monday"
column_name column.Tuesday = codes "tuesday"
column_name column.Wednesday = codes "wednesday"
column_name column.Thursday = codes "thursday"
column_name column.Friday = codes "friday"
column_name column.Saturday = codes "saturday"
column_name column.Sunday = codes "sunday"
column_name column.StartDate = codes "start_date"
column_name column.EndDate = codes "end_date"
column_name column.Date = codes "date"
column_name column.ExceptionType = codes "exception_type"
column_name column.StartTime = codes "start_time"
column_name column.EndTime = codes "end_time"
column_name column.HeadwaySecs = codes "headway_secs"
column_name column.ExactTimes = codes "exact_times"

-- a number for each column
abbrev pub slot_of : Column → ℕ
slot_of column.AgencyId = 0
slot_of column.StopId = 1
slot_of column.StopName = 2
slot_of column.LocationType = 3
slot_of column.ParentStation = 4
slot_of column.RouteId = 5
slot_of column.RouteShortName = 6
slot_of column.RouteLongName = 7
slot_of column.RouteType = 8
slot_of column.TripId = 9
slot_of column.ServiceId = 10
slot_of column.TripHeadsign = 11
slot_of column.DirectionId = 12
slot_of column.StopSequence = 13
slot_of column.ArrivalTime = 14
slot_of column.DepartureTime = 15
slot_of column.PickupType = 16
slot_of column.Monday = 17
slot_of column.Tuesday = 18
slot_of column.Wednesday = 19
slot_of column.Thursday = 20
slot_of column.Friday = 21
slot_of column.Saturday = 22
slot_of column.Sunday = 23
slot_of column.StartDate = 24
slot_of column.EndDate = 25
slot_of column.Date = 26
slot_of column.ExceptionType = 27
slot_of column.StartTime = 28
slot_of column.EndTime = 29
slot_of column.HeadwaySecs = 30
slot_of column.ExactTimes = 31

-- all columns, by that number
abbrev pub all_columns : List Column
all_columns =
    column.AgencyId ∷ column.StopId ∷ column.StopName ∷ column.LocationType ∷ column.ParentStation
    ∷ column.RouteId ∷ column.RouteShortName ∷ column.RouteLongName ∷ column.RouteType
    ∷ column.TripId ∷ column.ServiceId ∷ column.TripHeadsign ∷ column.DirectionId
    ∷ column.StopSequence ∷ column.ArrivalTime ∷ column.DepartureTime
    ∷ column.PickupType ∷ column.Monday ∷ column.Tuesday ∷ column.Wednesday
    ∷ column.Thursday ∷ column.Friday ∷ column.Saturday ∷ column.Sunday
    ∷ column.StartDate ∷ column.EndDate ∷ column.Date ∷ column.ExceptionType
    ∷ column.StartTime ∷ column.EndTime ∷ column.HeadwaySecs ∷ column.ExactTimes
    ∷ []
