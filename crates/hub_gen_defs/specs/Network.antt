-- The files of a sample's timetable (GTFS Schedule Reference; RFC 4180, with nothing quoted).
use Rattle.std.specs.Prelude.{ℕ, ◌+◌, ◌*◌, ◌/◌, ◌%◌, List, [], ◌∷◌, ◌++◌, codes}
use Rattle.std.specs.Fmt.{decimal}
use Rattle.std.specs.List.{flat_map, join_with_byte, range_with_len}
use Rattle.text_defs.specs.Cleaned.{line_feed}
use Rattle.sched_load_defs.specs.Files.{path_of}
use Rattle.sched_load_defs.specs.declared.fault.File.TheVariants as file

-- ---- sizes

abbrev pub stops : ℕ
stops = 100

abbrev pub routes : ℕ
routes = 10

-- the places of a trip
abbrev pub places : ℕ
places = 20

-- ---- ids, by number from 0

abbrev pub stop_id : ℕ → List ℕ
stop_id number = codes "S" ++ decimal number

abbrev pub route_id : ℕ → List ℕ
route_id number = codes "R" ++ decimal number

abbrev pub trip_id : ℕ → List ℕ
trip_id number = codes "T" ++ decimal number

-- ---- rows

-- a line of a file: cells with a comma between any two
abbrev pub csv_line : List (List ℕ) → List ℕ
csv_line cells = join_with_byte 44 cells ++ line_feed

-- a file: the names of its columns, and its lines
abbrev pub csv_file : List ℕ → List ℕ → List ℕ
csv_file columns lines = columns ++ line_feed ++ lines

-- a number below 100 in two digits
abbrev pub two_digits : ℕ → List ℕ
two_digits number = (48 + number / 10) ∷ (48 + number % 10) ∷ []

-- a time in seconds as HH:MM:SS; the hours may pass a day
unfoldable pub time_text : ℕ → List ℕ
time_text seconds = two_digits (seconds / 3600) ++ 58 ∷ two_digits (seconds / 60 % 60)
    ++ 58 ∷ two_digits (seconds % 60)

-- one agency
abbrev pub agency_txt : List ℕ
agency_txt = csv_file (codes "agency_id") (csv_line (codes "A" ∷ []))

-- stops that have their ids as names
abbrev pub stop_line : ℕ → List ℕ
stop_line stop = csv_line (stop_id stop ∷ stop_id stop ∷ [] ∷ [] ∷ [])

unfoldable pub stops_txt : List ℕ
stops_txt = csv_file (codes "stop_id,stop_name,location_type,parent_station")
    (flat_map stop_line (range_with_len 0 stops))

-- bus routes of the agency that have their ids as short names
abbrev pub route_line : ℕ → List ℕ
route_line route = csv_line (route_id route ∷ codes "A" ∷ route_id route ∷ [] ∷ codes "3" ∷ [])

unfoldable pub routes_txt : List ℕ
routes_txt = csv_file (codes "route_id,agency_id,route_short_name,route_long_name,route_type")
    (flat_map route_line (range_with_len 0 routes))

-- the routes have the trips in turn
abbrev pub trip_line : ℕ → List ℕ
trip_line trip =
    csv_line (trip_id trip ∷ route_id (trip % routes) ∷ codes "X" ∷ [] ∷ codes "0" ∷ [])

unfoldable pub trips_txt : ℕ → List ℕ
trips_txt trips = csv_file (codes "trip_id,route_id,service_id,trip_headsign,direction_id")
    (flat_map trip_line (range_with_len 0 trips))

-- the stop of a place of a trip, by their numbers from 0: trips go round all stops, by one, two or
-- three
abbrev pub stop_at : ℕ → ℕ → ℕ
stop_at trip place = (7 * trip + place * (1 + trip % 3)) % stops

-- when a trip is there, in seconds: a trip begins each minute of a day, and places are two minutes
-- apart
abbrev pub time_at : ℕ → ℕ → ℕ
time_at trip place = 60 * trip % 86400 + 120 * place

-- a place of a trip
abbrev pub stop_time_line : ℕ → ℕ → List ℕ
stop_time_line trip place =
    csv_line (trip_id trip ∷ stop_id (stop_at trip place) ∷ decimal (place + 1)
    ∷ time_text (time_at trip place) ∷ time_text (time_at trip place) ∷ codes "0" ∷ [])

-- all places of a trip
abbrev pub trip_places : ℕ → List ℕ
trip_places trip = flat_map (stop_time_line trip) (range_with_len 0 places)

unfoldable pub stop_times_txt : ℕ → List ℕ
stop_times_txt trips =
    csv_file (codes "trip_id,stop_id,stop_sequence,arrival_time,departure_time,pickup_type")
    (flat_map trip_places (range_with_len 0 trips))

-- one service on all days of a week
abbrev pub calendar_txt : List ℕ
calendar_txt =
    csv_file
    (codes "service_id,monday,tuesday,wednesday,thursday,friday,saturday,sunday,start_date,end_date")
    (csv_line (codes "X" ∷ codes "1" ∷ codes "1" ∷ codes "1" ∷ codes "1" ∷ codes "1" ∷ codes "1"
    ∷ codes "1" ∷ codes "20250101" ∷ codes "20250107" ∷ []))

-- ---- the files

-- the folder in which they lie, which is the schedule's name too
abbrev pub sample_name : List ℕ
sample_name = codes "gen"

-- the six files of a timetable of so many trips, with their paths
abbrev pub sample_files : ℕ → List (List ℕ × List ℕ)
sample_files trips =
    (path_of sample_name file.Agency, agency_txt) ∷ (path_of sample_name file.Stops, stops_txt)
    ∷ (path_of sample_name file.Routes, routes_txt)
    ∷ (path_of sample_name file.Trips, trips_txt trips)
    ∷ (path_of sample_name file.StopTimes, stop_times_txt trips)
    ∷ (path_of sample_name file.Calendar, calendar_txt) ∷ []
