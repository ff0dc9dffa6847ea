-- The files of the timetable `city` of `sched_types`, as an example, and the parts of which changed
-- copies are made.
use Rattle.std.specs.Prelude.{ℕ, List, [], ◌∷◌, ◌++◌, codes}
use Rattle.sched_load_defs.specs.Files.{path_of}
use Rattle.sched_load_defs.specs.declared.conf.PlanConf.{PlanConf}
use Rattle.sched_load_defs.specs.declared.fault.File.TheVariants as file

-- the folder
abbrev pub city_folder : List ℕ
city_folder = codes "city"

-- three days on which the clock goes forward once
abbrev pub city_conf : PlanConf
city_conf = record { zone = codes "CET-1CEST,M3.5.0,M10.5.0/3"; first = 20250329; days = 3 }

abbrev pub agency_txt : List ℕ
agency_txt = codes "agency_id,agency_name\nA,City\n"

-- stops.txt with the row of the stop S1 and that of the stop S2
abbrev pub stops_with : List ℕ → List ℕ → List ℕ
stops_with s1 s2 =
    codes "stop_id,stop_name,location_type,parent_station\nST,Market,1,\n" ++ s1 ++ s2
    ++ codes "S3,Harbour,,\nS4,Hill,,\n"

abbrev pub s1_row : List ℕ
s1_row = codes "S1,Market A,0,ST\n"

abbrev pub s2_row : List ℕ
s2_row = codes "S2,Market B,0,ST\n"

abbrev pub stops_txt : List ℕ
stops_txt = stops_with s1_row s2_row

abbrev pub routes_txt : List ℕ
routes_txt = codes "route_id,agency_id,route_short_name,route_type\nR7,A,7,3\n"

-- trips.txt with the row of the trip T1
abbrev pub trips_with : List ℕ → List ℕ
trips_with t1 = codes "route_id,service_id,trip_id,trip_headsign,direction_id\n" ++ t1
    ++ codes "R7,WK,T2,Hill,0\nR7,WK,N1,Hill,0\n"

abbrev pub trips_txt : List ℕ
trips_txt = trips_with (codes "R7,WK,T1,Hill,0\n")

-- stop_times.txt with the rows of the first and the third place of the trip T1
abbrev pub stop_times_with : List ℕ → List ℕ → List ℕ
stop_times_with first third =
    codes "trip_id,arrival_time,departure_time,stop_id,stop_sequence,pickup_type\n" ++ first
    ++ codes "T1,,,S3,2,\n" ++ third
    ++ codes "T1,08:30:00,08:30:00,S4,9,\nT2,08:21:00,08:21:00,S2,1,0\nT2,8:40:00,8:40:00,S4,2,0\nN1,25:10:00,25:10:00,S1,1,\nN1,25:40:00,25:40:00,S4,2,\n"

abbrev pub first_place : List ℕ
first_place = codes "T1,08:00:00,08:00:00,S1,1,\n"

abbrev pub third_place : List ℕ
third_place = codes "T1,08:20:00,08:21:00,S2,5,\n"

abbrev pub stop_times_txt : List ℕ
stop_times_txt = stop_times_with first_place third_place

-- stop_times.txt without the column stop_sequence
abbrev pub stop_times_short : List ℕ
stop_times_short =
    codes "trip_id,arrival_time,departure_time,stop_id,pickup_type\nT1,08:00:00,08:00:00,S1,\n"

abbrev pub calendar_txt : List ℕ
calendar_txt =
    codes "service_id,monday,tuesday,wednesday,thursday,friday,saturday,sunday,start_date,end_date\nWK,1,1,1,1,1,1,1,20250329,20250331\n"

-- the files, of which stops.txt, trips.txt and stop_times.txt are given, without agency.txt
abbrev pub behind_agency : List ℕ → List ℕ → List ℕ → List (List ℕ × List ℕ)
behind_agency stops trips stop_times =
    (path_of city_folder file.Stops, stops)
    ∷ (path_of city_folder file.Routes, routes_txt)
    ∷ (path_of city_folder file.Trips, trips)
    ∷ (path_of city_folder file.StopTimes, stop_times)
    ∷ (path_of city_folder file.Calendar, calendar_txt)
    ∷ []

-- the files, of which stops.txt, trips.txt and stop_times.txt are given
abbrev pub files_with : List ℕ → List ℕ → List ℕ → List (List ℕ × List ℕ)
files_with stops trips stop_times = (path_of city_folder file.Agency, agency_txt)
    ∷ behind_agency stops trips stop_times
