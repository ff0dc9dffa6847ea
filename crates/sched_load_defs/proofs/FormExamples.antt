-- Copies of the example's files that differ in form alone give the same timetable, and calendars in other
-- files: each line computes.
use Rattle.std.specs.Prelude.{◌≡◌, refl, ℕ, List, codes, [], ◌∷◌, ◌++◌, Result, Ok, Err}
use Rattle.sched_types.specs.City.{city}
use Rattle.sched_types.specs.Timetable.{Timetable}
use Rattle.sched_load_defs.specs.Files.{path_of}
use Rattle.sched_load_defs.specs.declared.fault.File.TheVariants as file
use Rattle.sched_load_defs.specs.declared.fault.LoadFault.{LoadFault}
use Rattle.sched_load_defs.specs.declared.fault.LoadFault.TheVariants as fault
use Rattle.sched_load_defs.specs.CityFiles.{city_folder, city_conf, agency_txt, stops_txt, routes_txt, trips_txt, stop_times_txt, files_with}
use Rattle.sched_load_defs.specs.Loading.{timetable}
use Rattle.sched_load_defs.proofs.OnFiles.{loading_on_files}

abbrev outcome : List (List ℕ × List ℕ) → Result Timetable LoadFault
outcome files = timetable files city_folder city_conf

-- a byte order mark in front
abbrev marked : List ℕ → List ℕ
marked bytes = 0xEF ∷ 0xBB ∷ 0xBF ∷ bytes

-- columns in another order, with one that isn't read, blanks around cells, and a quoted one
abbrev other_trips : List ℕ
other_trips =
    codes "trip_headsign,trip_id,note,service_id,direction_id,route_id\n"
    ++ codes "Hill,T1,x,WK,0,R7\n Hill ,\"T2\",y,WK,0,R7\nHill,N1,,WK,0,R7\n"

-- rows that end before empty last fields
abbrev short_stops : List ℕ
short_stops =
    codes "stop_id,stop_name,location_type,parent_station\nST,Market,1\nS1,Market A,0,ST\n"
    ++ codes "S2,Market B,0,ST\nS3,Harbour\nS4,Hill\n"

pub other_forms : outcome (files_with (marked short_stops) other_trips (marked stop_times_txt)) ≡ Ok city
unfolding loading_on_files
other_forms = refl

-- the dates of two services, one day of both; a service that only calendar_dates.txt names counts
abbrev dates_txt : List ℕ → List ℕ
dates_txt rows = codes "service_id,date,exception_type\n" ++ rows

pub two_services : outcome (files_with stops_txt trips_txt stop_times_txt
    ++ (path_of city_folder file.CalendarDates, dates_txt (codes "WK,20250330,2\nXX,20250330,1\n")) ∷ [])
    ≡ Ok (record city { active = (0 ∷ 2 ∷ []) ∷ (1 ∷ []) ∷ [] })
unfolding loading_on_files
two_services = refl

pub date_twice : outcome (files_with stops_txt trips_txt stop_times_txt
    ++ (path_of city_folder file.CalendarDates, dates_txt (codes "WK,20250330,2\nWK,20250330,1\n")) ∷ [])
    ≡ Err (fault.Duplicate file.CalendarDates 3)
unfolding loading_on_files
date_twice = refl

-- without calendar.txt
pub no_calendar : outcome (
    (path_of city_folder file.Agency, agency_txt)
    ∷ (path_of city_folder file.Stops, stops_txt)
    ∷ (path_of city_folder file.Routes, routes_txt)
    ∷ (path_of city_folder file.Trips, trips_txt)
    ∷ (path_of city_folder file.StopTimes, stop_times_txt)
    ∷ (path_of city_folder file.CalendarDates, dates_txt (codes "WK,20250331,1\n"))
    ∷ [])
    ≡ Ok (record city { active = (2 ∷ []) ∷ [] })
unfolding loading_on_files
no_calendar = refl
