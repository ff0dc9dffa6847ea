-- The example timetable, loaded from its files, and changed copies of these that are refused: each line
-- computes.
use Rattle.std.specs.Prelude.{◌≡◌, refl, ℕ, List, codes, [], ◌∷◌, ◌++◌, Result, Ok, Err}
use Rattle.gtfs_rows.specs.declared.column.Column.TheVariants as column
use Rattle.gtfs_rows.specs.declared.fault.RowFault.TheVariants as row_fault
use Rattle.sched_types.specs.City.{city}
use Rattle.sched_types.specs.Timetable.{Timetable}
use Rattle.sched_load_defs.specs.declared.fault.File.TheVariants as file
use Rattle.sched_load_defs.specs.declared.fault.LoadFault.{LoadFault}
use Rattle.sched_load_defs.specs.declared.fault.LoadFault.TheVariants as fault
use Rattle.sched_load_defs.specs.CityFiles.{city_folder, city_conf, stops_with, s1_row, s2_row, stops_txt, trips_with, trips_txt, stop_times_with, first_place, third_place, stop_times_txt, stop_times_short, behind_agency, files_with}
use Rattle.sched_load_defs.specs.Loading.{timetable}
use Rattle.sched_load_defs.proofs.OnFiles.{loading_on_files}

-- what the example's folder of files gives
abbrev outcome : List (List ℕ × List ℕ) → Result Timetable LoadFault
outcome files = timetable files city_folder city_conf

-- the whole timetable, its untimed place at 08:10:00
pub loads : outcome (files_with stops_txt trips_txt stop_times_txt) ≡ Ok city
unfolding loading_on_files
loads = refl

-- no agency.txt
pub no_agency : outcome (behind_agency stops_txt trips_txt stop_times_txt) ≡ Err (fault.MissingFile file.Agency)
unfolding loading_on_files
no_agency = refl

-- a column left out
pub no_column : outcome (files_with stops_txt trips_txt stop_times_short)
    ≡ Err (fault.Rows file.StopTimes (row_fault.MissingColumn column.StopSequence))
unfolding loading_on_files
no_column = refl

-- a time with 61 minutes
pub bad_time : outcome (files_with stops_txt trips_txt (stop_times_with (codes "T1,08:61:00,08:00:00,S1,1,\n") third_place))
    ≡ Err (fault.Rows file.StopTimes (row_fault.BadValue 2 column.ArrivalTime))
unfolding loading_on_files
bad_time = refl

-- a route that isn't there
pub no_route : outcome (files_with stops_txt (trips_with (codes "R8,WK,T1,Hill,0\n")) stop_times_txt)
    ≡ Err (fault.UnknownRef file.Trips 2 column.RouteId)
unfolding loading_on_files
no_route = refl

-- a stop that is there twice
pub stop_twice : outcome (files_with (stops_txt ++ codes "ST,Market,1,\n") trips_txt stop_times_txt)
    ≡ Err (fault.Duplicate file.Stops 7)
unfolding loading_on_files
stop_twice = refl

-- a parent_station that isn't there
pub no_parent : outcome (files_with (stops_with (codes "S1,Market A,0,SX\n") s2_row) trips_txt stop_times_txt)
    ≡ Err (fault.UnknownRef file.Stops 3 column.ParentStation)
unfolding loading_on_files
no_parent = refl

-- both: a stop that is there twice comes first, though its row is further behind
pub twice_and_no_parent : outcome (files_with (stops_with (codes "S1,Market A,0,SX\n") s2_row ++ codes "ST,Market,1,\n") trips_txt stop_times_txt)
    ≡ Err (fault.Duplicate file.Stops 7)
unfolding loading_on_files
twice_and_no_parent = refl

-- a name that isn't UTF-8
pub no_text : outcome (files_with (stops_with s1_row (codes "S2,Market B" ++ 0xFF ∷ codes ",0,ST\n")) trips_txt stop_times_txt)
    ≡ Err (fault.Rows file.Stops (row_fault.NotText 4 column.StopName))
unfolding loading_on_files
no_text = refl

-- a trip that leaves a stop before it is there
pub early_departure : outcome (files_with stops_txt trips_txt (stop_times_with first_place (codes "T1,08:20:00,08:19:00,S2,5,\n")))
    ≡ Err (fault.TripTimes 2)
unfolding loading_on_files
early_departure = refl

-- a zone that is no rule, before any file
pub no_zone : timetable [] city_folder (record { zone = []; first = 20250329; days = 3 }) ≡ Err fault.BadZone
unfolding loading_on_files
no_zone = refl
