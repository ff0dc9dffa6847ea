-- A file of the example that can't be read, with the others as they are or changed: a fault of what comes
-- before it is the outcome, and one of what comes behind it isn't. Each line computes.
use Rattle.std.specs.Prelude.{◌≡◌, refl, ℕ, List, [], codes, Result, Err}
use Rattle.sched_types.specs.Timetable.{Timetable}
use Rattle.sched_load_defs.specs.CityFiles.{city_folder, city_conf, stops_txt, trips_with, trips_txt, stop_times_txt, behind_agency, files_with}
use Rattle.sched_load_defs.specs.Files.{unreadable}
use Rattle.sched_load_defs.specs.Loading.{timetable_where}
use Rattle.sched_load_defs.specs.Stops.{StopsAt}
use Rattle.sched_load_defs.specs.declared.fault.File.{File}
use Rattle.sched_load_defs.specs.declared.fault.File.TheVariants as file
use Rattle.sched_load_defs.specs.declared.fault.LoadFault.{LoadFault}
use Rattle.sched_load_defs.specs.declared.fault.LoadFault.TheVariants as fault
use Rattle.gtfs_rows.specs.declared.column.Column.TheVariants as column
use Rattle.sched_load_defs.proofs.OnFiles.{loading_on_files}

-- what the example's folder gives where one of its files can't be read
abbrev without : File → List (List ℕ × List ℕ) → Result Timetable LoadFault
without broken files = timetable_where (unreadable broken files city_folder) city_conf

-- the last file, behind six that are right
pub last_file : without file.CalendarDates (files_with stops_txt trips_txt stop_times_txt) ≡ Err fault.FileFault
unfolding loading_on_files
last_file = refl

pub stops_there : StopsAt (files_with stops_txt trips_txt stop_times_txt) city_folder city_conf (codes "city/calendar_dates.txt")
unfolding loading_on_files
stops_there = record { broken = file.CalendarDates; place = refl; first = refl }

-- the first file, where nothing else is there
pub first_file : without file.Agency [] ≡ Err fault.FileFault
unfolding loading_on_files
first_file = refl

-- stops.txt, but there is no agency.txt
pub none_before : without file.Stops (behind_agency stops_txt trips_txt stop_times_txt) ≡ Err (fault.MissingFile file.Agency)
unfolding loading_on_files
none_before = refl

-- stop_times.txt, but a trip before it has a route that isn't there
pub fault_before : without file.StopTimes (files_with stops_txt (trips_with (codes "R8,WK,T1,Hill,0\n")) stop_times_txt)
    ≡ Err (fault.UnknownRef file.Trips 2 column.RouteId)
unfolding loading_on_files
fault_before = refl

-- stops.txt: the trip's route is looked for later
pub fault_behind : without file.Stops (files_with stops_txt (trips_with (codes "R8,WK,T1,Hill,0\n")) stop_times_txt) ≡ Err fault.FileFault
unfolding loading_on_files
fault_behind = refl

-- the zone comes before all files
pub zone_before : timetable_where (unreadable file.Agency [] city_folder) (record { zone = []; first = 20250329; days = 3 }) ≡ Err fault.BadZone
unfolding loading_on_files
zone_before = refl
