-- Where the files of a GTFS dataset lie, and what the rows of a file are, or its first fault.
use Rattle.std.specs.Prelude.{ℕ, ◌-◌, ◌==◌, nat_lt, if◌then◌else◌, List, [], ◌∷◌, ◌++◌, length, codes, Option, Some, None, Result, Ok, Err}
use Rattle.gtfs_rows.specs.Files.{last_row, rows_of}
use Rattle.gtfs_rows.specs.Tables.{Columns}
use Rattle.gtfs_rows.specs.declared.fault.RowFault.{RowFault}
use Rattle.hub_outside.specs.Files.{file_at}
use Rattle.sched_load_defs.specs.declared.fault.File.{File}
use Rattle.sched_load_defs.specs.declared.fault.File.TheVariants as file
use Rattle.sched_load_defs.specs.declared.fault.LoadFault.{LoadFault}
use Rattle.sched_load_defs.specs.declared.fault.LoadFault.TheVariants as fault

-- the name of a file (GTFS Schedule, "Dataset Files")
abbrev pub file_name : File → List ℕ
file_name file.Agency = codes "agency.txt"
file_name file.Stops = codes "stops.txt"
file_name file.Routes = codes "routes.txt"
file_name file.Trips = codes "trips.txt"
file_name file.StopTimes = codes "stop_times.txt"
file_name file.Calendar = codes "calendar.txt"
file_name file.CalendarDates = codes "calendar_dates.txt"
file_name file.Frequencies = codes "frequencies.txt"

-- its place in the order in which the files are read, from 0 on
abbrev pub file_place : File → ℕ
file_place file.Agency = 0
file_place file.Stops = 1
file_place file.Routes = 2
file_place file.Trips = 3
file_place file.StopTimes = 4
file_place file.Calendar = 5
file_place file.CalendarDates = 6
file_place file.Frequencies = 7

-- the path of a file in a folder: a slash stands between them
abbrev pub path_of : List ℕ → File → List ℕ
path_of folder name = folder ++ 47 ∷ file_name name

-- what stands at each file of a folder: its bytes, if it is there
abbrev pub stored_in : List (List ℕ × List ℕ) → List ℕ → File → Result (Option (List ℕ)) LoadFault
stored_in files folder name = Ok (file_at files (path_of folder name))

-- the same where one of the files can't be read
abbrev pub unreadable : File → List (List ℕ × List ℕ) → List ℕ → File
    → Result (Option (List ℕ)) LoadFault
unreadable broken files folder name =
    if file_place name == file_place broken then Err fault.FileFault
    else stored_in files folder name

-- the most bytes that a file may have
abbrev pub longest_file : ℕ
longest_file = 268435456

-- the most rows of data that a file may have: its last row, without the header
abbrev pub most_rows : ℕ
most_rows = last_row - 1

-- the rows of a file, or the fault that it has by itself
abbrev pub of_file : {A : Type 0} → File → Result A RowFault → Result A LoadFault
of_file name (Ok rows) = Ok rows
of_file name (Err e) = Err (fault.Rows name e)

-- the rows of a file with these bytes, which must not be too many
abbrev pub rows_within : {R : Type 0} → File → Columns R → List ℕ → Result (List R) LoadFault
rows_within name columns bytes =
    if nat_lt longest_file (length bytes) then Err (fault.TooLong name)
    else of_file name (rows_of columns bytes)

-- the rows of a file that a dataset must have
abbrev pub required_rows : {R : Type 0} → File → Columns R → Option (List ℕ)
    → Result (List R) LoadFault
required_rows name columns None = Err (fault.MissingFile name)
required_rows name columns (Some bytes) = rows_within name columns bytes

-- the rows of a file that may be absent, and has no rows then
abbrev pub optional_rows : {R : Type 0} → File → Columns R → Option (List ℕ)
    → Result (List R) LoadFault
optional_rows name columns None = Ok []
optional_rows name columns (Some bytes) = rows_within name columns bytes
