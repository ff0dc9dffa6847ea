-- The line that tells why a timetable is refused.
use Rattle.std.specs.Prelude.{ℕ, List, [], ◌++◌, codes}
use Rattle.std.specs.Fmt.{decimal}
use Rattle.gtfs_rows.specs.Names.{column_name}
use Rattle.gtfs_rows.specs.declared.column.Column.{Column}
use Rattle.gtfs_rows.specs.declared.fault.RowFault.{RowFault}
use Rattle.gtfs_rows.specs.declared.fault.RowFault.TheVariants as rows
use Rattle.sched_load_defs.specs.Files.{file_name}
use Rattle.sched_load_defs.specs.declared.fault.File.{File}
use Rattle.sched_load_defs.specs.declared.fault.LoadFault.{LoadFault}
use Rattle.sched_load_defs.specs.declared.fault.LoadFault.TheVariants as fault

-- a file and one of its columns
abbrev pub column_words : File → Column → List ℕ
column_words file column = file_name file ++ codes " " ++ column_name column

-- a file, a row of it and a column
abbrev pub cell_words : File → ℕ → Column → List ℕ
cell_words file row column = file_name file ++ codes " " ++ decimal row ++ codes " "
    ++ column_name column

-- what is wrong with the rows of a file; want of memory is no fault of theirs
abbrev pub row_words : File → RowFault → List ℕ
row_words file (rows.MissingColumn column) = codes "column " ++ column_words file column
row_words file (rows.BadValue row column) = codes "value " ++ cell_words file row column
row_words file (rows.NotText row column) = codes "text " ++ cell_words file row column
row_words file rows.TooMany = codes "many " ++ file_name file
row_words file rows.NoMemory = []

-- what is wrong with a timetable; want of memory and a file that can't be read are no faults of it
abbrev pub load_words : LoadFault → List ℕ
load_words fault.BadZone = codes "zone"
load_words (fault.MissingFile file) = codes "missing " ++ file_name file
load_words (fault.TooLong file) = codes "long " ++ file_name file
load_words (fault.Rows file e) = row_words file e
load_words (fault.UnknownRef file row column) = codes "reference " ++ cell_words file row column
load_words (fault.Duplicate file row) = codes "duplicate " ++ file_name file ++ codes " "
    ++ decimal row
load_words (fault.TripTimes row) = codes "times " ++ decimal row
load_words fault.FileFault = []
load_words fault.NoMemory = []
