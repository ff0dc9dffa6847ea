-- What the rows of a file are, or its first fault, from the records into which `csv` cuts its
-- bytes.
use Rattle.std.specs.Prelude.{ℕ, Bool, ◌||◌, ◌==◌, nat_le, if◌then◌else◌, bytes_eq, is_none, List, [], ◌∷◌, map, slice_index_or, Option, Some, None, Result, Err, Vec}
use Rattle.std.specs.List.{position_from, enumerate_from}
use Rattle.answer_defs.specs.Choices.{or_else}
use Rattle.answer_defs.specs.Steps.{all_ok}
use Rattle.csv.specs.Reading.{records, default_config, strip_bom}
use Rattle.gtfs_rows.specs.Names.{column_name}
use Rattle.gtfs_rows.specs.Tables.{Columns}
use Rattle.gtfs_rows.specs.declared.column.Column.{Column}
use Rattle.gtfs_rows.specs.declared.column.Heading.{Heading}
use Rattle.gtfs_rows.specs.declared.column.Heading.TheVariants.{Required, Optional}
use Rattle.std.specs.declared.alloc.Global.{Global}
use Rattle.gtfs_rows.specs.declared.fault.RowFault.{RowFault}
use Rattle.gtfs_rows.specs.declared.fault.RowFault.TheVariants as fault

-- spaces and tabs
abbrev pub is_blank : ℕ → Bool
is_blank b = (b == 32) || (b == 9)

-- bytes without the blanks in front of them
abbrev pub trimmed_start : List ℕ → List ℕ
trimmed_start [] = []
trimmed_start (b ∷ bytes) = if is_blank b then trimmed_start bytes else b ∷ bytes

-- a byte in front of bytes that have no blanks behind them
abbrev pub before_trimmed : ℕ → List ℕ → List ℕ
before_trimmed b [] = if is_blank b then [] else b ∷ []
before_trimmed b (c ∷ bytes) = b ∷ c ∷ bytes

-- bytes without the blanks behind them
abbrev pub trimmed_end : List ℕ → List ℕ
trimmed_end [] = []
trimmed_end (b ∷ bytes) = before_trimmed b (trimmed_end bytes)

-- bytes without blanks at both ends
unfoldable pub trimmed_text : List ℕ → List ℕ
trimmed_text bytes = trimmed_end (trimmed_start bytes)

-- where a column stands: at the first field of the header that is its name
abbrev pub place_of : List (List ℕ) → Column → Option ℕ
place_of header column =
    position_from (λ name. bytes_eq (trimmed_text name) (column_name column)) 0 header

-- the field at a place: empty where there is no such place, or the record is too short for it
abbrev pub field_in : List (List ℕ) → Option ℕ → List ℕ
field_in fields None = []
field_in fields (Some place) = slice_index_or fields place []

-- a record's cell in a column
abbrev pub cell_of : List (List ℕ) → List (List ℕ) → Column → List ℕ
cell_of header fields column = trimmed_text (field_in fields (place_of header column))

-- the column that a header lacks, where the file may not do without it
abbrev pub missing_in : List (List ℕ) → Heading → Option Column
missing_in header (Required column) = if is_none (place_of header column) then Some column else None
missing_in header (Optional column) = None

-- the first column that a header lacks
abbrev pub first_missing : List (List ℕ) → List Heading → Option Column
first_missing header [] = None
first_missing header (heading ∷ headings) =
    or_else (missing_in header heading) (first_missing header headings)

-- the row of the last record that a file may have: its header, and 4,000,000 rows of data
abbrev pub last_row : ℕ
last_row = 4000001

-- what a record of data says, of which the number among all records is given, and the cells
abbrev pub row_of : {R : Type 0} → Columns R → (List (List ℕ) → Column → List ℕ) → ℕ × List (List ℕ)
    → Result R RowFault
row_of columns cells (row, fields) = if nat_le row last_row then columns.read row (cells fields)
    else Err fault.TooMany

-- the rows of records, the first of which has this number among all records; or the first fault
unfoldable pub rows_from : {R : Type 0} → Columns R → (List (List ℕ) → Column → List ℕ) → ℕ
    → List (List (List ℕ)) → Result (List R) RowFault
rows_from columns cells row recs = all_ok (map (row_of columns cells) (enumerate_from row recs))

-- the fault of a missing column, or else the rows
abbrev pub unless_missing : {R : Type 0} → Option Column → Result (List R) RowFault
    → Result (List R) RowFault
unless_missing None rows = rows
unless_missing (Some column) rows = Err (fault.MissingColumn column)

-- the rows of a file with this header and these records of data, or its first fault
abbrev pub rows_under : {R : Type 0} → Columns R → List (List ℕ) → List (List (List ℕ))
    → Result (List R) RowFault
rows_under columns header recs =
    unless_missing (first_missing header columns.headings)
    (rows_from columns (cell_of header) 2 recs)

-- the same of all records: the first is the header, and a file without records has an empty one
abbrev pub rows_of_records : {R : Type 0} → Columns R → List (List (List ℕ))
    → Result (List R) RowFault
rows_of_records columns [] = rows_under columns [] []
rows_of_records columns (header ∷ recs) = rows_under columns header recs

-- the rows of a file with these columns, or its first fault
unfoldable pub rows_of : {R : Type 0} → Columns R → List ℕ → Result (List R) RowFault
rows_of columns bytes = rows_of_records columns (records default_config (strip_bom bytes))

-- the fault that an error tells: want of memory tells none
abbrev pub cause_of : RowFault → Option RowFault
cause_of (fault.MissingColumn column) = Some (fault.MissingColumn column)
cause_of (fault.BadValue row column) = Some (fault.BadValue row column)
cause_of (fault.NotText row column) = Some (fault.NotText row column)
cause_of fault.TooMany = Some fault.TooMany
cause_of fault.NoMemory = None

-- the rows that a reader gave, as a list
abbrev pub items_of : {R : Type 0} → Vec R Global → List R
items_of rows = rows.items
