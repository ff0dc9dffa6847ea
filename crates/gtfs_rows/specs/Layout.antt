-- The places of the columns, as they are found once in a file, and cells by them.
use Rattle.std.specs.Prelude.{ℕ, List, map, slice_index_or, Option, None}
use Rattle.csv.specs.Records.{fields_of}
use Rattle.gtfs_rows.specs.Names.{all_columns, slot_of}
use Rattle.gtfs_rows.specs.Files.{field_in, place_of, trimmed_text}
use Rattle.gtfs_rows.specs.declared.column.Column.{Column}
use Rattle.gtfs_rows.specs.declared.cells.Cells.{Cells}

-- the place of each column in a header
abbrev pub places_in : List (List ℕ) → List (Option ℕ)
places_in header = map (place_of header) all_columns

-- a record's cell in a column, of which the place is known
unfoldable pub cell_at : List (Option ℕ) → List (List ℕ) → Column → List ℕ
cell_at places fields column =
    trimmed_text (field_in fields (slice_index_or places (slot_of column) None))

-- the cells of a record
abbrev pub cells_of : Cells → Column → List ℕ
cells_of cells = cell_at cells.places.now (fields_of cells.record.now)
