-- The rows of stop_times.txt that a reader has yet to give.
use Rattle.std.specs.Prelude.{◌≡◌, ℕ, ◌≤◌, List, [], ◌∷◌, Option, Some, None, Result, Ok, Err}
use Rattle.answer_defs.specs.Defined.{IsCause}
use Rattle.answer_defs.specs.Steps.{◌>>=◌}
use Rattle.gtfs_rows.specs.Files.{cause_of, rows_from}
use Rattle.gtfs_rows.specs.Layout.{cell_at}
use Rattle.gtfs_rows.specs.Reading.{IsReading, records_left}
use Rattle.gtfs_rows.specs.Tables.{stop_times}
use Rattle.gtfs_rows.specs.declared.fault.RowFault.{RowFault}
use Rattle.gtfs_rows.specs.declared.rows.StopTimeRow.{StopTimeRow}
use Rattle.gtfs_rows.specs.declared.stop_times.StopTimes.{StopTimes}

-- the rows to come, or their first fault
unfoldable pub rows_to_come : StopTimes → Result (List StopTimeRow) RowFault
rows_to_come rows = rows_from stop_times (cell_at rows.places) rows.row (records_left rows.reader)

-- the number of the row to come: the header is row 1
abbrev pub row_to_come : StopTimes → ℕ
row_to_come rows = rows.row

-- the reader may be asked for a row
pub record IsOpen (rows : StopTimes) : Type 0 where
  pub reading : IsReading rows.reader
  pub first : 2 ≤ rows.row
  pub last : rows.row ≤ 4000002

-- a reader that gives the rows that a file has, or the first fault of the file
abbrev pub Opens : Result (List StopTimeRow) RowFault → Result StopTimes RowFault → Type 0
Opens defined (Ok rows) = defined ≡ rows_to_come rows
Opens defined (Err e) = IsCause defined (cause_of e)

-- the first of the rows to come, with those behind it; that there is none; or the first fault
abbrev pub GivesRow : Result (List StopTimeRow) RowFault → Result (Option StopTimeRow) RowFault
    → Result (List StopTimeRow) RowFault → Type 0
GivesRow before (Ok None) after = before ≡ Ok []
GivesRow before (Ok (Some row)) after = before ≡ (after >>= λ rows. Ok (row ∷ rows))
GivesRow before (Err e) after = IsCause before (cause_of e)
