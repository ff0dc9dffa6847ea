use Rattle.std.proofs.Common.{◌≡◌}
use Rattle.gtfs_rows.specs.Files.{rows_from}
use Rattle.gtfs_rows.specs.Layout.{cell_at}
use Rattle.gtfs_rows.specs.Reading.{IsReading, records_left}
use Rattle.gtfs_rows.proofs.FileLemmas.{behind}
use Rattle.gtfs_rows.proofs.file.read_data.Given as goal

-- the rows so far, and those of the records that are left, are all that is told
abbrev pub invariant-loop-row : goal.invariant-loop-row
invariant-loop-row g l =
    IsReading l.reader
    × (rows_from g.R.Row.columns (cell_at l.fn.places) 2 (records_left l.fn.reader) ≡ behind l.rows.items (rows_from g.R.Row.columns (cell_at l.places) l.row (records_left l.reader)))
