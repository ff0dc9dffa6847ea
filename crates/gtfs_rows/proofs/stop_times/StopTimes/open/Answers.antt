use Rattle.std.proofs.Common.{◌∙◌, ap, sym}
use Rattle.csv.specs.Records.{fields_of}
use Rattle.gtfs_rows.specs.Files.{rows_from}
use Rattle.gtfs_rows.specs.Files.{first_missing as missing_of}
use Rattle.gtfs_rows.specs.Layout.{cell_at}
use Rattle.gtfs_rows.specs.Reading.{records_left}
use Rattle.gtfs_rows.specs.StopTimes.{rows_to_come}
use Rattle.gtfs_rows.specs.Tables.{stop_times}
use Rattle.gtfs_rows.proofs.FileLemmas.{rows_missing, rows_present}
use Rattle.gtfs_rows.proofs.stop_times.StopTimes.open.Goals as goal

pub returns-in-Some-clause-opens : goal.returns-in-Some-clause-opens
returns-in-Some-clause-opens c =
    let header = fields_of c.read_header.new.header in
    rows_missing stop_times c.args.bytes.now c.in_ok-found.found header c.read_header.new.reader c.in-Some.column (rw c.open-reader.ensures.left at c.in_ok-found.ensures.ok)
    (ap (missing_of header) (sym c.headings.ensures) ∙ sym c.first_missing.ensures ∙ c.in-Some.is)

pub returns-clause-opens : goal.returns-clause-opens
unfolding rows_to_come
returns-clause-opens c =
    let header = fields_of c.read_header.new.header in
    rows_present stop_times c.args.bytes.now c.in_ok-found.found header c.read_header.new.reader (rw c.open-reader.ensures.left at c.in_ok-found.ensures.ok) c.if-not-found.false
    (ap (missing_of header) (sym c.headings.ensures) ∙ sym c.first_missing.ensures ∙ c.in_default.is)
    ∙ ap (λ places. rows_from stop_times (cell_at places) 2 (records_left c.read_header.new.reader)) (sym c.place_columns-places.ensures)
