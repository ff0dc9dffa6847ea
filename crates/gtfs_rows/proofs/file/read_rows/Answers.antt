use Rattle.std.proofs.Common.{◌∙◌, ap, sym, Ok}
use Rattle.csv.specs.Records.{fields_of}
use Rattle.gtfs_rows.specs.Files.{rows_from, items_of, rows_of}
use Rattle.gtfs_rows.specs.Files.{first_missing as missing_of}
use Rattle.gtfs_rows.specs.Layout.{cell_at}
use Rattle.gtfs_rows.specs.Reading.{records_left}
use Rattle.gtfs_rows.proofs.FileLemmas.{answers-same, rows_absent, rows_missing, rows_present}
use Rattle.gtfs_rows.proofs.file.read_rows.Goals as goal

pub returns-in-Some : goal.returns-in-Some
returns-in-Some g c =
    let header = fields_of c.read_header.new.header in
    rows_missing g.R.Row.columns c.args.bytes.now c.in_ok-found.found header c.read_header.new.reader c.in-Some.column (rw c.open-reader.ensures.left at c.in_ok-found.ensures.ok)
    (ap (missing_of header) (sym c.headings.ensures) ∙ sym c.first_missing.ensures ∙ c.in-Some.is)

pub returns-then-not-found : goal.returns-then-not-found
returns-then-not-found g c =
    let header = fields_of c.read_header.new.header in
    rows_absent g.R.Row.columns c.args.bytes.now c.in_ok-found.found header c.read_header.new.reader (rw c.open-reader.ensures.left at c.in_ok-found.ensures.ok) c.if-not-found.true
    (ap (missing_of header) (sym c.headings.ensures) ∙ sym c.first_missing.ensures ∙ c.in_default.is)
    ∙ ap (λ rows. Ok rows) (sym c.new.ensures.items)

pub returns : goal.returns
returns g c =
    let header = fields_of c.read_header.new.header in
    let told = rows_from g.R.Row.columns (cell_at c.place_columns-places.result) 2 (records_left c.read_header.new.reader) in
    answers-same items_of (rows_of g.R.Row.columns c.args.bytes.now) told c.read_data.result
    (rows_present g.R.Row.columns c.args.bytes.now c.in_ok-found.found header c.read_header.new.reader (rw c.open-reader.ensures.left at c.in_ok-found.ensures.ok) c.if-not-found.false
    (ap (missing_of header) (sym c.headings.ensures) ∙ sym c.first_missing.ensures ∙ c.in_default.is)
    ∙ ap (λ places. rows_from g.R.Row.columns (cell_at places) 2 (records_left c.read_header.new.reader)) (sym c.place_columns-places.ensures))
    c.read_data.ensures
