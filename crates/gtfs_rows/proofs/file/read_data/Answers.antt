use Rattle.std.proofs.Common.{◌≡◌, ◌∙◌, ◌≤◌, ◌+◌, ap, arith, sym, false}
use Rattle.std.specs.Prelude.{nat_le}
use Rattle.std.proofs.lemmas.Bool.{le-leb, lt-leb}
use Rattle.std.proofs.lemmas.Result.{err_from_is_err_and}
use Rattle.csv.specs.Records.{fields_of}
use Rattle.gtfs_rows.specs.Files.{rows_from}
use Rattle.gtfs_rows.specs.Layout.{cell_at}
use Rattle.gtfs_rows.specs.Reading.{records_left}
use Rattle.gtfs_rows.proofs.FileLemmas.{answers-fault, behind, rows-fault, rows-many, rows-next, rows-none}
use Rattle.gtfs_rows.proofs.file.read_data.Goals as goal

-- all rows are read
pub returns-then-not-branch : goal.returns-then-not-branch
returns-then-not-branch g c =
    let cells = cell_at c.args.places.now in
    let none = rw c.if-not-branch.true at c.in_ok-advance.ensures.ok in
    c.loop-row.invariant.1 ∙ ap (λ recs. behind c.loop-row.rows.items (rows_from g.R.Row.columns cells c.loop-row.row recs)) none
    ∙ rows-none g.R.Row.columns cells c.loop-row.row c.loop-row.rows.items

-- a row has a fault
pub returns-in_err-of_cells : goal.returns-in_err-of_cells
returns-in_err-of_cells g c =
    let cells = cell_at c.args.places.now in
    let next = rw c.if-not-branch.false at c.in_ok-advance.ensures.ok in
    let small : c.loop-row.row ≤ 4000001 = omega arith in
    let told = rows_from g.R.Row.columns cells 2 (records_left c.args.reader.now) in
    let fields = fields_of c.advance.new.into in
    let exit = err_from_is_err_and c.from_residual-in_err-of_cells.result c.from_residual-in_err-of_cells.ensures.1 in
    rw (exit.1, exit.2) (
    answers-fault (g.R.Row.columns.read c.loop-row.row (cells fields)) told c.in_err-of_cells.field-0.0
    (λ f e.
    c.loop-row.invariant.1 ∙ ap (λ recs. behind c.loop-row.rows.items (rows_from g.R.Row.columns cells c.loop-row.row recs)) next.1
    ∙ rows-fault g.R.Row.columns cells c.loop-row.row c.loop-row.rows.items fields (records_left c.advance.new.reader) f (le-leb c.loop-row.row 4000001 small) e)
    c.in_err-of_cells.ensures
    )

-- a row is read
pub loop-row-preserved : goal.loop-row-preserved
loop-row-preserved g c =
    let cells = cell_at c.args.places.now in
    let next = rw c.if-not-branch.false at c.in_ok-advance.ensures.ok in
    let small : c.loop-row.row ≤ 4000001 = omega arith in
    let items = c.in_ok-push.ensures.items in (
      next.0,
      c.loop-row.invariant.1 ∙ ap (λ recs. behind c.loop-row.rows.items (rows_from g.R.Row.columns cells c.loop-row.row recs)) next.1
          ∙ rows-next g.R.Row.columns cells c.loop-row.row c.loop-row.rows.items (fields_of c.advance.new.into) (records_left c.advance.new.reader) c.in_ok-of_cells.field-0
          (le-leb c.loop-row.row 4000001 small) c.in_ok-of_cells.ensures
          ∙ ap (λ done. behind done (rows_from g.R.Row.columns cells (c.loop-row.row + 1) (records_left c.advance.new.reader))) (sym items),
    )

-- one record more than a file may have
pub returns-then-branch : goal.returns-then-branch
returns-then-branch g c =
    let cells = cell_at c.args.places.now in
    let next = rw c.if-branch.true at c.in_ok-advance-2.ensures.ok in
    let large : nat_le c.loop-row.row 4000001 ≡ false = lt-leb c.loop-row.row 4000001 (omega arith) in
    c.loop-row.invariant.1 ∙ ap (λ recs. behind c.loop-row.rows.items (rows_from g.R.Row.columns cells c.loop-row.row recs)) next.1
    ∙ rows-many g.R.Row.columns cells c.loop-row.row c.loop-row.rows.items (fields_of c.advance-2.new.into) (records_left c.advance-2.new.reader) large

pub returns : goal.returns
returns g c =
    let cells = cell_at c.args.places.now in
    let none = rw c.if-branch.false at c.in_ok-advance-2.ensures.ok in
    c.loop-row.invariant.1 ∙ ap (λ recs. behind c.loop-row.rows.items (rows_from g.R.Row.columns cells c.loop-row.row recs)) none
    ∙ rows-none g.R.Row.columns cells c.loop-row.row c.loop-row.rows.items
