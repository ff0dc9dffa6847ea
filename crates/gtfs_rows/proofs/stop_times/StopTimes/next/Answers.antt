use Rattle.std.proofs.Common.{◌≡◌, ◌≤◌, arith, false}
use Rattle.std.specs.Prelude.{nat_le}
use Rattle.std.proofs.lemmas.Bool.{le-leb, lt-leb}
use Rattle.std.proofs.lemmas.Result.{err_from_is_err_and}
use Rattle.csv.specs.Records.{fields_of}
use Rattle.gtfs_rows.specs.Files.{rows_from}
use Rattle.gtfs_rows.specs.Layout.{cell_at}
use Rattle.gtfs_rows.specs.Reading.{records_left}
use Rattle.gtfs_rows.specs.StopTimes.{rows_to_come}
use Rattle.gtfs_rows.specs.Tables.{stop_times}
use Rattle.gtfs_rows.proofs.FileLemmas.{answers-fault, come-fault, come-many, come-next, come-none}
use Rattle.gtfs_rows.proofs.stop_times.StopTimes.next.Goals as goal

pub returns-then-not-branch-clause-gives : goal.returns-then-not-branch-clause-gives
unfolding rows_to_come
returns-then-not-branch-clause-gives c =
    let none = rw c.if-not-branch.true at c.in_ok-advance.ensures.ok in
    come-none stop_times (cell_at c.args.self.now.places) c.args.self.now.row (records_left c.args.self.now.reader) none

pub returns-then-self-eq-END_ROW-clause-gives : goal.returns-then-self-eq-END_ROW-clause-gives
unfolding rows_to_come
returns-then-self-eq-END_ROW-clause-gives c =
    let rows = c.args.self.now in
    let next = rw c.if-not-branch.false at c.in_ok-advance.ensures.ok in
    let large : nat_le rows.row 4000001 ≡ false = lt-leb rows.row 4000001 (omega arith) in
    come-many stop_times (cell_at rows.places) rows.row (records_left rows.reader) (records_left c.advance.new.reader) (fields_of c.advance.new.into) next.1 large

pub returns-in_err-row-clause-gives : goal.returns-in_err-row-clause-gives
unfolding rows_to_come
returns-in_err-row-clause-gives c =
    let rows = c.args.self.now in
    let next = rw c.if-not-branch.false at c.in_ok-advance.ensures.ok in
    let fields = fields_of c.advance.new.into in
    let small : rows.row ≤ 4000001 = omega arith in
    let exit = err_from_is_err_and c.from_residual-in_err-row.result c.from_residual-in_err-row.ensures.1 in
    rw (exit.1, exit.2) (
    answers-fault (stop_times.read rows.row (cell_at rows.places fields)) (rows_from stop_times (cell_at rows.places) rows.row (records_left rows.reader)) c.in_err-row.field-0.0
    (λ f e. come-fault stop_times (cell_at rows.places) rows.row (records_left rows.reader) (records_left c.advance.new.reader) fields next.1 f (le-leb rows.row 4000001 small) e)
    c.in_err-row.ensures
    )

pub returns-clause-gives : goal.returns-clause-gives
unfolding rows_to_come
returns-clause-gives c =
    let rows = c.args.self.now in
    let next = rw c.if-not-branch.false at c.in_ok-advance.ensures.ok in
    let fields = fields_of c.advance.new.into in
    let small : rows.row ≤ 4000001 = omega arith in
    come-next stop_times (cell_at rows.places) rows.row (records_left rows.reader) (records_left c.advance.new.reader) fields next.1 c.in_ok-row.row (le-leb rows.row 4000001 small) c.in_ok-row.ensures
