use Rattle.std.proofs.Common.{◌≡◌, ◌≤◌, ◌++◌, ◌∙◌, ℕ, map, refl, subst, sym}
use Rattle.std.specs.Prelude.{slice_get, Some, false}
use Rattle.gtfs_rows.specs.Tables.{exceptions}
use Rattle.sched_types.specs.Timetable.{RisesById, number_of}
use Rattle.sched_load_defs.specs.declared.fault.File.TheVariants as file
use Rattle.sched_load_defs.specs.References.{consistent_exceptions}
use Rattle.sched_load.proofs.Chain.{days_passed, no_memory, step_alone, step_done, step_fails, step_value, told_same}
use Rattle.sched_load.proofs.ColumnLaws.{exception_types}
use Rattle.sched_load.proofs.Laws.{file_within}
use Rattle.row_tables.proofs.Numbered.{ids_rise}
use Rattle.sched_load.proofs.ServiceLemmas.{known_service}
use Rattle.sched_load.proofs.Stopping.{stops_alone, stops_by, stops_calendar, stops_dates, stops_passed}
use Rattle.sched_load.proofs.WholeChain.{days_is}
use Rattle.sched_load.proofs.tables.read_days.Goals as goal

pub returns-in_err-calendar-clause-reads : goal.returns-in_err-calendar-clause-reads
returns-in_err-calendar-clause-reads g c =
    days_passed _ _ _ _ _ _ c.from_residual.ensures.1
    (told_same _ _ _ _ _ _ (days_is c.args.folder.now)
    (step_fails _ _ _ _ _ _ c.in_err-calendar.ensures.reads))

pub returns-in_err-exceptions-clause-reads : goal.returns-in_err-exceptions-clause-reads
returns-in_err-exceptions-clause-reads g c =
    days_passed _ _ _ _ _ _ c.from_residual-in_err-exceptions.ensures.1
    (told_same _ _ _ _ _ _ (days_is c.args.folder.now)
    (step_done _ _ _ _ _ _ _ _ _ c.read_table.ensures.same c.in_ok-calendar.ensures.reads
    (step_fails _ _ _ _ _ _ (step_fails _ _ _ _ _ _ c.in_err-exceptions.ensures.reads))))

pub returns-in_err-services-clause-reads : goal.returns-in_err-services-clause-reads
returns-in_err-services-clause-reads g c =
    days_passed _ _ _ _ _ _ c.from_residual-in_err-services.ensures.1
    (told_same _ _ _ _ _ _ (days_is c.args.folder.now)
    (step_done _ _ _ _ _ _ _ _ _ c.read_table.ensures.same c.in_ok-calendar.ensures.reads
    (step_fails _ _ _ _ _ _
    (step_done _ _ _ _ _ _ _ _ _ c.read_rows.ensures.same c.in_ok-exceptions.ensures.reads
    (no_memory _ _ _)))))

pub returns-in_err-active-clause-reads : goal.returns-in_err-active-clause-reads
returns-in_err-active-clause-reads g c =
    let told = rw c.deref-2.ensures.value at c.in_err-active.ensures in
    days_passed _ _ _ _ _ _ c.from_residual-in_err-active.ensures.1
    (told_same _ _ _ _ _ _ (days_is c.args.folder.now)
    (step_done _ _ _ _ _ _ _ _ _ c.read_table.ensures.same c.in_ok-calendar.ensures.reads
    (step_fails _ _ _ _ _ _
    (step_done _ _ _ _ _ _ _ _ _ c.read_rows.ensures.same c.in_ok-exceptions.ensures.reads
    (step_alone _ _ _ _ told)))))

pub returns-clause-reads : goal.returns-clause-reads
returns-clause-reads g c =
    let told = rw c.deref-2.ensures.value at c.in_ok-active.ensures.0 in
    let exceptions =
    step_done _ _ _ _ _ _ _ _ _ c.read_rows.ensures.same c.in_ok-exceptions.ensures.reads
    (step_value _ _ _ _ told) in
    told_same _ _ _ _ _ _ (days_is c.args.folder.now)
    (step_done _ _ _ _ _ _ _ _ _ c.read_table.ensures.same c.in_ok-calendar.ensures.reads
    (step_done _ _ _ _ _ _ _ _ _ c.read_rows.ensures.same exceptions (step_value _ _ _ _ refl)))

pub returns-clause-sound : goal.returns-clause-sound
returns-clause-sound g c =
    record {
      calendar_of = c.in_ok-calendar.ensures.seen;
      dates_of = c.in_ok-exceptions.ensures.seen;
      calendar = c.in_ok-calendar.ensures.consistent;
      exceptions = rw c.deref-2.ensures.value at c.in_ok-active.ensures.0;
      services = rw (c.rows.ensures, c.rows-2.ensures, c.deref.ensures.value)
          at c.in_ok-services.ensures;
      groups = rw (c.deref-2.ensures.value, c.deref-3.ensures.value) at c.in_ok-active.ensures.1;
    }

pub group_exceptions-requires-clause-rise : goal.group_exceptions-requires-clause-rise
group_exceptions-requires-clause-rise g c =
    let services =
    rw (c.rows.ensures, c.rows-2.ensures, c.deref.ensures.value) at c.in_ok-services.ensures in
    subst (RisesById (λ id. id)) (sym (c.deref-3.ensures.value ∙ services))
    (ids_rise (λ id. id) (map (λ row. row.service_id) c.args.trips.now
    ++ map (λ row. row.service_id) c.in_ok-calendar.calendar
    ++ map (λ row. row.service_id) c.in_ok-exceptions.exceptions.items))

pub group_exceptions-requires-clause-known : goal.group_exceptions-requires-clause-known
group_exceptions-requires-clause-known g c = λ i row at.
    let services =
    rw (c.rows.ensures, c.rows-2.ensures, c.deref.ensures.value) at c.in_ok-services.ensures in
    let here = subst (λ xs. slice_get xs i ≡ Some row) c.deref-2.ensures.value at in
    subst (λ ids. (number : ℕ) × (number_of (λ id. id) ids row.service_id ≡ Some number))
    (sym (c.deref-3.ensures.value ∙ services))
    (known_service (map (λ row. row.service_id) c.args.trips.now
    ++ map (λ row. row.service_id) c.in_ok-calendar.calendar)
    c.in_ok-exceptions.exceptions.items i row here)

pub group_exceptions-requires-clause-kinds : goal.group_exceptions-requires-clause-kinds
group_exceptions-requires-clause-kinds g c = λ i row at.
    let seen = c.in_ok-exceptions.ensures.seen in
    file_within false file.CalendarDates exceptions (λ r. r.exception_type ≤ 2) exception_types
    seen.0 c.in_ok-exceptions.exceptions.items seen.1 i row
    (subst (λ xs. slice_get xs i ≡ Some row) c.deref-2.ensures.value at)

pub returns-in_err-calendar-clause-stops : goal.returns-in_err-calendar-clause-stops
returns-in_err-calendar-clause-stops g c =
    stops_passed _ _ _ c.from_residual.ensures.1
    (stops_by _ _ _ (stops_calendar c.args.folder.now _ _) c.in_err-calendar.ensures.stops)

pub returns-in_err-exceptions-clause-stops : goal.returns-in_err-exceptions-clause-stops
returns-in_err-exceptions-clause-stops g c =
    let k = c.in_ok-calendar.ensures.reads.loads in
    stops_passed _ _ _ c.from_residual-in_err-exceptions.ensures.1
    (stops_by _ _ _ (stops_dates c.args.folder.now _ _ c.in_ok-calendar.calendar k)
    c.in_err-exceptions.ensures.stops)

pub returns-in_err-services-clause-stops : goal.returns-in_err-services-clause-stops
returns-in_err-services-clause-stops g c =
    stops_passed _ _ _ c.from_residual-in_err-services.ensures.1 tt

pub returns-in_err-active-clause-stops : goal.returns-in_err-active-clause-stops
returns-in_err-active-clause-stops g c =
    stops_passed _ _ _ c.from_residual-in_err-active.ensures.1
    (stops_alone (consistent_exceptions c.in_ok-exceptions.exceptions.items) _ _
    (rw c.deref-2.ensures.value at c.in_err-active.ensures))
