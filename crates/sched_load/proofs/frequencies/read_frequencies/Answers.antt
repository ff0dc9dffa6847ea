use Rattle.sched_load_defs.specs.References.{consistent_frequencies}
use Rattle.sched_load.proofs.Chain.{rows_passed, step_alone, step_done, step_fails, step_value}
use Rattle.sched_load.proofs.Stopping.{stops_alone, stops_passed}
use Rattle.sched_load.proofs.frequencies.read_frequencies.Goals as goal

pub returns-in_err-rows-clause-reads : goal.returns-in_err-rows-clause-reads
returns-in_err-rows-clause-reads g c =
    rows_passed _ _ _ _ _ _ c.from_residual.ensures.1
    (step_fails _ _ _ _ _ _ c.in_err-rows.ensures.reads)

pub returns-in_err-check_trips-clause-reads : goal.returns-in_err-check_trips-clause-reads
returns-in_err-check_trips-clause-reads g c =
    let told = rw c.as_slice.ensures.value at c.in_err-check_trips.ensures in
    rows_passed _ _ _ _ _ _ c.from_residual-in_err-check_trips.ensures.1
    (step_done _ _ _ _ _ _ _ _ _ c.read_rows.ensures.same c.in_ok-rows.ensures.reads
    (step_alone _ (consistent_frequencies c.args.trips.now c.in_ok-rows.rows.items) _ _ told))

pub returns-clause-reads : goal.returns-clause-reads
returns-clause-reads g c =
    let told = rw c.as_slice.ensures.value at c.in_ok-check_trips.ensures in
    step_done _ _ _ _ _ _ _ _ _ c.read_rows.ensures.same c.in_ok-rows.ensures.reads
    (step_value _ _ _ _ told)

pub returns-clause-consistent : goal.returns-clause-consistent
returns-clause-consistent g c = rw c.as_slice.ensures.value at c.in_ok-check_trips.ensures

pub returns-in_err-check_trips-clause-stops : goal.returns-in_err-check_trips-clause-stops
returns-in_err-check_trips-clause-stops g c =
    let told = rw c.as_slice.ensures.value at c.in_err-check_trips.ensures in
    stops_passed _ _ _ c.from_residual-in_err-check_trips.ensures.1
    (stops_alone (consistent_frequencies c.args.trips.now c.in_ok-rows.rows.items) _ _ told)
