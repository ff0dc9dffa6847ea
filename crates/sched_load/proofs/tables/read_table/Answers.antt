use Rattle.sched_load.proofs.Chain.{passed, step_alone, step_done}
use Rattle.sched_load.proofs.tables.read_table.Goals as goal

pub returns-in_err-order-clause-reads : goal.returns-in_err-order-clause-reads
returns-in_err-order-clause-reads g c =
    passed _ _ _ _ _ _ c.from_residual-in_err-order.ensures.1
    (step_done _ _ _ _ _ _ _ _ _ c.read_rows.ensures.same c.in_ok-rows.ensures.reads
    (step_alone _ _ _ _ (rw c.as_slice.ensures.value at c.in_err-order.ensures)))
