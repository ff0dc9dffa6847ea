use Rattle.gtfs_rows.specs.StopTimes.{rows_to_come}
use Rattle.sched_load.proofs.GatherLemmas.{passing_more}
use Rattle.sched_load.proofs.gather.skip.Goals as goal

pub rows-preserved : goal.rows-preserved
rows-preserved c =
    let gives = rw c.in-Some.is at c.in_ok-next.ensures.gives in
    let left = rw c.in-Some.is at c.in_ok-next.ensures.open in
    (left, passing_more (rows_to_come c.args.rows.now) (rows_to_come c.rows.rows) (rows_to_come c.next.new.self) c.in-Some.field-0 c.rows.invariant.1 gives)

pub rows-preserved-in-Some : goal.rows-preserved-in-Some
rows-preserved-in-Some c =
    let gives = rw c.in-Some.is at c.in_ok-next.ensures.gives in
    let left = rw c.in-Some.is at c.in_ok-next.ensures.open in
    (left, passing_more (rows_to_come c.args.rows.now) (rows_to_come c.rows.rows) (rows_to_come c.next.new.self) c.in-Some.field-0 c.rows.invariant.1 gives)

pub rows-preserved-in-Some-2 : goal.rows-preserved-in-Some-2
rows-preserved-in-Some-2 c =
    let gives = rw c.in-Some.is at c.in_ok-next.ensures.gives in
    let left = rw c.in-Some.is at c.in_ok-next.ensures.open in
    (left, passing_more (rows_to_come c.args.rows.now) (rows_to_come c.rows.rows) (rows_to_come c.next.new.self) c.in-Some.field-0 c.rows.invariant.1 gives)
