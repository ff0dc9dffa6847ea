use Rattle.std.proofs.Common.{List}
use Rattle.gtfs_rows.specs.declared.rows.StopTimeRow.{StopTimeRow}
use Rattle.sched_load.specs.Tables.{AreRead, dataset_of}
use Rattle.sched_load.proofs.TripLemmas.{InOrderTo}
use Rattle.sched_load.proofs.check.check_times.Given as goal

abbrev pub invariant-loop-place : goal.invariant-loop-place
invariant-loop-place l = (rows : List StopTimeRow) → AreRead l.tables rows → InOrderTo (dataset_of l.tables rows) l.place
