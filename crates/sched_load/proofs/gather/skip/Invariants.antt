use Rattle.std.proofs.Common.{◌-◌}
use Rattle.gtfs_rows.specs.StopTimes.{IsOpen, row_to_come, rows_to_come}
use Rattle.sched_load.proofs.GatherLemmas.{Passing}
use Rattle.sched_load.proofs.gather.skip.Given as goal

-- the rows that were passed over, and those to come, are all
abbrev pub invariant-rows : goal.invariant-rows
invariant-rows l = IsOpen l.rows × Passing (rows_to_come l.fn.rows) (rows_to_come l.rows)

abbrev pub decreases-rows : goal.decreases-rows
decreases-rows l = 4000003 - row_to_come l.rows
