use Rattle.std.proofs.Common.{◌-◌, length}
use Rattle.gtfs_rows.specs.StopTimes.{IsOpen, row_to_come, rows_to_come}
use Rattle.sched_load_defs.specs.Numbers.{by_id}
use Rattle.sched_load.specs.Gathering.{BelowAll}
use Rattle.sched_load.proofs.GatherLemmas.{Gathering}
use Rattle.sched_load.proofs.gather.gather.Given as goal

-- the rows so far are gathered, and the others are to come
abbrev pub invariant-rows : goal.invariant-rows
invariant-rows l =
    IsOpen l.rows × Gathering l.trips l.stops (rows_to_come l.fn.rows) (rows_to_come l.rows) l.visits.items
    × BelowAll (length (by_id (λ trip. trip.trip_id) l.trips)) l.visits.items

abbrev pub decreases-rows : goal.decreases-rows
decreases-rows l = 4000003 - row_to_come l.rows
