-- Tables that a plan is made of.
use Rattle.std.specs.Prelude.{List}
use Rattle.gtfs_rows.specs.declared.rows.StopTimeRow.{StopTimeRow}
use Rattle.sched_load.specs.declared.tables.Tables.{Tables}
use Rattle.sched_load.specs.Built.{IsInOrder}
use Rattle.sched_load.specs.Tables.{AreRead, dataset_of}

-- the tables are those of some rows of stop_times.txt, and the times of all trips are in order
abbrev pub WereInOrder : Tables → Type 0
WereInOrder t = (rows : List StopTimeRow) × AreRead t rows × IsInOrder (dataset_of t rows)
