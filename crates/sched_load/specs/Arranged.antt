-- What is read of stop_times.txt.
use Rattle.std.specs.Prelude.{◌≡◌, ℕ, true, List, map, Option, Result, Ok, Err, Vec}
use Rattle.std.specs.declared.alloc.Global.{Global}
use Rattle.gtfs_rows.specs.Tables.{stop_times}
use Rattle.gtfs_rows.specs.declared.rows.StopRow.{StopRow}
use Rattle.gtfs_rows.specs.declared.rows.TripRow.{TripRow}
use Rattle.gtfs_rows.specs.declared.rows.StopTimeRow.{StopTimeRow}
use Rattle.sched_load_defs.specs.declared.fault.File.TheVariants as file
use Rattle.sched_load_defs.specs.declared.fault.LoadFault.{LoadFault}
use Rattle.sched_load_defs.specs.References.{consistent_stop_times}
use Rattle.sched_load.specs.declared.visits.Visit.{Visit}
use Rattle.sched_load.specs.Answer.{AnswersFromFiles}
use Rattle.sched_load.specs.Listed.{file_rows, visit_of}
use Rattle.sched_load.specs.Visits.{AreArranged}

-- the visits of the rows that are told, trip by trip, or the first fault
abbrev pub ReadsArranged : List TripRow → List StopRow → Option (List (List ℕ × List ℕ))
    → (List (List ℕ × List ℕ) → Result (List StopTimeRow) LoadFault) → ℕ → ℕ
    → Result (Vec Visit Global) LoadFault → Type 0
ReadsArranged trips stops contents told before after (Ok visits) =
    (rows : List StopTimeRow) × AnswersFromFiles contents told before after (Ok rows)
    × ((bytes : Option (List ℕ)) × (file_rows true file.StopTimes stop_times bytes ≡ Ok rows))
    × (consistent_stop_times trips stops rows ≡ Ok rows)
    × AreArranged (map (visit_of trips stops) rows) visits.items
ReadsArranged trips stops contents told before after (Err e) =
    AnswersFromFiles contents told before after (Err e)
