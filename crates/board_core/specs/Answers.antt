-- What a call for the rows of a board answers, and one for what they are about.
use Rattle.std.specs.Prelude.{◌≡◌, Some, None, List, map, Result, Ok, Err, ⊤}
use Rattle.std.specs.Global.{Vec}
use Rattle.std.specs.List.{All}
use Rattle.sched_types.specs.Schedules.{Schedules}
use Rattle.sched_types.specs.Timetable.{Timetable}
use Rattle.board_defs.specs.declared.query.BoardQuery.{BoardQuery}
use Rattle.board_defs.specs.declared.row.Row.{Row}
use Rattle.board_defs.specs.Fold.{FeedFold}
use Rattle.board_defs.specs.Rows.{BoardRow, rows, board, timetable_in}
use Rattle.alert_defs.specs.Alerts.{touched_as}
use Rattle.alert_select.specs.declared.subject.Subject.{Subject}
use Rattle.alert_select.specs.Subjects.{touched_by, IsWithin}
use Rattle.board_core.specs.declared.fault.RowsFault.{RowsFault}
use Rattle.board_core.specs.declared.fault.RowsFault.TheVariants.{NoStop, NoMemory}

-- the rows that are defined, or that there is no such stop, just where none are defined, or want of
-- memory
abbrev pub IsAnswer : Schedules → List FeedFold → BoardQuery → Result (Vec Row) RowsFault → Type 0
IsAnswer schedules folds query (Ok answer) = rows schedules folds query ≡ Some answer.items
IsAnswer schedules folds query (Err NoStop) = rows schedules folds query ≡ None
IsAnswer schedules folds query (Err NoMemory) = ⊤

-- what rows are about, in their order, of a timetable
pub record AreAbout (t : Timetable) (rows : List BoardRow) (subjects : List Subject) : Type 0 where
  pub touched : map touched_by subjects ≡ map touched_as rows
  pub within : All (IsWithin t) subjects

-- what the rows of a board are about, of the timetable of its schedule
pub record AreOfBoard (schedules : Schedules) (folds : List FeedFold) (query : BoardQuery)
    (subjects : List Subject) : Type 0 where
  pub rows : List BoardRow
  pub defined : board schedules folds query ≡ Some rows
  pub touched : map touched_by subjects ≡ map touched_as rows
  pub within : (t : Timetable) → timetable_in schedules query.plan ≡ Some t
      → All (IsWithin t) subjects

-- what the rows that are defined are about; else as the rows themselves are answered
abbrev pub AreSubjects : Schedules → List FeedFold → BoardQuery
    → Result (Vec Subject) RowsFault → Type 0
AreSubjects schedules folds query (Ok answer) = AreOfBoard schedules folds query answer.items
AreSubjects schedules folds query (Err NoStop) = board schedules folds query ≡ None
AreSubjects schedules folds query (Err NoMemory) = ⊤
