-- What a call for the alerts of a query answers.
use Rattle.std.specs.Prelude.{◌≡◌, Some, None, List, Result, Ok, Err, ⊤}
use Rattle.std.specs.Global.{Vec}
use Rattle.sched_types.specs.Schedules.{Schedules}
use Rattle.board_defs.specs.declared.query.BoardQuery.{BoardQuery}
use Rattle.board_defs.specs.Fold.{FeedFold}
use Rattle.alert_defs.specs.declared.rows.AlertRow.{AlertRow}
use Rattle.alert_defs.specs.Alerts.{alerts}
use Rattle.board_core.specs.declared.fault.RowsFault.{RowsFault}
use Rattle.board_core.specs.declared.fault.RowsFault.TheVariants.{NoStop, NoMemory}

-- the alerts that are defined, or that there is no such stop, just where none are defined, or want
-- of memory
abbrev pub AreAlerts : Schedules → List FeedFold → BoardQuery → Result (Vec AlertRow) RowsFault
    → Type 0
AreAlerts schedules folds query (Ok answer) = alerts schedules folds query ≡ Some answer.items
AreAlerts schedules folds query (Err NoStop) = alerts schedules folds query ≡ None
AreAlerts schedules folds query (Err NoMemory) = ⊤
