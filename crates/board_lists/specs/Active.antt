-- The alerts that are active at a moment, before it is asked what they touch.
use Rattle.std.specs.Prelude.{ℕ, if◌then◌else◌, List, Option, Some, None}
use Rattle.std.specs.List.{filter_map}
use Rattle.rt_types.specs.declared.alert.Alert.{Alert}
use Rattle.sched_types.specs.Timetable.{Timetable}
use Rattle.board_defs.specs.Feeds.{HeldEntity}
use Rattle.alert_defs.specs.declared.rows.AlertRow.{AlertRow}
use Rattle.alert_defs.specs.Touching.{Touched}
use Rattle.alert_defs.specs.Alerts.{is_current, concerns, alert_row}

-- an alert with its entity
pub record Active : Type 0 where
  pub held : HeldEntity
  pub alert : Alert

-- the alert of an entity, where it has one that counts and is active
abbrev pub active_if : ℕ → HeldEntity → Option Alert → Option Active
active_if at held None = None
active_if at held (Some alert) =
    if is_current at held alert then Some (record { held = held; alert = alert }) else None

abbrev pub active_in : ℕ → HeldEntity → Option Active
active_in at held = active_if at held held.stored.entity.alert

-- the row of an alert that touches the stop or one of the rows
abbrev pub row_if : Timetable → ℕ → List Touched → Active → Option AlertRow
row_if t stop rows active =
    if concerns t active.alert active.held.stored.stamp stop rows
    then Some (alert_row active.held active.alert) else None

abbrev pub rows_among : Timetable → ℕ → List Touched → List Active → List AlertRow
rows_among t stop rows all = filter_map (row_if t stop rows) all
