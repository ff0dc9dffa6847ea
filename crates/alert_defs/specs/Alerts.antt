-- The alerts that a query of a board lists.
use Rattle.std.specs.Prelude.{ℕ, Bool, true, ◌&&◌, ◌||◌, ◌==◌, nat_le, nat_lt, if◌then◌else◌, List, [], ◌∷◌, length, map, find, Option, Some, None, unwrap_or}
use Rattle.std.specs.List.{list_any, filter_map}
use Rattle.std.specs.Option.{option_map, option_and_then, is_none}
use Rattle.rt_types.specs.declared.alert.Alert.{Alert}
use Rattle.rt_types.specs.declared.alert.Period.{Period}
use Rattle.rt_types.specs.declared.alert.Selector.{Selector}
use Rattle.rt_types.specs.declared.alert.Translated.{Translated}
use Rattle.rt_types.specs.declared.alert.Translation.{Translation}
use Rattle.feed_defs.specs.Enums.{cause_number, effect_number}
use Rattle.sched_types.specs.Schedules.{Schedules}
use Rattle.sched_types.specs.Timetable.{Timetable, number_of}
use Rattle.board_defs.specs.declared.query.BoardQuery.{BoardQuery}
use Rattle.board_defs.specs.Feeds.{HeldEntity, counts_at, schedule_entities}
use Rattle.board_defs.specs.Fold.{FeedFold}
use Rattle.board_defs.specs.Rows.{BoardRow, board, timetable_in}
use Rattle.alert_defs.specs.declared.rows.AlertRow.{AlertRow}
use Rattle.alert_defs.specs.Touching.{Touched, touches}
use Rattle.alert_defs.specs.Touching.Touched.{StopItself, RowAt}

-- ---- when

abbrev pub is_begun : ℕ → Option ℕ → Bool
is_begun at None = true
is_begun at (Some start) = nat_le start at

abbrev pub goes_on : ℕ → Option ℕ → Bool
goes_on at None = true
goes_on at (Some end) = nat_lt at end

-- a period holds from its start on, up to but not at its end; an absent bound is open (GTFS
-- Realtime, TimeRange)
abbrev pub holds_at : ℕ → Period → Bool
holds_at at period = is_begun at period.start && goes_on at period.end

-- an alert is active in one of its periods, and always where it has none (Alert, active_period)
unfoldable pub is_active : Alert → ℕ → Bool
is_active alert at =
    (length alert.active_period == 0) || list_any (holds_at at) alert.active_period

-- ---- what

-- what a row of a board is to a selector
abbrev pub touched_as : BoardRow → Touched
touched_as row = RowAt row.subject row.stop

-- a selector touches the stop, or one of the rows
abbrev pub touches_any : Timetable → ℕ → ℕ → List Touched → Selector → Bool
touches_any t stamp stop rows selector =
    touches t selector stamp (StopItself stop)
    || list_any (λ row. touches t selector stamp row) rows

-- one of the alert's selectors touches the stop, or one of the rows
unfoldable pub concerns : Timetable → Alert → ℕ → ℕ → List Touched → Bool
concerns t alert stamp stop rows =
    list_any (touches_any t stamp stop rows) alert.informed_entity

-- ---- how it is shown

-- the first translation that tells no language, else the first, else nothing (TranslatedString)
abbrev pub text_among : List Translation → List ℕ
text_among [] = []
text_among (first ∷ others) =
    (unwrap_or (find (λ one. is_none one.language) (first ∷ others)) first).text

abbrev pub header_of : Option Translated → List ℕ
header_of None = []
header_of (Some translated) = text_among translated.translation

abbrev pub alert_row : HeldEntity → Alert → AlertRow
alert_row held alert = record {
  feed = held.number;
  id = held.stored.entity.id;
  cause = option_map cause_number alert.cause;
  effect = option_map effect_number alert.effect;
  header = header_of alert.header_text;
}

-- ---- the list

-- an alert that counts, by the stamp of its message, and is active
abbrev pub is_current : ℕ → HeldEntity → Alert → Bool
is_current at held alert =
    counts_at held.feed.max_age held.stored.stamp at && is_active alert at

-- the row of an entity that has an alert, where that is current and touches what is asked for
abbrev pub row_of_alert : Timetable → ℕ → ℕ → List Touched → HeldEntity → Option Alert
    → Option AlertRow
row_of_alert t at stop rows held None = None
row_of_alert t at stop rows held (Some alert) =
    if is_current at held alert && concerns t alert held.stored.stamp stop rows
    then Some (alert_row held alert) else None

abbrev pub row_of_entity : Timetable → ℕ → ℕ → List Touched → HeldEntity → Option AlertRow
row_of_entity t at stop rows held = row_of_alert t at stop rows held held.stored.entity.alert

abbrev pub alerts_at : Timetable → Schedules → List FeedFold → BoardQuery → List Touched → ℕ
    → List AlertRow
alerts_at t schedules folds query rows stop =
    filter_map (row_of_entity t query.at stop rows)
    (schedule_entities query.plan schedules.feeds folds)

abbrev pub alerts_in : Timetable → Schedules → List FeedFold → BoardQuery → List BoardRow
    → Option (List AlertRow)
alerts_in t schedules folds query rows =
    option_map (alerts_at t schedules folds query (map touched_as rows))
    (number_of (λ stop. stop.id) t.stops query.stop)

abbrev pub alerts_beside : Option Timetable → Schedules → List FeedFold → BoardQuery
    → List BoardRow → Option (List AlertRow)
alerts_beside None schedules folds query rows = None
alerts_beside (Some t) schedules folds query rows = alerts_in t schedules folds query rows

-- The alerts that count and are active at the query's moment and touch its stop or one of the rows
-- of its board, by feed and id; None where no row of stops.txt has the asked id.
unfoldable pub alerts : Schedules → List FeedFold → BoardQuery → Option (List AlertRow)
alerts schedules folds query =
    option_and_then (alerts_beside (timetable_in schedules query.plan) schedules folds query)
    (board schedules folds query)
