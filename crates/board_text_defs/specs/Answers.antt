-- What is answered to somebody who asks by the name of a schedule: the bytes, or that it isn't
-- there.
use Rattle.std.specs.Prelude.{ℕ, ◌≤◌, Bool, true, false, List, [], position, slice_get, Option, Some, None, unwrap_or, ⊤}
use Rattle.std.specs.Option.{option_map, option_and_then}
use Rattle.std.specs.Str.{bytes_eq}
use Rattle.text_defs.specs.Moments.{last_moment}
use Rattle.sched_types.specs.Schedules.{Schedules}
use Rattle.sched_types.specs.Timetable.{Timetable, number_of}
use Rattle.board_defs.specs.declared.query.BoardQuery.{BoardQuery}
use Rattle.board_defs.specs.declared.row.Row.{Row}
use Rattle.board_defs.specs.Feed.{combined_feed}
use Rattle.board_defs.specs.Fold.{FeedFold}
use Rattle.board_defs.specs.Rows.{rows, timetable_in}
use Rattle.alert_defs.specs.declared.rows.AlertRow.{AlertRow}
use Rattle.alert_defs.specs.Alerts.{alerts}
use Rattle.alert_defs.specs.Unmatched.{unmatched}
use Rattle.board_text_defs.specs.Alerts.{alerts_text, alerts_json}
use Rattle.board_text_defs.specs.BoardJson.{board_json}
use Rattle.board_text_defs.specs.BoardText.{board_text}
use Rattle.board_text_defs.specs.Status.{status_text}
use Rattle.board_text_defs.specs.UnmatchedText.{unmatched_text}

-- the number of the schedule of that name
unfoldable pub schedule_number : Schedules → List ℕ → Option ℕ
schedule_number schedules name = position (λ plan. bytes_eq name plan.name) schedules.plans

-- ---- boards

-- which board is asked for: the name of the schedule and the id of the stop, the moment in seconds
-- since 1970, for how many seconds and how many rows, and whether as JSON or as text
pub record BoardAsked : Type 0 where
  pub schedule : List ℕ
  pub stop : List ℕ
  pub at : ℕ
  pub span : ℕ
  pub limit : ℕ
  pub json : Bool

-- the same of the schedule of a number
abbrev pub query_of : BoardAsked → ℕ → BoardQuery
query_of asked plan = record {
  plan = plan;
  stop = asked.stop;
  at = asked.at;
  span = asked.span;
  limit = asked.limit;
}

-- the name of the stop of that id in a timetable; empty where there is none
abbrev pub name_in : Option Timetable → List ℕ → List ℕ
name_in None stop = []
name_in (Some t) stop =
    let row = number_of (λ s. s.id) t.stops stop in
    unwrap_or (option_and_then (λ k. option_map (λ s. s.name) (slice_get t.stops k)) row) []

abbrev pub stop_name : Schedules → ℕ → List ℕ → List ℕ
stop_name schedules plan stop = name_in (timetable_in schedules plan) stop

-- the rows of a board in the form that is asked for
abbrev pub board_bytes : Bool → List ℕ → List ℕ → List Row → List ℕ
board_bytes true stop name found = board_json stop name found
board_bytes false stop name found = board_text stop name found

-- the board of a schedule of a number; none where it has no such stop
abbrev pub board_in_plan : Schedules → List FeedFold → BoardAsked → ℕ → Option (List ℕ)
board_in_plan schedules folds asked plan =
    option_map (board_bytes asked.json asked.stop (stop_name schedules plan asked.stop))
    (rows schedules folds (query_of asked plan))

-- the board that is asked for; none where there is no such schedule or no such stop
unfoldable pub board_answer : Schedules → List FeedFold → BoardAsked → Option (List ℕ)
board_answer schedules folds asked =
    option_and_then (board_in_plan schedules folds asked) (schedule_number schedules asked.schedule)

-- ---- feeds

-- the number of the feed of that name
unfoldable pub feed_number : Schedules → List ℕ → Option ℕ
feed_number schedules name = position (λ feed. bytes_eq name feed.name) schedules.feeds

-- the combined feed of the schedule of that name; none where there is no such schedule
unfoldable pub feed_answer : Schedules → List FeedFold → List ℕ → Option (List ℕ)
feed_answer schedules folds name =
    option_map (λ plan. combined_feed schedules plan folds) (schedule_number schedules name)

-- ---- lists beside a board

-- the rows of a list of alerts in the form that is asked for
abbrev pub alert_bytes : Schedules → Bool → List ℕ → List AlertRow → List ℕ
alert_bytes schedules true stop found = alerts_json schedules.feeds stop found
alert_bytes schedules false stop found = alerts_text schedules.feeds found

-- the alerts of a schedule of a number; none where it has no such stop
abbrev pub alerts_in_plan : Schedules → List FeedFold → BoardAsked → ℕ → Option (List ℕ)
alerts_in_plan schedules folds asked plan =
    option_map (alert_bytes schedules asked.json asked.stop)
    (alerts schedules folds (query_of asked plan))

-- the alerts beside the board that is asked for; none where there is no such schedule or stop
unfoldable pub alerts_answer : Schedules → List FeedFold → BoardAsked → Option (List ℕ)
alerts_answer schedules folds asked =
    option_and_then (alerts_in_plan schedules folds asked)
    (schedule_number schedules asked.schedule)

abbrev pub unmatched_bytes : Schedules → List FeedFold → ℕ → List ℕ
unmatched_bytes schedules folds plan =
    unmatched_text schedules.feeds (unmatched schedules folds plan)

-- what the schedule of that name has no run for; none where there is no such schedule
unfoldable pub unmatched_answer : Schedules → List FeedFold → List ℕ → Option (List ℕ)
unmatched_answer schedules folds name =
    option_map (unmatched_bytes schedules folds) (schedule_number schedules name)

-- ---- questions

-- what a hub can be asked: the combined feed of a schedule, a board, the alerts beside a board,
-- what a schedule has no run for, or its status
pub data Question : Type 0 where
  FeedOf : List ℕ → Question
  BoardOf : BoardAsked → Question
  AlertsOf : BoardAsked → Question
  UnmatchedOf : List ℕ → Question
  StatusOf : Question

-- the longest span of a board, in seconds: a day
abbrev pub longest_span : ℕ
longest_span = 86_400

-- the most rows of a board
abbrev pub most_rows : ℕ
most_rows = 1000

-- which boards may be asked for: up to the end of the year 9999, of up to a day and up to 1000 rows
pub record MayAsk (asked : BoardAsked) : Type 0 where
  pub moment : asked.at ≤ last_moment
  pub some_span : 1 ≤ asked.span
  pub day_at_most : asked.span ≤ longest_span
  pub some_rows : 1 ≤ asked.limit
  pub thousand_at_most : asked.limit ≤ most_rows

-- a question of those; any feed, any list of unmatched trips and the status may be asked for
abbrev pub IsAsked : Question → Type 0
IsAsked (FeedOf schedule) = ⊤
IsAsked (BoardOf asked) = MayAsk asked
IsAsked (AlertsOf asked) = MayAsk asked
IsAsked (UnmatchedOf schedule) = ⊤
IsAsked StatusOf = ⊤

-- the bytes of the answer, of what all feeds say; none where what is asked for isn't there
abbrev pub answer_to : Schedules → List FeedFold → Question → Option (List ℕ)
answer_to schedules folds (FeedOf schedule) = feed_answer schedules folds schedule
answer_to schedules folds (BoardOf asked) = board_answer schedules folds asked
answer_to schedules folds (AlertsOf asked) = alerts_answer schedules folds asked
answer_to schedules folds (UnmatchedOf schedule) = unmatched_answer schedules folds schedule
answer_to schedules folds StatusOf = Some (status_text schedules.feeds folds)
