-- What a view answers to a question.
use Rattle.std.specs.Prelude.{◌≡◌, ℕ, Bool, true, false, Option, Some, None, List, ◌++◌, Result, Ok, Err}
use Rattle.std.specs.Option.{option_map}
use Rattle.std.specs.declared.alloc.AllocError.{AllocError}
use Rattle.sched_types.specs.Schedules.{Schedules}
use Rattle.board_defs.specs.declared.query.BoardQuery.{BoardQuery}
use Rattle.board_defs.specs.Feed.{combined_feed}
use Rattle.board_defs.specs.Fold.{FeedFold}
use Rattle.board_defs.specs.Rows.{rows}
use Rattle.alert_defs.specs.Alerts.{alerts}
use Rattle.board_text_defs.specs.Status.{status_text}
use Rattle.board_text_defs.specs.Answers.{Question, query_of, stop_name, board_bytes, alert_bytes, unmatched_bytes, answer_to}
use Rattle.board_text_defs.specs.Answers.Question.{FeedOf, BoardOf, AlertsOf, UnmatchedOf, StatusOf}

-- the bytes of an answer stand behind what was there
pub record Appends (answered : Option (List ℕ)) (old new : List ℕ) : Type 0 where
  pub bytes : List ℕ
  pub are : answered ≡ Some bytes
  pub appended : new ≡ old ++ bytes

-- The answer is appended, or there is none, or memory is wanting; in these two cases nothing is
-- appended.
abbrev pub Replies : Option (List ℕ) → List ℕ → List ℕ → Result Bool AllocError → Type 0
Replies answered old new (Ok true) = Appends answered old new
Replies answered old new (Ok false) = (answered ≡ None) × (new ≡ old)
Replies answered old new (Err none) = new ≡ old

-- the answer to a question, of what all feeds say
abbrev pub Answers : Schedules → List FeedFold → Question → List ℕ → List ℕ → Result Bool AllocError
    → Type 0
Answers schedules folds question = Replies (answer_to schedules folds question)

-- the board of a query, as JSON or as text; none where its schedule has no such stop
abbrev pub board_in : Schedules → List FeedFold → BoardQuery → Bool → Option (List ℕ)
board_in schedules folds query json =
    option_map (board_bytes json query.stop (stop_name schedules query.plan query.stop))
    (rows schedules folds query)

-- the alerts of a query, as JSON or as text; none where its schedule has no such stop
abbrev pub alerts_in : Schedules → List FeedFold → BoardQuery → Bool → Option (List ℕ)
alerts_in schedules folds query json =
    option_map (alert_bytes schedules json query.stop) (alerts schedules folds query)

abbrev pub status_in : Schedules → List FeedFold → List ℕ
status_in schedules folds = status_text schedules.feeds folds

-- the answer to a question that is asked of the schedule of a number
abbrev pub answer_in : Schedules → List FeedFold → Question → ℕ → Option (List ℕ)
answer_in schedules folds (FeedOf schedule) plan = Some (combined_feed schedules plan folds)
answer_in schedules folds (BoardOf asked) plan =
    board_in schedules folds (query_of asked plan) asked.json
answer_in schedules folds (AlertsOf asked) plan =
    alerts_in schedules folds (query_of asked plan) asked.json
answer_in schedules folds (UnmatchedOf schedule) plan = Some (unmatched_bytes schedules folds plan)
answer_in schedules folds StatusOf plan = Some (status_in schedules folds)
