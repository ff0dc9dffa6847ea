-- What a query asks of a hub.
use Rattle.std.specs.Prelude.{◌≡◌, ℕ, ◌≤◌, Bool, true, ◌==◌, ◌||◌, Option, Some, None, ⊤}
use Rattle.http_defs.specs.declared.asked.Query.{Query}
use Rattle.http_defs.specs.declared.asked.Query.TheVariants.{Board, Alerts, Feed, Unmatched, Status, Refused}
use Rattle.board_text_defs.specs.Answers.{Question, longest_span, most_rows}
use Rattle.board_text_defs.specs.Answers.Question.{FeedOf, BoardOf, AlertsOf, UnmatchedOf, StatusOf}

-- the question of a query that is asked at a moment; only a refused one asks nothing
abbrev pub question_of : Query → ℕ → Option Question
question_of (Board schedule stop span limit json) moment = Some (BoardOf (record {
  schedule = schedule;
  stop = stop;
  at = moment;
  span = span;
  limit = limit;
  json = json;
}))
question_of (Feed schedule since) moment = Some (FeedOf schedule)
question_of (Alerts schedule stop span limit json) moment = Some (AlertsOf (record {
  schedule = schedule;
  stop = stop;
  at = moment;
  span = span;
  limit = limit;
  json = json;
}))
question_of (Unmatched schedule) moment = Some (UnmatchedOf schedule)
question_of Status moment = Some StatusOf
question_of (Refused code) moment = None

-- a status of a response
abbrev pub is_status : ℕ → Bool
is_status code = (code == 200) || (code == 400) || (code == 404) || (code == 405)

-- a status of a refusal
abbrev pub is_refusal : ℕ → Bool
is_refusal code = (code == 400) || (code == 404) || (code == 405)

-- as long, and of as many rows, as a board may be
pub record AreChoices (span limit : ℕ) : Type 0 where
  pub some_span : 1 ≤ span
  pub day_at_most : span ≤ longest_span
  pub some_rows : 1 ≤ limit
  pub thousand_at_most : limit ≤ most_rows

-- what requests ask: boards and alerts within their ranges, and refusals by their statuses
abbrev pub IsAskable : Query → Type 0
IsAskable (Board schedule stop span limit json) = AreChoices span limit
IsAskable (Feed schedule since) = ⊤
IsAskable (Alerts schedule stop span limit json) = AreChoices span limit
IsAskable (Unmatched schedule) = ⊤
IsAskable Status = ⊤
IsAskable (Refused code) = is_refusal code ≡ true
