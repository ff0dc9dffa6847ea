-- What answers an item of a connection, of what all feeds say (RFC 9110, section 15).
use Rattle.std.specs.Prelude.{ℕ, Bool, true, if◌then◌else◌, List, Option, Some, None, unwrap_or, codes}
use Rattle.std.specs.Option.{option_map, option_map_or}
use Rattle.sched_types.specs.Schedules.{Schedules}
use Rattle.board_defs.specs.Fold.{FeedFold}
use Rattle.board_text_defs.specs.Answers.{Question, answer_to, schedule_number}
use Rattle.board_text_defs.specs.Answers.Question.{FeedOf, BoardOf, AlertsOf, UnmatchedOf, StatusOf}
use Rattle.delta_defs.specs.Changes.{changes_bytes}
use Rattle.delta_defs.specs.Kept.{KeptView, folds_at}
use Rattle.http_defs.specs.declared.request.Item.{Item}
use Rattle.http_defs.specs.declared.request.Item.TheVariants.{Asked, Malformed}
use Rattle.http_defs.specs.declared.asked.Query.{Query}
use Rattle.http_defs.specs.declared.asked.Query.TheVariants.{Board, Alerts, Feed, Unmatched, Status, Refused}
use Rattle.http_defs.specs.declared.response.BodyKind.{BodyKind}
use Rattle.http_defs.specs.declared.response.BodyKind.TheVariants.{Text as Lines, Json, Feed as Message}
use Rattle.http_defs.specs.Requests.{closes_after}
use Rattle.http_defs.specs.Targets.{query_of}
use Rattle.http_defs.specs.Responses.{response, refusal_text, status_of}
use Rattle.http_serve_defs.specs.Questions.{question_of}

-- a status, the type of a body, and the body
pub record Answered : Type 0 where
  pub status : ℕ
  pub kind : BodyKind
  pub body : List ℕ

-- a refusal of that status
abbrev pub refused : ℕ → Answered
refused code = record { status = code; kind = Lines; body = refusal_text (status_of code) }

-- the type of the answer to a question
abbrev pub kind_of : Question → BodyKind
kind_of (FeedOf schedule) = Message
kind_of (BoardOf asked) = if asked.json then Json else Lines
kind_of (AlertsOf asked) = if asked.json then Json else Lines
kind_of (UnmatchedOf schedule) = Lines
kind_of StatusOf = Lines

-- a body that is there, or the refusal where what is asked for isn't there
abbrev pub found : BodyKind → Option (List ℕ) → Answered
found kind (Some body) = record { status = 200; kind = kind; body = body }
found kind None = refused 404

-- what answers a question; a schedule or a stop that isn't there is 404
abbrev pub question_answered : Schedules → List FeedFold → Question → Answered
question_answered schedules folds question =
    found (kind_of question) (answer_to schedules folds question)

-- the status of a query that asks no question: its refusal's; for any other, that nothing is found
abbrev pub refusal_code : Query → ℕ
refusal_code (Refused code) = code
refusal_code (Board schedule stop span limit json) = 404
refusal_code (Feed schedule since) = 404
refusal_code (Alerts schedule stop span limit json) = 404
refusal_code (Unmatched schedule) = 404
refusal_code Status = 404

-- what answers a query at a moment, whatever was seen before
abbrev pub whole_answered : Schedules → List FeedFold → Query → ℕ → Answered
whole_answered schedules folds query moment =
    unwrap_or (option_map (question_answered schedules folds) (question_of query moment))
    (refused (refusal_code query))

-- a feed that is asked for since a view that is kept: its schedule, and what all feeds said then
pub record FeedSince : Type 0 where
  pub schedule : List ℕ
  pub old : List FeedFold

-- a feed since the view of a number, if there is one and it is kept
abbrev pub since_view : List ℕ → Option ℕ → List KeptView → Option FeedSince
since_view schedule None kept = None
since_view schedule (Some number) kept =
    option_map (λ old. record { schedule = schedule; old = old }) (folds_at number kept)

-- the feed that a query asks for since a view that is kept, if it does so
abbrev pub feed_since : Query → List KeptView → Option FeedSince
feed_since (Feed schedule since) kept = since_view schedule since kept
feed_since (Board schedule stop span limit json) kept = None
feed_since (Alerts schedule stop span limit json) kept = None
feed_since (Unmatched schedule) kept = None
feed_since Status kept = None
feed_since (Refused code) kept = None

-- what changed in the combined feed of a schedule since then, if there is such a schedule
abbrev pub changes_answer : Schedules → List FeedFold → FeedSince → Option (List ℕ)
changes_answer schedules folds since =
    option_map (λ plan. changes_bytes schedules plan since.old folds)
    (schedule_number schedules since.schedule)

-- What answers a query at a moment, of what all feeds say and of the views that are kept: for a
-- feed since one of these what changed, and for all else the whole answer.
abbrev pub query_answered : Schedules → List FeedFold → List KeptView → Query → ℕ → Answered
query_answered schedules folds kept query moment =
    option_map_or (λ since. found Message (changes_answer schedules folds since))
    (feed_since query kept) (whole_answered schedules folds query moment)

-- what answers an item at a moment; what is no request is 400
abbrev pub item_answered : Schedules → List FeedFold → List KeptView → Item → ℕ → Answered
item_answered schedules folds kept Malformed moment = refused 400
item_answered schedules folds kept (Asked r) moment =
    query_answered schedules folds kept (query_of r) moment

-- Whether the connection closes behind the answer to an item: it is no request, or one after which
-- it closes, as after the thousandth.
unfoldable pub closes_behind : Item → Bool → Bool
closes_behind Malformed thousandth = true
closes_behind (Asked r) thousandth = closes_after r thousandth

-- the response to an item, which may be the thousandth of its connection, at a moment, of what all
-- feeds say after so many messages and of the views that are kept then
unfoldable pub answer : Schedules → Item → Bool → ℕ → ℕ → List FeedFold → List KeptView → List ℕ
answer schedules item thousandth moment number folds kept =
    let answered = item_answered schedules folds kept item moment in
    response answered.status answered.kind answered.body number moment
    (closes_behind item thousandth)
