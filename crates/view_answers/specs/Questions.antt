-- Questions as the definitions have them.
use Rattle.std.specs.Prelude.{ℕ, Bool, true, false, List, []}
use Rattle.board_text_defs.specs.Asked.{asked_seen}
use Rattle.board_text_defs.specs.Answers.{Question as Defined}
use Rattle.board_text_defs.specs.Answers.Question.{FeedOf, BoardOf, AlertsOf, UnmatchedOf, StatusOf}
use Rattle.view_answers.specs.declared.question.Question.{Question}
use Rattle.view_answers.specs.declared.question.Question.TheVariants.{Feed, Board, Alerts, Unmatched, Status}

abbrev pub question_seen : Question → Defined
question_seen (Feed schedule) = FeedOf schedule.now
question_seen (Board asked) = BoardOf (asked_seen asked)
question_seen (Alerts asked) = AlertsOf (asked_seen asked)
question_seen (Unmatched schedule) = UnmatchedOf schedule.now
question_seen Status = StatusOf

-- whether the status is asked for, and so no schedule
abbrev pub is_status : Defined → Bool
is_status (FeedOf schedule) = false
is_status (BoardOf asked) = false
is_status (AlertsOf asked) = false
is_status (UnmatchedOf schedule) = false
is_status StatusOf = true

-- the name of the schedule that is asked for; empty where none is
abbrev pub schedule_of : Defined → List ℕ
schedule_of (FeedOf schedule) = schedule
schedule_of (BoardOf asked) = asked.schedule
schedule_of (AlertsOf asked) = asked.schedule
schedule_of (UnmatchedOf schedule) = schedule
schedule_of StatusOf = []
