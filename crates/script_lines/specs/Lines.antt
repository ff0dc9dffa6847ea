-- What the parts of a record's line are.
use Rattle.std.specs.Prelude.{◌≡◌, ℕ, ◌≤◌, false, List, Option, Some, None, Result, Ok, Err, ⊤}
use Rattle.std.specs.Global.{Vec}
use Rattle.hub_replay_defs.specs.Lines.{Head as ScriptHead}
use Rattle.hub_replay_defs.specs.Lines.Head.{Feed as FeedLine, Message as MessageLine, Ask as AskLine, Connection as ConnectionLine, End as EndLine}
use Rattle.board_text_defs.specs.Answers.Question.{FeedOf, BoardOf, AlertsOf, UnmatchedOf, StatusOf}
use Rattle.text_defs.specs.Moments.{last_moment}
use Rattle.board_text_defs.specs.Answers.{IsAsked}
use Rattle.script_lines.specs.declared.lines.Line.{Line}
use Rattle.script_lines.specs.declared.lines.Line.TheVariants.{Feed, Message, Combined, Board, Alerts, Unmatched, Status, Connection, End}
use Rattle.script_lines.specs.declared.lines.LineFault.{LineFault}
use Rattle.script_lines.specs.declared.lines.LineFault.TheVariants.{NotALine, NoMemory}

-- what a line says, in the words of the script
abbrev pub head_seen : Line → ScriptHead
head_seen (Feed name) = FeedLine name
head_seen (Message feed n) = MessageLine feed n
head_seen (Combined schedule) = AskLine (FeedOf schedule)
head_seen (Board schedule stop moment span limit json) = AskLine (BoardOf (record {
  schedule = schedule;
  stop = stop;
  at = moment;
  span = span;
  limit = limit;
  json = json;
}))
head_seen (Alerts schedule stop moment span limit) = AskLine (AlertsOf (record {
  schedule = schedule;
  stop = stop;
  at = moment;
  span = span;
  limit = limit;
  json = false;
}))
head_seen (Unmatched schedule) = AskLine (UnmatchedOf schedule)
head_seen Status = AskLine StatusOf
head_seen (Connection moment n) = ConnectionLine moment n
head_seen End = EndLine

-- why there is nothing: it isn't one, or memory ran out, of which nothing is said
abbrev pub Lacks : {A : Type 0} → Option A → LineFault → Type 0
Lacks defined NotALine = defined ≡ None
Lacks defined NoMemory = ⊤

-- what a line asks may be asked: of a board or of alerts the moment, the span and the number of
-- rows are in range, and of a connection the moment
abbrev pub MayAsk : ScriptHead → Type 0
MayAsk (AskLine question) = IsAsked question
MayAsk (FeedLine name) = ⊤
MayAsk (MessageLine feed n) = ⊤
MayAsk (ConnectionLine moment n) = moment ≤ last_moment
MayAsk EndLine = ⊤

-- the line says just what is defined, with numbers in range, or is none of the records
abbrev pub SaysHead : Option ScriptHead → Result Line LineFault → Type 0
SaysHead defined (Ok line) = (defined ≡ Some (head_seen line)) × MayAsk (head_seen line)
SaysHead defined (Err fault) = Lacks defined fault

-- the text is the defined one, or there is none
abbrev pub TextIs : Option (List ℕ) → Result (List ℕ) LineFault → Type 0
TextIs defined (Ok text) = defined ≡ Some text
TextIs defined (Err fault) = Lacks defined fault

-- so of all texts
abbrev pub TextsAre : Option (List (List ℕ)) → Result (Vec (List ℕ)) LineFault → Type 0
TextsAre defined (Ok texts) = defined ≡ Some texts.items
TextsAre defined (Err fault) = Lacks defined fault
