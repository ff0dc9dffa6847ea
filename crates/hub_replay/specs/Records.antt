-- What doing a record comes to.
use Rattle.std.specs.Prelude.{◌≡◌, ℕ, ◌+◌, ◌<◌, ◌≤◌, ◌==◌, List, [], ◌++◌, All, length, drop, Option, Some, None, Result, Ok, Err, Bool, true, false, slice_get}
use Rattle.feed_defs.specs.History.{offer_outcome}
use Rattle.feed_defs.specs.History.Refusal.{TooLong as LongCause}
use Rattle.board_text_defs.specs.Answers.{Question, answer_to}
use Rattle.http_serve_defs.specs.Connections.{Served, IsServed, connection_bytes}
use Rattle.hub_replay_defs.specs.Lines.{Head, longest_line}
use Rattle.hub_replay_defs.specs.Lines.Head.{Feed, Message, Ask, Connection, End}
use Rattle.hub_replay_defs.specs.Record.{Hub, Turn, turn, act, reply_line, payload_waits, offered_turn, waits, answer_reply, question_word, folds_in, serving, connection_reply}
use Rattle.answer_defs.specs.Choices.{only_if}
use Rattle.hub_replay.specs.declared.records.Step.{Step}
use Rattle.hub_replay.specs.declared.records.Step.TheVariants.{Whole, Ends, Short, Long, Refused, NoMemory}

-- whether LF stands at a place
abbrev pub is_fed : Option ℕ → Bool
is_fed None = false
is_fed (Some b) = b == 10

-- a message too long to be looked at, whose payload ends at a place and has so many bytes: it is
-- refused where LF stands there
abbrev pub long_turn : ℕ → ℕ → Hub → List ℕ → Option Turn
long_turn end count hub bytes = only_if (is_fed (slice_get bytes end))
    (record {
      said = reply_line (Err (LongCause count));
      hub = record hub { begun = true };
      rest = drop (end + 1) bytes;
      ended = false;
    })

-- the record of a message for a feed, once its payload is there
abbrev pub numbered_turn : Hub → ℕ → Option (List ℕ × List ℕ) → Option Turn
numbered_turn hub feed None = None
numbered_turn hub feed (Some found) = Some (offered_turn hub feed found)

-- the record that bytes begin with, on a hub to which connections are given
abbrev pub Turned : Type 0
Turned = List Served → List ℕ → Option Turn

-- A whole record, of so many bytes and whatever follows, printed something more. It served these
-- connections, each with the items of its input; whatever is given behind them is left.
pub record Did (turned : Turned) (new : Hub) (bytes said said' : List ℕ) (size : ℕ) : Type 0 where
  pub reply : List ℕ
  pub says : said' ≡ said ++ reply
  pub within : size ≤ length bytes
  pub served : List Served
  pub are_served : All IsServed served
  pub is : (later : List Served) (more : List ℕ) → turned (served ++ later) more
      ≡ Some (record {
        said = reply;
        hub = serving later new;
        rest = drop size bytes ++ more;
        ended = false;
      })

-- a record ends the script, whatever follows
pub record Ended (turned : Turned) (old new : Hub) (said said' : List ℕ) : Type 0 where
  pub says : said' ≡ said
  pub rest : List ℕ → List ℕ
  pub is : (later : List Served) (more : List ℕ) → turned later more
      ≡ Some (record { said = []; hub = serving later old; rest = rest more; ended = true })

-- nothing was done
pub record Waits (old new : Hub) (said said' : List ℕ) : Type 0 where
  pub hub : new ≡ old
  pub says : said' ≡ said

-- What doing the record in front comes to. For any connections that are given and any bytes that
-- follow, `turned` gives that record and `waiting` says whether it waits for more.
abbrev pub Does : Turned → (List Served → List ℕ → Bool) → Step → Hub → Hub → List ℕ → List ℕ
    → List ℕ → Type 0
Does turned waiting (Whole size) old new bytes said said' = Did turned new bytes said said' size
Does turned waiting Ends old new bytes said said' = Ended turned old new said said'
Does turned waiting Short old new bytes said said' =
    Waits old new said said' × ((later : List Served) → turned later [] ≡ None)
    × ((later : List Served) → waiting later [] ≡ true)
Does turned waiting (Long end count) old new bytes said said' =
    Waits old new said said' × ((later : List Served) (more : List ℕ)
    → turned later more ≡ long_turn end count (serving later old) (bytes ++ more))
    × ((later : List Served) (more : List ℕ) → length (bytes ++ more) ≤ end
    → waiting later more ≡ true)
Does turned waiting Refused old new bytes said said' =
    (said' ≡ said) × ((later : List Served) (more : List ℕ) → turned later more ≡ None)
Does turned waiting NoMemory old new bytes said said' = (extra : List ℕ) × (said' ≡ said ++ extra)

-- of the record in front of the bytes
abbrev pub Turns : Step → Hub → Hub → List ℕ → List ℕ → List ℕ → Type 0
Turns step old new bytes said said' =
    Does (λ later more. turn (serving later old) (bytes ++ more))
    (λ later more. waits (serving later old) (bytes ++ more)) step old new bytes said said'

-- of the record of a line, behind which the bytes from a place on stand
abbrev pub Acts : Head → ℕ → Step → Hub → Hub → List ℕ → List ℕ → List ℕ → Type 0
Acts head behind step old new bytes said said' =
    Does (λ later more. act (serving later old) head (drop behind bytes ++ more))
    (λ later more. payload_waits (serving later old) head (drop behind bytes ++ more))
    step old new bytes said said'

-- the question that a line asks, if it asks one
abbrev pub question_in : Head → Option Question
question_in (Ask question) = Some question
question_in (Feed name) = None
question_in (Message feed n) = None
question_in (Connection moment n) = None
question_in End = None

-- so many bytes without a line among them wait, or are no record whatever follows
abbrev pub LacksLine : ℕ → Step → Type 0
LacksLine count Short = count < longest_line
LacksLine count Refused = longest_line ≤ count
LacksLine count (Whole size) = ⊥
LacksLine count Ends = ⊥
LacksLine count (Long end size) = ⊥
LacksLine count NoMemory = ⊥

-- what is to be printed grew by a text, or by something where memory ran out
abbrev pub Says : {A E : Type 0} → Result A E → List ℕ → List ℕ → List ℕ → Type 0
Says (Ok x) said said' text = said' ≡ said ++ text
Says (Err e) said said' text = (extra : List ℕ) × (said' ≡ said ++ extra)

-- a message was offered, its answer printed
abbrev pub OffersTo : {A E : Type 0} → Result A E → ℕ → List ℕ → Hub → Hub → List ℕ → List ℕ
    → Type 0
OffersTo (Ok x) feed bytes old new said said' =
    (said' ≡ said ++ reply_line (offer_outcome feed bytes old.history).reply)
    × (new ≡ record old {
      history = (offer_outcome feed bytes old.history).history;
      begun = true;
    })
OffersTo (Err e) feed bytes old new said said' = (extra : List ℕ) × (said' ≡ said ++ extra)

-- a question was asked, its answer printed
abbrev pub Asks : {A E : Type 0} → Result A E → Question → Hub → Hub → List ℕ → List ℕ → Type 0
Asks (Ok x) question old new said said' =
    (said' ≡ said ++ answer_reply (question_word question)
    (answer_to old.plans (folds_in old) question))
    × (new ≡ record old { begun = true })
Asks (Err e) question old new said said' = (extra : List ℕ) × (said' ≡ said ++ extra)

-- A connection was served, and what is printed of it is said: its items are those of its input, and
-- only the declarations end.
pub record Said (old new : Hub) (moment : ℕ) (input said said' : List ℕ) : Type 0 where
  pub served : Served
  pub is_served : IsServed served
  pub of_input : served.input ≡ input
  pub says : said' ≡ said ++ connection_reply
      (connection_bytes old.plans moment (length old.history) (folds_in old) served) served.finish
  pub hub : new ≡ record old { begun = true }

-- the same, or memory ran out in the midst of it
abbrev pub SaysServed : {A E : Type 0} → Result A E → Hub → Hub → ℕ → List ℕ → List ℕ → List ℕ
    → Type 0
SaysServed (Ok x) old new moment input said said' = Said old new moment input said said'
SaysServed (Err e) old new moment input said said' = (extra : List ℕ) × (said' ≡ said ++ extra)
