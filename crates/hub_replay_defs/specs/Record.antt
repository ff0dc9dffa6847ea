-- The records of a replay script: their lines, what each prints, and what it leaves behind.
use Rattle.std.specs.Prelude.{ℕ, ◌+◌, List, [], ◌∷◌, ◌++◌, length, take, drop, Option, Some, None, Result, Ok, Err, Bool, true, false, not, nat_lt, nat_le, codes, slice_get, ◌==◌, ◌&&◌, if◌then◌else◌}
use Rattle.std.specs.List.{list_any}
use Rattle.std.specs.Str.{bytes_eq}
use Rattle.std.specs.Fmt.{decimal}
use Rattle.std.specs.Option.{is_some}
use Rattle.answer_defs.specs.Choices.{only_if}
use Rattle.text_defs.specs.Cleaned.{line_feed}
use Rattle.text_defs.specs.Names.{is_name}
use Rattle.feed_defs.specs.declared.history.Entry.{Entry}
use Rattle.feed_defs.specs.History.{Refusal, offer_outcome}
use Rattle.sched_types.specs.declared.plans.NamedFeed.{NamedFeed}
use Rattle.sched_types.specs.Schedules.{Schedules}
use Rattle.sched_types.specs.Timetable.{no_timetable}
use Rattle.board_defs.specs.Fold.{FeedFold, fold_of}
use Rattle.board_text_defs.specs.Answers.{Question, answer_to, feed_number}
use Rattle.board_text_defs.specs.Answers.Question.{FeedOf, BoardOf, AlertsOf, UnmatchedOf, StatusOf}
use Rattle.http_defs.specs.Requests.{Finish, ended, closed, bad}
use Rattle.http_serve_defs.specs.Connections.{Served, connection_bytes}
use Rattle.hub_replay_defs.specs.Texts.{refusal_words}
use Rattle.hub_replay_defs.specs.Lines.{Head, head_of, line_within, longest_line}
use Rattle.hub_replay_defs.specs.Lines.Head.{Feed, Message, Ask, Connection, End}
use Rattle.hub_replay_defs.specs.Optional.{◌>>=◌}

-- the most feeds
abbrev pub most_feeds : ℕ
most_feeds = 64

-- The hub of a script: its timetables and feeds, what it accepted, and whether no feed can be
-- declared any more; and the connections that its records may serve. Which items an input has is a
-- relation, so these are given; what is served is the first one given that has the record's input.
pub record Hub : Type 0 where
  pub plans : Schedules
  pub history : List Entry
  pub begun : Bool
  pub given : List Served

-- without a configuration there is one schedule, `plain`, without rows
abbrev pub plain_schedules : List NamedFeed → Schedules
plain_schedules feeds = record {
  plans = record { name = codes "plain"; prefix = []; plan = no_timetable } ∷ [];
  feeds = feeds;
}

-- without a configuration a script begins with no feeds, and declares them
abbrev pub start : Hub
start = record { plans = plain_schedules []; history = []; begun = false; given = [] }

-- with one it has that one's timetables and feeds, and declares none
abbrev pub configured : Schedules → Hub
configured plans = record { plans = plans; history = []; begun = true; given = [] }

-- the hub with connections given to it
abbrev pub serving : List Served → Hub → Hub
serving served hub = record hub { given = served }

-- what each feed of the hub says
abbrev pub folds_in : Hub → List FeedFold
folds_in hub = fold_of (length hub.plans.feeds) hub.history

-- a whole record in front: what it prints, the hub behind it, the bytes behind it, and whether it
-- ends the script
pub record Turn : Type 0 where
  pub said : List ℕ
  pub hub : Hub
  pub rest : List ℕ
  pub ended : Bool

-- the line that answers an offered message
abbrev pub reply_line : Result ℕ Refusal → List ℕ
reply_line (Ok count) = codes "accepted " ++ decimal count ++ line_feed
reply_line (Err refusal) = refusal_words refusal ++ line_feed

-- the word with which the answer to a question begins
abbrev pub question_word : Question → List ℕ
question_word (FeedOf schedule) = codes "feed"
question_word (BoardOf asked) = codes "board"
question_word (AlertsOf asked) = codes "alerts"
question_word (UnmatchedOf schedule) = codes "unmatched"
question_word StatusOf = codes "status"

-- what a question is answered: how many bytes follow, and these with an LF behind them; or that
-- what it asks for isn't there
abbrev pub answer_reply : List ℕ → Option (List ℕ) → List ℕ
answer_reply word None = word ++ codes " none" ++ line_feed
answer_reply word (Some bytes) =
    word ++ codes " " ++ decimal (length bytes) ++ line_feed ++ bytes ++ line_feed

abbrev pub asked_turn : Hub → Question → List ℕ → Turn
asked_turn hub question rest = record {
  said = answer_reply (question_word question) (answer_to hub.plans (folds_in hub) question);
  hub = record hub { begun = true };
  rest = rest;
  ended = false;
}

-- a new feed is declared before all other records
abbrev pub may_declare : Hub → List ℕ → Bool
may_declare hub name =
    not hub.begun && is_name name
    && not (list_any (λ feed. bytes_eq name feed.name) hub.plans.feeds)
    && nat_lt (length hub.plans.feeds) most_feeds

-- one more feed, of the first schedule, without an age
abbrev pub with_feed : Schedules → List ℕ → Schedules
with_feed plans name =
    record plans { feeds = plans.feeds ++ record { name = name; plan = 0; max_age = 0 } ∷ [] }

abbrev pub declaration_turn : Hub → List ℕ → List ℕ → Option Turn
declaration_turn hub name rest =
    only_if (may_declare hub name) (record {
      said = [];
      hub = record hub { plans = with_feed hub.plans name };
      rest = rest;
      ended = false;
    })

-- the payload of a message: so many bytes and one LF behind them
unfoldable pub payload_at : ℕ → List ℕ → Option (List ℕ × List ℕ)
payload_at n bytes = only_if (unwrap_eq (slice_get bytes n)) (take n bytes, drop (n + 1) bytes)
  where
    unwrap_eq : Option ℕ → Bool
    unwrap_eq None = false
    unwrap_eq (Some b) = b == 10

abbrev pub offered_turn : Hub → ℕ → List ℕ × List ℕ → Turn
offered_turn hub feed (bytes, rest) = let after =
    offer_outcome feed bytes hub.history in record {
      said = reply_line after.reply;
      hub = record hub { history = after.history; begun = true };
      rest = rest;
      ended = false;
    }

-- the word for why a connection has no further request
abbrev pub finish_word : Finish → List ℕ
finish_word ended = codes "ended"
finish_word closed = codes "closed"
finish_word bad = codes "bad"

-- what a connection prints that was served: how many bytes were written on it and why it ended, and
-- these bytes with an LF behind them
abbrev pub connection_reply : List ℕ → Finish → List ℕ
connection_reply bytes finish =
    codes "connection " ++ decimal (length bytes) ++ codes " " ++ finish_word finish ++ line_feed
    ++ bytes ++ line_feed

-- The first connection given of this input, and those behind it. Where none is given, it is one
-- without items, and none is behind it.
unfoldable pub connection_of : List ℕ → List Served → Served × List Served
connection_of input [] = (record { input = input; items = []; finish = ended }, [])
connection_of input (s ∷ served) =
    if bytes_eq s.input input then (s, served) else connection_of input served

-- a connection is served at a moment, of what all feeds say, and no message comes meanwhile
abbrev pub served_turn : Hub → ℕ → Served × List Served → List ℕ → Turn
served_turn hub moment (s, later) rest = record {
  said = connection_reply
      (connection_bytes hub.plans moment (length hub.history) (folds_in hub) s) s.finish;
  hub = record hub { begun = true; given = later };
  rest = rest;
  ended = false;
}

-- the record of a line, with the bytes behind the line
abbrev pub act : Hub → Head → List ℕ → Option Turn
act hub (Feed name) rest = declaration_turn hub name rest
act hub (Message feed n) rest = feed_number hub.plans feed >>= λ k.
    payload_at n rest >>= λ found. Some (offered_turn hub k found)
act hub (Ask question) rest = Some (asked_turn hub question rest)
act hub (Connection moment n) rest = payload_at n rest >>= λ found.
    Some (served_turn hub moment (connection_of found.0 hub.given) found.1)
act hub End rest = Some (record { said = []; hub = hub; rest = rest; ended = true })

-- the whole record in front, if there is one
unfoldable pub turn : Hub → List ℕ → Option Turn
turn hub bytes = line_within longest_line bytes >>= λ line. head_of line.0 >>= λ head.
    act hub head line.1

-- the record of a line, whose payload isn't there yet, waits for it: it is a message for a feed
-- that is declared, or a connection
abbrev pub payload_waits : Hub → Head → List ℕ → Bool
payload_waits hub (Message feed n) rest =
    is_some (feed_number hub.plans feed) && nat_le (length rest) n
payload_waits hub (Feed name) rest = false
payload_waits hub (Ask question) rest = false
payload_waits hub (Connection moment n) rest = nat_le (length rest) n
payload_waits hub End rest = false

-- what the line in front of bytes says is still to be whole
abbrev pub head_waits : Hub → Option Head → List ℕ → Bool
head_waits hub None rest = false
head_waits hub (Some head) rest = payload_waits hub head rest

abbrev pub line_waits : Hub → Option (List ℕ × List ℕ) → List ℕ → Bool
line_waits hub None bytes = nat_lt (length bytes) longest_line
line_waits hub (Some line) bytes = head_waits hub (head_of line.0) line.1

-- The record in front waits for more bytes: its line or its payload isn't whole. One that doesn't
-- wait is whole, or no record whatever follows.
unfoldable pub waits : Hub → List ℕ → Bool
waits hub bytes = line_waits hub (line_within longest_line bytes) bytes
