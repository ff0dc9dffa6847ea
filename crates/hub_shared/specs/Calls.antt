-- What the calls of a hub do.
use Rattle.std.specs.Prelude.{◌≡◌, ℕ, ◌+◌, ◌<◌, List, [], ◌∷◌, ◌++◌, length, Option, Some, None, Result, Ok, Err}
use Rattle.answer_defs.specs.Defined.{IsCause}
use Rattle.rt_types.specs.declared.message.FeedMessage.{FeedMessage}
use Rattle.feed_defs.specs.declared.history.Entry.{Entry}
use Rattle.feed_defs.specs.History.{IsLegal, judgement_of, messages_of, last_stamp, stamp_of}
use Rattle.board_defs.specs.Views.{hub_first}
use Rattle.hub_core.specs.declared.refusal.Refusal.{Refusal}
use Rattle.hub_core.specs.Answers.{cause_of}
use Rattle.hub_history.specs.Told.{Told, history_of}
use Rattle.snapshot_cell.specs.Seen.{PassSeen}
use Rattle.hub_shared.specs.Seats.{Ties, IsOf, SeatSeen, history_at, count_of, last_feed, Begins}

-- a pass of a hub that accepted nothing
pub record IsFresh (hub : Ties) (pass : PassSeen) : Type 0 where
  pub of : IsOf pass.line hub
  pub log : pass.line.log ≡ []
  pub reads : pass.reads ≡ 0
  pub shown : pass.shown ≡ hub_first hub.plans

-- ---- seats

-- what a receipt says of its feed, whose message is the last of its history
pub record Receives (seat : SeatSeen) (told : Told) : Type 0 where
  pub hub : IsOf told seat.ties
  pub some : 0 < seat.accepted
  pub ends : last_feed (history_of told) ≡ Some seat.feed
  pub legal : IsLegal (length seat.ties.plans.feeds) (history_of told)

-- it is there exactly where some message was accepted
abbrev pub HasReceipt : SeatSeen → Option Told → Type 0
HasReceipt seat None = seat.accepted ≡ 0
HasReceipt seat (Some told) = Receives seat told

-- what is true of every seat: its receipt is of its hub, and the feed's messages in its history are
-- as many as were accepted, the last of them with the seat's stamp
pub record IsSound (seat : SeatSeen) : Type 0 where
  pub one : seat.feed < length seat.ties.plans.feeds
  pub receipt : HasReceipt seat seat.receipt
  pub counted : count_of seat.feed (history_at seat.receipt) ≡ seat.accepted
  pub last : last_stamp seat.feed (history_at seat.receipt) ≡ seat.last

-- ---- ingesting

-- The receipt's history ends with the message, begins with the history of the seat's last receipt,
-- and has no other message of the feed more than that. The seat has one more accepted message, its
-- stamp, and a receipt of the same history.
pub record Takes (old : SeatSeen) (message : FeedMessage) (new : SeatSeen)
    (receipt : Told) : Type 0 where
  pub hub : IsOf receipt old.ties
  pub before : List Entry
  pub ends : history_of receipt ≡ before ++ record { feed = old.feed; message = message } ∷ []
  pub begins : Begins (history_at old.receipt) before
  pub own : messages_of old.feed (history_of receipt)
      ≡ messages_of old.feed (history_at old.receipt) ++ message ∷ []
  pub seat : new ≡ record old {
    accepted = old.accepted + 1;
    last = stamp_of message;
    receipt = Some receipt;
  }

-- the message of the bytes is well-formed and newer than the seat's last, and was taken
pub record Accepts (bytes : List ℕ) (old new : SeatSeen) (receipt : Told) : Type 0 where
  pub message : FeedMessage
  pub judged : judgement_of old.last bytes ≡ Ok message
  pub taken : Takes old message new receipt

-- the bytes were accepted, or they are refused with the cause, and the seat is as it was; want of
-- memory may come at any point
abbrev pub Ingested : List ℕ → SeatSeen → SeatSeen → Result Told Refusal → Type 0
Ingested bytes old new (Ok receipt) = Accepts bytes old new receipt
Ingested bytes old new (Err refusal) =
    IsCause (judgement_of old.last bytes) (cause_of refusal) × (new ≡ old)

-- ---- closing

-- the ended history begins with that of the seat's receipt, and has all of its feed's messages
pub record Ends (seat : SeatSeen) (ending : Told) : Type 0 where
  pub hub : IsOf ending seat.ties
  pub begins : Begins (history_at seat.receipt) (history_of ending)
  pub own : messages_of seat.feed (history_of ending)
      ≡ messages_of seat.feed (history_at seat.receipt)
  pub counted : count_of seat.feed (history_of ending) ≡ seat.accepted
