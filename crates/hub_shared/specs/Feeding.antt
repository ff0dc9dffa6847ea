-- What becomes of the messages that a port hands in, one after another.
use Rattle.std.specs.Prelude.{◌≡◌, ℕ, ◌+◌, ◌<◌, ◌≤◌, not, Bool, true, false, nat_lt, List, [], ◌∷◌, ◌++◌, length, map, filter, Option, Some, None, Result, Ok, Err}
use Rattle.std.specs.List.{All}
use Rattle.pb_wire_defs.specs.Spelling.{AreBytes}
use Rattle.rt_types.specs.declared.message.FeedMessage.{FeedMessage}
use Rattle.feed_defs.specs.History.{Refusal, judgement_of, longest_message, messages_of, stamp_of}
use Rattle.hub_outside.specs.Count.{Rose}
use Rattle.feed_port.specs.Ports.{Ahead, Gives, GoesOnToTell, IsDone}
use Rattle.hub_shared.specs.Seats.{SeatSeen, history_at, Begins}
use Rattle.hub_shared.specs.declared.report.PortEnd.{PortEnd}
use Rattle.hub_shared.specs.declared.report.PortEnd.TheVariants.{Ended, PortFault, Spent, NoMemory}
use Rattle.hub_shared.specs.declared.report.Tally.{Tally}

-- the most messages that one call asks a port for
abbrev pub most_answers : ℕ
most_answers = 1000000000000

-- ---- what is accepted

-- a message that is accepted, and then the others, which have to be newer than its stamp
abbrev pub newer_by : Result FeedMessage Refusal → ℕ → (ℕ → List FeedMessage) → List FeedMessage
newer_by (Ok m) last others = m ∷ others (stamp_of m)
newer_by (Err refusal) last others = others last

-- those of a feed's messages that are well-formed and newer than a stamp and than all that were
-- accepted before them
unfoldable pub newer_of : ℕ → List (List ℕ) → List FeedMessage
newer_of last [] = []
newer_of last (bytes ∷ rest) =
    newer_by (judgement_of last bytes) last (λ stamp. newer_of stamp rest)

-- the stamp of the last one of messages, or the one that was there before them
unfoldable pub last_after : ℕ → List FeedMessage → ℕ
last_after last [] = last
last_after last (m ∷ ms) = last_after (stamp_of m) ms

-- ---- what was handed in

-- the bytes of a message that a port handed in, and whether memory was wanting for it
pub record Given : Type 0 where
  pub bytes : List ℕ
  pub starved : Bool

-- more bytes than a message may have
abbrev pub exceeds : Given → Bool
exceeds given = nat_lt longest_message (length given.bytes)

abbrev pub bytes_of : List Given → List (List ℕ)
bytes_of given = map (λ one. one.bytes) given

-- the messages but those for which memory was wanting
abbrev pub judged_of : List Given → List (List ℕ)
judged_of given = bytes_of (filter (λ one. not one.starved) given)

-- what was wanting memory had no more bytes than a message may have
abbrev pub IsFit : Given → Type 0
IsFit one = one.starved ≡ true → length one.bytes ≤ longest_message

-- what may be a message are bytes
abbrev pub IsOfBytes : Given → Type 0
IsOfBytes one = exceeds one ≡ false → AreBytes one.bytes

abbrev pub count_by : (Given → Bool) → List Given → ℕ
count_by test given = length (filter test given)

abbrev pub tally_of : ℕ → ℕ → ℕ → ℕ → Tally
tally_of accepted refused starved too_long = record {
  accepted = accepted;
  refused = refused;
  starved = starved;
  too_long = too_long;
}

abbrev pub total : Tally → ℕ
total tally = tally.accepted + tally.refused + tally.starved + tally.too_long

-- a message more that was refused with that cause, or for want of memory where there is none
abbrev pub counted : Option Refusal → Tally → Tally
counted None tally = record tally { starved = tally.starved + 1 }
counted (Some cause) tally = record tally { refused = tally.refused + 1 }

-- ---- what became of it

-- These were handed in. The feed's messages in the history of the seat's receipt are those of
-- before and then just the well-formed ones that are newer than all accepted before them, but for
-- those for which memory was wanting; each is counted once.
pub record Sorts (old new : SeatSeen) (given : List Given) (tally : Tally) : Type 0 where
  pub messages : messages_of old.feed (history_at new.receipt)
      ≡ messages_of old.feed (history_at old.receipt) ++ newer_of old.last (judged_of given)
  pub begins : Begins (history_at old.receipt) (history_at new.receipt)
  pub hub : new.ties ≡ old.ties
  pub feed : new.feed ≡ old.feed
  pub last : new.last ≡ last_after old.last (newer_of old.last (judged_of given))
  pub seat : new.accepted ≡ old.accepted + tally.accepted
  pub accepted : tally.accepted ≡ length (newer_of old.last (judged_of given))
  pub starved : tally.starved ≡ count_by (λ one. one.starved) given
  pub fit : All IsFit given
  pub of_bytes : All IsOfBytes given
  pub too_long : tally.too_long ≡ count_by exceeds given
  pub all : total tally ≡ length given

-- of a port that tells its messages first and last, these were the first ones
abbrev pub AreFirst : Ahead → Ahead → List (List ℕ) → Type 0
AreFirst None after items = Unit {0}
AreFirst (Some xs) None items = Unit {0}
AreFirst (Some xs) (Some ys) items = (rest : List (List ℕ)) × (xs ≡ items ++ rest)

-- and these were all
abbrev pub AreAll : Ahead → Ahead → List (List ℕ) → Type 0
AreAll None after items = Unit {0}
AreAll (Some xs) None items = Unit {0}
AreAll (Some xs) (Some ys) items = xs ≡ items

-- Why no more was asked for: these were all, the port failed, so many were handed in, or there was
-- no memory for the buffer, and nothing was asked for.
abbrev pub EndsAs : PortEnd → List (List ℕ) → Ahead → Ahead → ℕ → ℕ → Type 0
EndsAs Ended items before after faults faults' =
    (length items < most_answers) × AreAll before after items
EndsAs PortFault items before after faults faults' =
    (length items < most_answers) × Rose faults faults'
EndsAs Spent items before after faults faults' = length items ≡ most_answers
EndsAs NoMemory items before after faults faults' = items ≡ []

-- What was handed in by a port, what became of it, and why no more was.
pub record Ingests (old new : SeatSeen) (before after : Ahead) (faults faults' : ℕ)
    (tally : Tally) (end : PortEnd) : Type 0 where
  pub given : List Given
  pub front : AreFirst before after (bytes_of given)
  pub sorts : Sorts old new given tally
  pub ends : EndsAs end (bytes_of given) before after faults faults'
  pub fallen : faults ≤ faults'

-- ---- one ask

-- of those that were handed in and one more, with memory for it or without
pub record SortsMore (old new : SeatSeen) (given : List Given) (bytes : List ℕ)
    (tally : Tally) : Type 0 where
  pub starved : Bool
  pub sorts : Sorts old new (given ++ record { bytes = bytes; starved = starved } ∷ []) tally

-- one message more was handed in
pub record Goes (old new : SeatSeen) (before after : Ahead) (faults faults' : ℕ)
    (tally tally' : Tally) : Type 0 where
  pub bytes : List ℕ
  pub gives : Gives before after (bytes ∷ [])
  pub sorts : (first : SeatSeen) (given : List Given) → Sorts first old given tally
      → SortsMore first new given bytes tally'
  pub counted : total tally' ≡ total tally + 1

-- an ask that hands in nothing finds that none is left, or fails
abbrev pub StopsAs : PortEnd → Ahead → Ahead → ℕ → ℕ → Type 0
StopsAs Ended before after faults faults' = Gives before after [] × IsDone after
StopsAs PortFault before after faults faults' = Rose faults faults'
StopsAs Spent before after faults faults' = ⊥
StopsAs NoMemory before after faults faults' = ⊥

-- nothing was handed in, and the port ends so
pub record Stops (end : PortEnd) (old new : SeatSeen) (before after : Ahead) (faults faults' : ℕ)
    (tally tally' : Tally) : Type 0 where
  pub seat : new ≡ old
  pub tally_is : tally' ≡ tally
  pub ends : StopsAs end before after faults faults'

abbrev pub Asked : SeatSeen → SeatSeen → Ahead → Ahead → ℕ → ℕ → Tally → Tally
    → Option PortEnd → Type 0
Asked old new before after faults faults' tally tally' None =
    Goes old new before after faults faults' tally tally'
Asked old new before after faults faults' tally tally' (Some end) =
    Stops end old new before after faults faults' tally tally'

-- what one ask did
pub record Asks (old new : SeatSeen) (before after : Ahead) (faults faults' : ℕ)
    (tally tally' : Tally) (result : Option PortEnd) : Type 0 where
  pub asked : Asked old new before after faults faults' tally tally' result
  pub told : GoesOnToTell before after faults faults'
  pub fallen : faults ≤ faults'
