-- Which messages a hub accepts, and what it holds of the messages that it accepted.
use Rattle.std.specs.Prelude.{◌≡◌, ℕ, ◌+◌, List, [], ◌∷◌, ◌++◌, length, map, reverse, filter, Option, Some, None, Result, Ok, Err, Bool, true, false, not, unwrap_or, fold, nat_lt, codes, ◌==◌, ◌&&◌, ◌||◌, if◌then◌else◌}
use Rattle.std.specs.List.{filter_map, flat_map, last_or, list_any, list_all, AllByRecursion}
use Rattle.std.specs.Str.{bytes_eq}
use Rattle.std.specs.Ordering.{nat_cmp}
use Rattle.std.specs.Cmp.Lexicographic.{slice_cmp}
use Rattle.std.specs.FinMap.{put}
use Rattle.answer_defs.specs.Steps.{◌>>=◌}
use Rattle.rt_types.specs.declared.enums.Incrementality.{Incrementality}
use Rattle.rt_types.specs.declared.enums.Incrementality.TheVariants.{FullDataset, Differential}
use Rattle.rt_types.specs.declared.message.FeedMessage.{FeedMessage}
use Rattle.feed_defs.specs.declared.history.Entry.{Entry}
use Rattle.feed_defs.specs.declared.history.Stored.{Stored}
use Rattle.text_defs.specs.Moments.{is_stamp}
use Rattle.pb_wire_defs.specs.Spelling.{AreBytes}
use Rattle.feed_defs.specs.Rows.{Fault}
use Rattle.feed_defs.specs.Table.{read}

-- the most bytes that a message may have
abbrev pub longest_message : ℕ
longest_message = 16777216

-- when a message was made (FeedHeader, `timestamp`); an absent stamp is 0
abbrev pub stamp_of : FeedMessage → ℕ
stamp_of m = unwrap_or m.header.timestamp 0

-- the versions of GTFS Realtime that the hub takes
abbrev pub has_version : FeedMessage → Bool
has_version m = bytes_eq m.header.version (codes "1.0") || bytes_eq m.header.version (codes "2.0")

abbrev pub has_moment : FeedMessage → Bool
has_moment m = is_stamp (stamp_of m)

-- a message that may stand in a history
abbrev pub is_sound : FeedMessage → Bool
is_sound m = has_version m && has_moment m

-- Why an offered message is refused, in the order of judging: it has too many bytes (how many), its
-- bytes have a fault, its version isn't one that the hub takes, its stamp isn't a moment, or its
-- stamp isn't above its feed's last (the last, and its own).
pub data Refusal : Type 0 where
  TooLong : ℕ → Refusal
  Malformed : Fault → Refusal
  Version : List ℕ → Refusal
  BadStamp : ℕ → Refusal
  Stale : ℕ → ℕ → Refusal

-- the message, if it may stand in a history
abbrev pub sound : FeedMessage → Result FeedMessage Refusal
sound m =
    if not (has_version m) then Err (Version m.header.version)
    else if not (has_moment m) then Err (BadStamp (stamp_of m))
    else Ok m

abbrev pub if_read : Result FeedMessage Fault → Result FeedMessage Refusal
if_read (Ok m) = sound m
if_read (Err fault) = Err (Malformed fault)

-- the message of well-formed bytes
unfoldable pub well_formed : List ℕ → Result FeedMessage Refusal
well_formed bytes = if nat_lt longest_message (length bytes) then Err (TooLong (length bytes))
    else if_read (read bytes)

-- the message, if it is newer than the stamp
abbrev pub newer : ℕ → FeedMessage → Result FeedMessage Refusal
newer last m = if nat_lt last (stamp_of m) then Ok m else Err (Stale last (stamp_of m))

-- the message of the bytes, if it is well-formed and newer than the stamp
abbrev pub judgement_of : ℕ → List ℕ → Result FeedMessage Refusal
judgement_of last bytes = well_formed bytes >>= newer last

-- the messages of one feed, and their stamps
abbrev pub message_of : ℕ → Entry → Option FeedMessage
message_of feed entry = if entry.feed == feed then Some entry.message else None

unfoldable pub messages_of : ℕ → List Entry → List FeedMessage
messages_of feed history = filter_map (message_of feed) history

abbrev pub stamps_of : ℕ → List Entry → List ℕ
stamps_of feed history = map stamp_of (messages_of feed history)

-- the stamp of a feed's last message, 0 if it has none
abbrev pub last_stamp : ℕ → List Entry → ℕ
last_stamp feed history = unwrap_or (last_or None (stamps_of feed history)) 0

-- whether numbers strictly rise
abbrev pub is_rising : List ℕ → Bool
is_rising [] = true
is_rising (x ∷ []) = true
is_rising (x ∷ y ∷ zs) = nat_lt x y && is_rising (y ∷ zs)

abbrev pub is_legal_entry : ℕ → Entry → Bool
is_legal_entry feeds entry = nat_lt entry.feed feeds && is_sound entry.message

-- a history of so many feeds: sound messages of these feeds, and the stamps of each feed strictly
-- rise
pub record IsLegal (feeds : ℕ) (history : List Entry) : Type 0 where
  pub entries : list_all (is_legal_entry feeds) history ≡ true
  pub rising : (feed : ℕ) → is_rising (stamps_of feed history) ≡ true

-- a message that some bytes read as
pub record IsRead (m : FeedMessage) : Type 0 where
  pub bytes : List ℕ
  pub are_bytes : AreBytes bytes
  pub is : read bytes ≡ Ok m

-- a history of such messages
abbrev pub WereRead : List Entry → Type 0
WereRead history = AllByRecursion (λ entry. IsRead entry.message) history

-- the reply to an offered message, and the history after it
pub record OfferOutcome : Type 0 where
  pub reply : Result ℕ Refusal
  pub history : List Entry

abbrev pub outcome_of_judgement : ℕ → List Entry → Result FeedMessage Refusal → OfferOutcome
outcome_of_judgement feed history (Ok m) = record {
  reply = Ok (length history + 1);
  history = history ++ record { feed = feed; message = m } ∷ [];
}
outcome_of_judgement feed history (Err refusal) = record { reply = Err refusal; history = history }

-- an offered message is refused, or it is added at the end of the history
abbrev pub offer_outcome : ℕ → List ℕ → List Entry → OfferOutcome
offer_outcome feed bytes history = outcome_of_judgement feed history
    (judgement_of (last_stamp feed history) bytes)

-- whether a message is the whole data set of its feed (FeedHeader, `incrementality`, by default
-- FULL_DATASET)
abbrev pub is_differential : Option Incrementality → Bool
is_differential None = false
is_differential (Some FullDataset) = false
is_differential (Some Differential) = true

abbrev pub is_full : FeedMessage → Bool
is_full m = not (is_differential m.header.incrementality)

-- the messages from the last FULL_DATASET on, or all of them if there is none
unfoldable pub since_full : List FeedMessage → List FeedMessage
since_full [] = []
since_full (m ∷ ms) = if list_any is_full ms then since_full ms else m ∷ ms

-- what a message says under each id: its entities, with its stamp
abbrev pub Change : Type 0
Change = List ℕ × Stored

abbrev pub changes_in : FeedMessage → List Change
changes_in m = map (λ e. (e.id, record { entity = e; stamp = stamp_of m })) m.entity

-- all that is said since the last FULL_DATASET, in order
abbrev pub changes_of : List FeedMessage → List Change
changes_of ms = flat_map changes_in (since_full ms)

abbrev pub is_kept : Change → Bool
is_kept change = not (unwrap_or change.1.entity.is_deleted false)

-- What a feed holds under an id: the last entity with that id, whole, unless it says that it is
-- deleted.
abbrev pub last_said : List ℕ → List Change → Option Change
last_said id changes = last_or None (filter_map (λ change. if bytes_eq id change.0 then Some change
    else None) changes)

abbrev pub kept_of : Option Change → Option Stored
kept_of None = None
kept_of (Some change) = if is_kept change then Some change.1 else None

abbrev pub entity_at : List FeedMessage → List ℕ → Option Stored
entity_at ms id = kept_of (last_said id (changes_of ms))

-- the last change of each id, by rising bytes of the ids
unfoldable pub changes_by_id : List Change → List Change
changes_by_id [] = []
changes_by_id (change ∷ earlier) = put (slice_cmp nat_cmp) change.0 change.1 (changes_by_id earlier)

-- What a feed holds, by rising bytes of the ids: under each id just what `entity_at` says.
unfoldable pub entities_of : List FeedMessage → List Change
entities_of ms = filter is_kept (changes_by_id (reverse (changes_of ms)))

-- what is held under other ids
abbrev pub changes_without : List ℕ → List Change → List Change
changes_without id entities = filter (λ change. not (bytes_eq id change.0)) entities

-- what is held under the ids, changed by one entity: it takes the place of what its id had, or
-- takes that away
abbrev pub changes_with : List Change → Change → List Change
changes_with entities change =
    if is_kept change then put (slice_cmp nat_cmp) change.0 change.1 entities
    else changes_without change.0 entities

-- What is held, changed by a message: a whole data set starts from nothing, and then its entities
-- count in their order.
unfoldable pub entities_after : FeedMessage → List Change → List Change
entities_after m entities = fold changes_with (if is_full m then [] else entities) (changes_in m)
