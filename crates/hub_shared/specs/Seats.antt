-- A hub and its seats as their callers see them.
use Rattle.std.specs.Prelude.{◌≡◌, ℕ, ◌-◌, List, [], length, slice_get, take, map, Option, Some, None}
use Rattle.std.specs.List.{range_with_len}
use Rattle.std.specs.Option.{option_map}
use Rattle.logbook.specs.Pages.{Book}
use Rattle.atomic_table.specs.Seated.{TableId}
use Rattle.feed_defs.specs.declared.history.Entry.{Entry}
use Rattle.feed_defs.specs.History.{messages_of}
use Rattle.sched_types.specs.Schedules.{Schedules}
use Rattle.hub_history.specs.Told.{Told, history_of}

-- which hub: the book of its history, the table of its permits, and its timetables and feeds
pub record Ties : Type 0 where
  pub book : Book
  pub table : TableId
  pub plans : Schedules

-- what knows a history of the hub
pub record IsOf (told : Told) (hub : Ties) : Type 0 where
  pub book : told.book ≡ hub.book
  pub feeds : told.feeds ≡ length hub.plans.feeds

-- a feed's seat: which hub's it is, the feed's number, how many of its messages were accepted, the
-- stamp of the last one, and what the receipt of that one knows
pub record SeatSeen : Type 0 where
  pub ties : Ties
  pub feed : ℕ
  pub accepted : ℕ
  pub last : ℕ
  pub receipt : Option Told

-- the history of the newest receipt; nothing where there is none
abbrev pub history_at : Option Told → List Entry
history_at None = []
history_at (Some told) = history_of told

-- the feed of a history's last message
abbrev pub last_feed : List Entry → Option ℕ
last_feed history = option_map (λ entry. entry.feed) (slice_get history (length history - 1))

-- how many messages of a feed there are
abbrev pub count_of : ℕ → List Entry → ℕ
count_of feed history = length (messages_of feed history)

-- the second history begins with the first
abbrev pub Begins : List Entry → List Entry → Type 0
Begins old new = take (length old) new ≡ old

-- the seat of a feed that sent nothing
abbrev pub fresh_seat : Ties → ℕ → SeatSeen
fresh_seat hub feed = record { ties = hub; feed = feed; accepted = 0; last = 0; receipt = None }

-- the seats of all feeds of a hub that accepted nothing, in their order
abbrev pub fresh_seats : Ties → List SeatSeen
fresh_seats hub = map (fresh_seat hub) (range_with_len 0 (length hub.plans.feeds))
