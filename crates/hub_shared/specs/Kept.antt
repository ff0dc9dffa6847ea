-- What is kept under the hub's lock, and in a seat.
use Rattle.std.specs.Prelude.{◌≡◌, ℕ, ◌<◌, ◌≤◌, length, slice_index, Option, Some, None}
use Rattle.feed_defs.specs.History.{IsLegal, last_stamp}
use Rattle.board_defs.specs.Views.{HubKept, StandsFor}
use Rattle.feed_permits.specs.Seen.{DeskSeen, KeySeen}
use Rattle.hub_history.specs.Told.{Told, history_of, AreOne}
use Rattle.snapshot_cell.specs.Seen.{PassSeen, Publishing}
use Rattle.hub_shared.specs.Seats.{history_at, count_of, last_feed, Begins}

-- Under the lock: the core's view stands for the history that was published, which is legal, and
-- has the timetables of the first view; and the desk's count of each feed is how many messages of
-- it stand in that history.
pub record IsLocked (core : HubKept) (publisher : Publishing) (desk : DeskSeen) : Type 0 where
  pub stands : StandsFor (history_of publisher.line) core
  pub plans : publisher.plans ≡ core.plans
  pub feeds : publisher.line.feeds ≡ length core.plans.feeds
  pub legal : IsLegal publisher.line.feeds (history_of publisher.line)
  pub wide : length desk.counts ≡ 64
  pub counts : (feed : ℕ) → feed < 64
      → slice_index desk.counts feed ≡ count_of feed (history_of publisher.line)

-- what a receipt of a feed knows begins what is known of the same hub, ends with a message of the
-- feed, and has all of the feed's accepted messages
pub record IsNewest (line : Told) (feed accepted : ℕ) (told : Told) : Type 0 where
  pub hub : AreOne told line
  pub some : 0 < accepted
  pub begins : Begins (history_of told) (history_of line)
  pub counted : count_of feed (history_of told) ≡ accepted
  pub ends : last_feed (history_of told) ≡ Some feed
  pub legal : IsLegal told.feeds (history_of told)

-- the newest receipt is such a one, or nothing was accepted
abbrev pub Newest : Told → ℕ → ℕ → Option Told → Type 0
Newest line feed accepted None = accepted ≡ 0
Newest line feed accepted (Some told) = IsNewest line feed accepted told

-- In a seat: the key is that of the feed, and was granted once for each accepted message; and what
-- the seat's pass knows has just these messages of the feed, the last of them with the seat's
-- stamp.
pub record IsSeat (key : KeySeen) (pass : PassSeen) (feed accepted last : ℕ)
    (receipt : Option Told) : Type 0 where
  pub number : key.number ≡ feed
  pub granted : key.granted ≡ accepted
  pub feeds : pass.line.feeds ≡ length pass.shown.plans.feeds
  pub one : feed < pass.line.feeds
  pub few : pass.line.feeds ≤ 64
  pub counted : count_of feed (history_of pass.line) ≡ accepted
  pub last_is : last_stamp feed (history_of pass.line) ≡ last
  pub newest : Newest pass.line feed accepted receipt
