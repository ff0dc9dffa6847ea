-- Views that are kept, and a later one, of one history.
use Rattle.std.specs.Prelude.{◌≡◌, ◌⊎◌, ℕ, ◌≤◌, true, List, [], length, slice_index_or, take, Some}
use Rattle.std.specs.List.{AllByRecursion}
use Rattle.feed_defs.specs.declared.history.Entry.{Entry}
use Rattle.feed_defs.specs.declared.history.Stored.{Stored}
use Rattle.feed_defs.specs.History.{Change, is_rising, stamps_of}
use Rattle.sched_types.specs.Schedules.{Schedules}
use Rattle.board_defs.specs.Feeds.{HubFeed}
use Rattle.board_defs.specs.Fold.{FeedFold, fold_of}
use Rattle.board_defs.specs.Views.{HubKept, StandsFor, no_fold}
use Rattle.delta_defs.specs.Changes.{held_under, held_before}
use Rattle.delta_defs.specs.Kept.{KeptView}

-- a view stands for the first messages of a history, as many as its number says
pub record IsOfHistory (plans : Schedules) (history : List Entry) (view : KeptView) : Type 0 where
  pub within : view.number ≤ length history
  pub folds : view.folds ≡ fold_of (length plans.feeds) (take view.number history)

abbrev pub AreOfHistory : Schedules → List Entry → List KeptView → Type 0
AreOfHistory plans history kept = AllByRecursion (IsOfHistory plans history) kept

-- There is a history, in which the stamps of each feed strictly rise, that the view stands for and
-- that those which are kept are of.
pub record AreOfOneHistory (kept : List KeptView) (view : HubKept) : Type 0 where
  pub history : List Entry
  pub rising : (feed : ℕ) → is_rising (stamps_of feed history) ≡ true
  pub stands : StandsFor history view
  pub are : AreOfHistory view.plans history kept

-- the stamp of a feed's last message, of what all feeds said once
abbrev pub stamp_before : List FeedFold → HubFeed → ℕ
stamp_before old one = (slice_index_or old one.number no_fold).stamp

-- A feed held that and holds this, and what it holds under an id with a stamp that is no newer than
-- that of its last message then, it held then, unless it held nothing at all.
pub record HoldsSince (stamp : ℕ) (old new : List Change) : Type 0 where
  pub was_held : (id : List ℕ) (s : Stored) → held_under id new ≡ Some s → s.stamp ≤ stamp
      → (held_under id old ≡ Some s) ⊎ (old ≡ [])

-- the same of a feed, of what all feeds said once
abbrev pub FeedHoldsSince : List FeedFold → HubFeed → Type 0
FeedHoldsSince old one = HoldsSince (stamp_before old one) (held_before old one) one.fold.entities
