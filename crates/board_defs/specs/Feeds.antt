-- The feeds of a hub, numbered, and what those of a schedule hold.
use Rattle.std.specs.Prelude.{ℕ, ◌+◌, Bool, ◌||◌, ◌==◌, nat_le, List, [], ◌∷◌, map, filter}
use Rattle.std.specs.List.{flat_map}
use Rattle.feed_defs.specs.declared.history.Stored.{Stored}
use Rattle.feed_defs.specs.History.{Change}
use Rattle.sched_types.specs.declared.plans.NamedFeed.{NamedFeed}
use Rattle.board_defs.specs.Fold.{FeedFold}

-- a feed of a hub: its number among all feeds, what the configuration says of it, and what it says
pub record HubFeed : Type 0 where
  pub number : ℕ
  pub feed : NamedFeed
  pub fold : FeedFold

-- An entity that a feed holds: the number of the feed, what the configuration says of it, and the
-- entity with the stamp of its message. It is held under its own id.
pub record HeldEntity : Type 0 where
  pub number : ℕ
  pub feed : NamedFeed
  pub stored : Stored

-- What has that stamp counts at a moment, in a feed of that max_age, in seconds: as long as it is
-- no older. 0 is no end.
abbrev pub counts_at : ℕ → ℕ → ℕ → Bool
counts_at max_age stamp at = (max_age == 0) || nat_le at (stamp + max_age)

-- feeds with what each says, numbered from `first` on
abbrev pub feeds_from : ℕ → List NamedFeed → List FeedFold → List HubFeed
feeds_from first [] folds = []
feeds_from first (feed ∷ feeds) [] = []
feeds_from first (feed ∷ feeds) (fold ∷ folds) =
    record { number = first; feed = feed; fold = fold } ∷ feeds_from (first + 1) feeds folds

-- all feeds of a hub
abbrev pub hub_feeds : List NamedFeed → List FeedFold → List HubFeed
hub_feeds feeds folds = feeds_from 0 feeds folds

-- whether a feed is one of the schedule of that number
abbrev pub is_of_schedule : ℕ → HubFeed → Bool
is_of_schedule plan one = one.feed.plan == plan

-- the feeds of a schedule
abbrev pub schedule_feeds : ℕ → List NamedFeed → List FeedFold → List HubFeed
schedule_feeds plan feeds folds = filter (is_of_schedule plan) (hub_feeds feeds folds)

-- what a feed holds, by id
abbrev pub held_as : HubFeed → Change → HeldEntity
held_as one change = record { number = one.number; feed = one.feed; stored = change.1 }

abbrev pub held_by : HubFeed → List HeldEntity
held_by one = map (held_as one) one.fold.entities

-- what some feeds hold, by feed and then by id
abbrev pub held_in : List HubFeed → List HeldEntity
held_in feeds = flat_map held_by feeds

-- what the feeds of a schedule hold
abbrev pub schedule_entities : ℕ → List NamedFeed → List FeedFold → List HeldEntity
schedule_entities plan feeds folds = held_in (schedule_feeds plan feeds folds)
