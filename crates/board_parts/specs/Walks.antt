-- What a walk over feeds goes over.
use Rattle.std.specs.Prelude.{ℕ, Bool, if◌then◌else◌, List, map}
use Rattle.std.specs.List.{flat_map}
use Rattle.alert_select.specs.FeedAlerts.{alerts_of}
use Rattle.feed_defs.specs.declared.history.Stored.{Stored}
use Rattle.feed_defs.specs.History.{Change}
use Rattle.sched_types.specs.declared.plans.NamedFeed.{NamedFeed}
use Rattle.board_defs.specs.Feeds.{HubFeed, HeldEntity, held_as}

-- an entity of the feed of that number
abbrev pub held_of : ℕ → NamedFeed → Stored → HeldEntity
held_of number feed stored = record { number = number; feed = feed; stored = stored }

-- all that a feed holds, or what of it has an alert
abbrev pub walked : Bool → List Change → List Change
walked alerts entities = if alerts then alerts_of entities else entities

abbrev pub walked_by : Bool → HubFeed → List HeldEntity
walked_by alerts one = map (held_as one) (walked alerts one.fold.entities)

-- the same of some feeds
abbrev pub walked_in : Bool → List HubFeed → List HeldEntity
walked_in alerts feeds = flat_map (walked_by alerts) feeds
