-- The combined feed of a schedule: what its feeds hold, in one message.
use Rattle.std.specs.Prelude.{ℕ, List, [], map, max, fold, slice_get, Some, unwrap_or, codes}
use Rattle.std.specs.Option.{option_map}
use Rattle.rt_types.specs.declared.enums.Incrementality.TheVariants.{FullDataset}
use Rattle.rt_types.specs.declared.message.Entity.{Entity}
use Rattle.rt_types.specs.declared.message.FeedMessage.{FeedMessage}
use Rattle.feed_defs.specs.Combined.{entity_under_feed}
use Rattle.feed_defs.specs.Renamed.{renamed_entity}
use Rattle.feed_defs.specs.Table.{write}
use Rattle.sched_types.specs.declared.plans.NamedFeed.{NamedFeed}
use Rattle.sched_types.specs.Schedules.{Schedules}
use Rattle.board_defs.specs.Feeds.{HubFeed, HeldEntity, held_in, schedule_feeds}
use Rattle.board_defs.specs.Fold.{FeedFold}

-- the greatest of the feeds' last stamps
abbrev pub newest_of : List HubFeed → ℕ
newest_of feeds = fold (λ newest one. max newest one.fold.stamp) 0 feeds

-- an entity of a feed as the combined feed has it: its ids of the timetable under the schedule's
-- prefix, and its own id under the feed's name, as `<feed>:<id>`
abbrev pub combined_entity : List ℕ → HeldEntity → Entity
combined_entity prefix held =
    entity_under_feed held.feed.name (renamed_entity prefix held.stored.entity)

-- the whole data set of a schedule's feeds, by feed and then by id
abbrev pub feed_message : List ℕ → List HubFeed → FeedMessage
feed_message prefix feeds = record {
  header = record {
    version = codes "2.0";
    incrementality = Some FullDataset;
    timestamp = Some (newest_of feeds);
    unknown = [];
  };
  entity = map (combined_entity prefix) (held_in feeds);
  unknown = [];
}

-- the prefix of a schedule; none past the last
abbrev pub prefix_of : Schedules → ℕ → List ℕ
prefix_of schedules plan =
    unwrap_or (option_map (λ named. named.prefix) (slice_get schedules.plans plan)) []

-- the bytes of the message
unfoldable pub feed_bytes : List ℕ → ℕ → List NamedFeed → List FeedFold → List ℕ
feed_bytes prefix plan feeds folds =
    write (feed_message prefix (schedule_feeds plan feeds folds))

-- the combined feed of a schedule, of what all feeds say
abbrev pub combined_feed : Schedules → ℕ → List FeedFold → List ℕ
combined_feed schedules plan folds =
    feed_bytes (prefix_of schedules plan) plan schedules.feeds folds
