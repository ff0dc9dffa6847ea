-- The combined feed as it is written: a message of no entities, and the entities behind it as
-- further fields.
use Rattle.std.specs.Prelude.{ℕ, List, [], Some, codes}
use Rattle.rt_types.specs.declared.enums.Incrementality.{Incrementality}
use Rattle.rt_types.specs.declared.message.FeedMessage.{FeedMessage}
use Rattle.sched_types.specs.Schedules.{Schedules}
use Rattle.board_defs.specs.Feed.{prefix_of, feed_message, combined_entity}
use Rattle.board_defs.specs.Feeds.{HeldEntity, schedule_feeds}
use Rattle.board_defs.specs.Fold.{FeedFold}
use Rattle.feed_write.specs.Entities.{entity_field}

-- the bytes of an entity, as a field of the combined feed
abbrev pub combined_field : List ℕ → HeldEntity → List ℕ
combined_field prefix held = entity_field (combined_entity prefix held)

-- the message of which the combined feed of a schedule is written
abbrev pub schedule_message : Schedules → ℕ → List FeedFold → FeedMessage
schedule_message schedules plan folds =
    feed_message (prefix_of schedules plan) (schedule_feeds plan schedules.feeds folds)

-- a message of no entities, of that kind and with that stamp
abbrev pub header_of : Incrementality → ℕ → FeedMessage
header_of incrementality stamp = record {
  header = record {
    version = codes "2.0";
    incrementality = Some incrementality;
    timestamp = Some stamp;
    unknown = [];
  };
  entity = [];
  unknown = [];
}
