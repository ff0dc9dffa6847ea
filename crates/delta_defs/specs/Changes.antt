-- What changed between two combined feeds of a schedule, as a differential message (GTFS Realtime
-- 2.0, FeedHeader, `incrementality`; FeedEntity, `is_deleted`).
use Rattle.std.specs.Prelude.{ℕ, Bool, List, [], ◌++◌, map, Option, Some, None, slice_index_or, if◌then◌else◌, codes}
use Rattle.std.specs.List.{flat_map, filter_map}
use Rattle.std.specs.Str.{bytes_eq}
use Rattle.std.specs.Ordering.{nat_cmp}
use Rattle.std.specs.Cmp.Lexicographic.{slice_cmp}
use Rattle.std.specs.FinMap.{find}
use Rattle.rt_types.specs.declared.enums.Incrementality.TheVariants.{Differential}
use Rattle.rt_types.specs.declared.message.Entity.{Entity}
use Rattle.rt_types.specs.declared.message.FeedMessage.{FeedMessage}
use Rattle.feed_defs.specs.declared.history.Stored.{Stored}
use Rattle.feed_defs.specs.Combined.{entity_under_feed, gone}
use Rattle.feed_defs.specs.History.{Change, changes_by_id}
use Rattle.feed_defs.specs.Rows.{message_bytes}
use Rattle.feed_defs.specs.Table.{entity, write}
use Rattle.sched_types.specs.Schedules.{Schedules}
use Rattle.board_defs.specs.Feed.{newest_of, combined_entity, prefix_of}
use Rattle.board_defs.specs.Feeds.{HubFeed, held_as, schedule_feeds}
use Rattle.board_defs.specs.Fold.{FeedFold}
use Rattle.board_defs.specs.Views.{no_fold}

-- the ids of what a feed held and holds, by their bytes
abbrev pub ids_of_both : List Change → List Change → List (List ℕ)
ids_of_both old new = map (λ change. change.0) (changes_by_id (old ++ new))

-- whether two entities are one in a feed: they are written as the same bytes
abbrev pub is_same : Entity → Entity → Bool
is_same a b = bytes_eq (message_bytes entity a) (message_bytes entity b)

-- an entity that a feed holds under an id, as the combined feed has it
abbrev pub combined_of : List ℕ → HubFeed → List ℕ → Stored → Entity
combined_of prefix one id stored = combined_entity prefix (held_as one (id, stored))

-- What is sent of an id of a feed, by what the feed held under it and what it holds: what is no
-- longer there is gone, what is new or another than before is sent as the combined feed has it, and
-- what stays is not sent.
abbrev pub change_sent : List ℕ → HubFeed → List ℕ → Option Stored → Option Stored → Option Entity
change_sent prefix one id None None = None
change_sent prefix one id (Some was) None = Some (entity_under_feed one.feed.name (gone id))
change_sent prefix one id None (Some is) = Some (combined_of prefix one id is)
change_sent prefix one id (Some was) (Some is) =
    if is_same (combined_of prefix one id was) (combined_of prefix one id is) then None
    else Some (combined_of prefix one id is)

-- what is held under an id
abbrev pub held_under : List ℕ → List Change → Option Stored
held_under id entities = find (slice_cmp nat_cmp) id entities

-- what is sent of a feed, by id
abbrev pub feed_changes : List ℕ → List Change → HubFeed → List Entity
feed_changes prefix old one = filter_map
    (λ id. change_sent prefix one id (held_under id old) (held_under id one.fold.entities))
    (ids_of_both old one.fold.entities)

-- what the feed held, of what all feeds held
abbrev pub held_before : List FeedFold → HubFeed → List Change
held_before old one = (slice_index_or old one.number no_fold).entities

-- the differential message of some feeds, by feed and then by id
abbrev pub changes_message : List ℕ → List FeedFold → List HubFeed → FeedMessage
changes_message prefix old feeds = record {
  header = record {
    version = codes "2.0";
    incrementality = Some Differential;
    timestamp = Some (newest_of feeds);
    unknown = [];
  };
  entity = flat_map (λ one. feed_changes prefix (held_before old one) one) feeds;
  unknown = [];
}

-- What changed in the combined feed of a schedule, between what all feeds said once and what they
-- say. Its stamp is that of the combined feed now.
abbrev pub changes : Schedules → ℕ → List FeedFold → List FeedFold → FeedMessage
changes schedules plan old new = changes_message (prefix_of schedules plan) old
    (schedule_feeds plan schedules.feeds new)

-- its bytes
unfoldable pub changes_bytes : Schedules → ℕ → List FeedFold → List FeedFold → List ℕ
changes_bytes schedules plan old new = write (changes schedules plan old new)
