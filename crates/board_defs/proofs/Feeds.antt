-- The feeds of a schedule and its combined feed, where another schedule has feeds too: each line computes.
use Rattle.std.specs.Prelude.{◌≡◌, ℕ, None, List, [], ◌∷◌, map, refl, codes}
use Rattle.rt_types.specs.declared.message.FeedMessage.{FeedMessage}
use Rattle.feed_defs.specs.declared.history.Entry.{Entry}
use Rattle.feed_defs.specs.History.{messages_of, since_full, changes_by_id, entities_of}
use Rattle.sched_types.specs.declared.plans.NamedFeed.{NamedFeed}
use Rattle.board_defs.specs.Fold.{fold_of}
use Rattle.board_defs.specs.Feed.{feed_message}
use Rattle.board_defs.specs.Feeds.{schedule_feeds, schedule_entities}
use Rattle.board_defs.proofs.Parts.{first_trip, trip_on, trip_update, entity_of, message_at, entry_of}

-- the feed a of the schedule 0, and the feed b of the schedule 1
abbrev feeds : List NamedFeed
feeds = record { name = codes "a"; plan = 0; max_age = 0 } ∷ record { name = codes "b"; plan = 1; max_age = 0 } ∷ []

-- both speak of trip T1, b later
abbrev history : List Entry
history =
    entry_of 0 (message_at 5 (entity_of (codes "u") (trip_update (first_trip None) []) ∷ []))
    ∷ entry_of 1 (message_at 7 (entity_of (codes "u") (trip_update (first_trip None) []) ∷ [])) ∷ []

abbrev feed_under : List ℕ → ℕ → FeedMessage
feed_under prefix plan = feed_message prefix (schedule_feeds plan feeds (fold_of 2 history))

-- feeds are numbered among those of all schedules, and an entity is that of its feed
numbered : map {B = ℕ × List ℕ × ℕ} (λ held. (held.number, held.stored.entity.id, held.stored.stamp)) (schedule_entities 1 feeds (fold_of 2 history))
    ≡ (1, codes "u", 7) ∷ []
unfolding fold_of messages_of since_full changes_by_id entities_of
numbered = refl

-- the schedule 0 has what a says, with its stamp, under its prefix
first_schedule : feed_under (codes "x-") 0
    ≡ message_at 5 (entity_of (codes "a:u") (trip_update (trip_on (codes "x-T1") (codes "20250330") None) []) ∷ [])
unfolding fold_of messages_of since_full changes_by_id entities_of
first_schedule = refl

-- the schedule 1 has what b says
second_schedule : feed_under [] 1 ≡ message_at 7 (entity_of (codes "b:u") (trip_update (first_trip None) []) ∷ [])
unfolding fold_of messages_of since_full changes_by_id entities_of
second_schedule = refl

-- a schedule without feeds has the stamp 0
no_feeds : feed_under [] 2 ≡ message_at 0 []
unfolding fold_of
no_feeds = refl
