-- What a reader who applies a difference has then.
use Rattle.std.specs.Prelude.{◌≡◌, ℕ, List, [], ◌∷◌, map}
use Rattle.rt_types.specs.declared.message.Entity.{Entity}
use Rattle.rt_types.specs.declared.message.FeedMessage.{FeedMessage}
use Rattle.feed_defs.specs.History.{entities_of, stamp_of}
use Rattle.sched_types.specs.Schedules.{Schedules}
use Rattle.board_defs.specs.Feed.{prefix_of, feed_message}
use Rattle.board_defs.specs.Feeds.{schedule_feeds}
use Rattle.board_defs.specs.Fold.{FeedFold}

-- What a reader has under each id, of messages that it got one after another: as FeedHeader,
-- `incrementality` says, and without the times of the messages.
abbrev pub entities_got : List FeedMessage → List (List ℕ × Entity)
entities_got messages =
    map (λ change. (change.0, change.1.entity)) (entities_of messages)

-- the combined feed of a schedule, of what all feeds say
abbrev pub combined_message : Schedules → ℕ → List FeedFold → FeedMessage
combined_message schedules plan folds = feed_message (prefix_of schedules plan)
    (schedule_feeds plan schedules.feeds folds)

-- A message brings the combined feed of a schedule from what all feeds said once to what they say:
-- who has the entities of the one and applies the message has those of the other, and the stamp is
-- that of the other.
pub record BringsTo (schedules : Schedules) (plan : ℕ) (old new : List FeedFold) (m : FeedMessage)
    : Type 0 where
  pub entities : entities_got (combined_message schedules plan old ∷ m ∷ [])
      ≡ entities_got (combined_message schedules plan new ∷ [])
  pub stamp : stamp_of m ≡ stamp_of (combined_message schedules plan new)
