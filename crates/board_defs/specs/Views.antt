-- What views of feeds and of a hub show, and what they stand for.
use Rattle.std.specs.Prelude.{◌≡◌, ℕ, ◌+◌, ◌≤◌, List, [], length, map, replicate, slice_index_or, slice_set}
use Rattle.std.specs.List.{All, sum_by}
use Rattle.rt_types.specs.declared.message.FeedMessage.{FeedMessage}
use Rattle.feed_defs.specs.declared.history.Entry.{Entry}
use Rattle.feed_defs.specs.History.{stamp_of, entities_after}
use Rattle.sched_types.specs.Schedules.{Schedules}
use Rattle.text_defs.specs.Moments.{last_moment}
use Rattle.board_defs.specs.Fold.{FeedFold, fold_of}

-- what is kept of a feed
pub record FeedKept : Type 0 where
  pub fold : FeedFold

-- what is kept of a hub: its timetables, what each of its feeds says, and how many messages were
-- accepted
pub record HubKept : Type 0 where
  pub plans : Schedules
  pub feeds : List FeedKept
  pub entries : ℕ

-- ---- one feed

-- a feed that sent nothing
abbrev pub no_fold : FeedFold
no_fold = record { count = 0; stamp = 0; entities = [] }

-- what a feed says with one message more
abbrev pub fold_after : FeedMessage → FeedFold → FeedFold
fold_after m fold = record {
  count = fold.count + 1;
  stamp = stamp_of m;
  entities = entities_after m fold.entities;
}

-- what is kept of it, of either
abbrev pub nothing_kept : FeedKept
nothing_kept = record { fold = no_fold }

abbrev pub feed_after : FeedMessage → FeedKept → FeedKept
feed_after m kept = record { fold = fold_after m kept.fold }

-- ---- a hub

-- what is kept of the feed of a number; nothing past the last feed
abbrev pub feed_at : HubKept → ℕ → FeedKept
feed_at kept feed = slice_index_or kept.feeds feed nothing_kept

-- what each feed says
abbrev pub folds_of : HubKept → List FeedFold
folds_of kept = map (λ feed. feed.fold) kept.feeds

-- a hub that accepted nothing
abbrev pub hub_first : Schedules → HubKept
hub_first plans = record {
  plans = plans;
  feeds = replicate (length plans.feeds) nothing_kept;
  entries = 0;
}

-- a hub whose feed of that number sent one message more, and is now so
abbrev pub hub_with : ℕ → FeedKept → HubKept → HubKept
hub_with feed view kept = record {
  plans = kept.plans;
  feeds = slice_set kept.feeds feed view;
  entries = kept.entries + 1;
}

-- a hub with one message of a feed more
abbrev pub hub_after : ℕ → FeedMessage → HubKept → HubKept
hub_after feed m kept = hub_with feed (feed_after m (feed_at kept feed)) kept

-- What is true of all that is kept of a hub: each feed has its part, the messages are those of all
-- feeds, and of each feed there are no more than there are moments, since their stamps rise.
pub record IsHub (kept : HubKept) : Type 0 where
  pub all : length kept.feeds ≡ length kept.plans.feeds
  pub counted : sum_by (λ feed. feed.fold.count) kept.feeds ≡ kept.entries
  pub few : All (λ feed. feed.fold.count ≤ last_moment) kept.feeds

-- a view of a hub stands for what a history of accepted messages adds up to
pub record StandsFor (history : List Entry) (kept : HubKept) : Type 0 where
  pub feeds : folds_of kept ≡ fold_of (length kept.plans.feeds) history
  pub entries : kept.entries ≡ length history
