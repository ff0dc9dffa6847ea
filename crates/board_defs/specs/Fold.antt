-- What each feed of a hub says, of the history of all that was accepted.
use Rattle.std.specs.Prelude.{ℕ, List, length, map}
use Rattle.std.specs.List.{range_with_len}
use Rattle.feed_defs.specs.declared.history.Entry.{Entry}
use Rattle.feed_defs.specs.History.{Change, messages_of, last_stamp, entities_of}

-- how many messages of a feed were accepted, the stamp of the last one, and what the feed holds
pub record FeedFold : Type 0 where
  pub count : ℕ
  pub stamp : ℕ
  pub entities : List Change

abbrev pub feed_fold : List Entry → ℕ → FeedFold
feed_fold history feed = record {
  count = length (messages_of feed history);
  stamp = last_stamp feed history;
  entities = entities_of (messages_of feed history);
}

-- the same of each of so many feeds
unfoldable pub fold_of : ℕ → List Entry → List FeedFold
fold_of feeds history = map (feed_fold history) (range_with_len 0 feeds)
