-- What is sent of each feed of a schedule.
use Rattle.std.specs.Prelude.{ℕ, List}
use Rattle.std.specs.List.{flat_map, AllByRecursion}
use Rattle.board_defs.specs.Feeds.{HubFeed}
use Rattle.board_defs.specs.Fold.{FeedFold}
use Rattle.delta_defs.specs.Changes.{held_before}
use Rattle.delta_feed.specs.Pairs.{pairs_of}
use Rattle.delta_feed.specs.Sent.{pair_field, IsShortPair}

-- the bytes that are sent of a feed, of what all feeds held
abbrev pub feed_field : List ℕ → List FeedFold → HubFeed → List ℕ
feed_field prefix old one = flat_map (pair_field prefix one.feed.name)
    (pairs_of (held_before old one) one.fold.entities)

-- all that was compared of it was short
abbrev pub IsShortFeed : List ℕ → List FeedFold → HubFeed → Type 0
IsShortFeed prefix old one = AllByRecursion (IsShortPair prefix one.feed.name)
    (pairs_of (held_before old one) one.fold.entities)
