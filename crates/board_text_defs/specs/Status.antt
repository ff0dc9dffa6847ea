-- The status of a hub as text: a line with the number of messages that it accepted, a line with the
-- names of the columns, and a line for each feed.
use Rattle.std.specs.Prelude.{ℕ, List, [], ◌∷◌, ◌++◌, length, codes}
use Rattle.std.specs.Fmt.{decimal}
use Rattle.std.specs.List.{flat_map, sum_by}
use Rattle.sched_types.specs.declared.plans.NamedFeed.{NamedFeed}
use Rattle.board_defs.specs.Feeds.{HubFeed, hub_feeds}
use Rattle.board_defs.specs.Fold.{FeedFold}
use Rattle.board_text_defs.specs.Lines.{line_of_fields}

abbrev pub status_columns : List (List ℕ)
status_columns = codes "feed" ∷ codes "accepted" ∷ codes "last" ∷ codes "entities" ∷ []

-- a feed: its name, how many of its messages were accepted, the stamp of the last of them, and how
-- many entities it holds
abbrev pub status_line : HubFeed → List ℕ
status_line one =
    line_of_fields (one.feed.name ∷ decimal one.fold.count ∷ decimal one.fold.stamp
    ∷ decimal (length one.fold.entities) ∷ [])

-- how many messages of all feeds were accepted
abbrev pub accepted_by : List FeedFold → ℕ
accepted_by folds = sum_by (λ fold. fold.count) folds

unfoldable pub status_text : List NamedFeed → List FeedFold → List ℕ
status_text feeds folds =
    line_of_fields (codes "entries" ∷ decimal (accepted_by folds) ∷ [])
    ++ (line_of_fields status_columns ++ flat_map status_line (hub_feeds feeds folds))
