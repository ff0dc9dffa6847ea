-- Connections that are served at one moment, while no message comes.
use Rattle.std.specs.Prelude.{ℕ, ◌+◌, ◌==◌, List, [], ◌∷◌, ◌++◌}
use Rattle.sched_types.specs.Schedules.{Schedules}
use Rattle.board_defs.specs.Fold.{FeedFold}
use Rattle.delta_defs.specs.Kept.{KeptView, views_with}
use Rattle.http_defs.specs.declared.request.Item.{Item}
use Rattle.http_defs.specs.Requests.{AreRequests, Finish, last_place}
use Rattle.http_serve_defs.specs.Answers.{answer}

-- a connection: all that its input had, the items in it, and why no further one came
pub record Served : Type 0 where
  pub input : List ℕ
  pub items : List Item
  pub finish : Finish

-- these are the items of its input, from the first one on, up to this finish
abbrev pub IsServed : Served → Type 0
IsServed s = AreRequests 1 s.input s.items s.finish

-- what a look sees then, and the views that are kept with it
abbrev pub view_seen : ℕ → List FeedFold → KeptView
view_seen number folds = record { number = number; folds = folds }

abbrev pub kept_with : ℕ → List FeedFold → List KeptView → List KeptView
kept_with number folds kept = views_with (view_seen number folds) kept

-- the responses to items at a moment, of what all feeds say after so many messages and of the views
-- that were kept before; the first item has this place in its connection
unfoldable pub responses : Schedules → ℕ → ℕ → List FeedFold → List KeptView → ℕ → List Item
    → List ℕ
responses schedules moment number folds kept place [] = []
responses schedules moment number folds kept place (item ∷ items) =
    answer schedules item (place == last_place) moment number folds (kept_with number folds kept)
    ++ responses schedules moment number folds (kept_with number folds kept) (place + 1) items

-- all that is written on a connection that is served at a moment, of what all feeds say after so
-- many messages; no view is kept before its first look
abbrev pub connection_bytes : Schedules → ℕ → ℕ → List FeedFold → Served → List ℕ
connection_bytes schedules moment number folds s =
    responses schedules moment number folds [] 1 s.items
