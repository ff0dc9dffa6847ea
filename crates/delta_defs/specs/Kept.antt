-- What a reader keeps of its last looks: what all feeds said, by how many messages there were.
use Rattle.std.specs.Prelude.{ℕ, ◌-◌, ◌==◌, Bool, false, List, [], ◌∷◌, ◌++◌, length, drop, slice_get, Option, if◌then◌else◌}
use Rattle.std.specs.List.{find}
use Rattle.std.specs.Option.{option_map, option_map_or}
use Rattle.board_defs.specs.Fold.{FeedFold}
use Rattle.board_defs.specs.Views.{HubKept, folds_of}

-- how many messages of all feeds there were at a look, and what each feed said
pub record KeptView : Type 0 where
  pub number : ℕ
  pub folds : List FeedFold

-- the same of a view of a hub
abbrev pub view_of : HubKept → KeptView
view_of hub = record { number = hub.entries; folds = folds_of hub }

-- the most views that are kept
abbrev pub most_kept : ℕ
most_kept = 64

-- whether a view has that number
abbrev pub is_numbered : ℕ → KeptView → Bool
is_numbered number view = view.number == number

-- whether the newest view has it
abbrev pub is_newest : ℕ → List KeptView → Bool
is_newest number views =
    option_map_or (is_numbered number) (slice_get views (length views - 1)) false

-- the newest views, as many as are kept
abbrev pub newest_views : List KeptView → List KeptView
newest_views views = drop (length views - most_kept) views

-- One view more stands at the end, unless the newest has its number, and the oldest beyond the most
-- are dropped.
abbrev pub views_with : KeptView → List KeptView → List KeptView
views_with view views = if is_newest view.number views then views
    else newest_views (views ++ view ∷ [])

-- what all feeds said at that number, if it is kept
abbrev pub folds_at : ℕ → List KeptView → Option (List FeedFold)
folds_at number views = option_map (λ view. view.folds) (find (is_numbered number) views)
