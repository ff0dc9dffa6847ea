-- Views that are kept of looks.
use Rattle.std.specs.Prelude.{◌≡◌, ℕ, List, Option, Some, Result, Ok, Err, ◌⊎◌}
use Rattle.board_defs.specs.Fold.{FeedFold}
use Rattle.delta_defs.specs.Kept.{KeptView, folds_at, views_with}
use Rattle.http_defs.specs.declared.asked.Query.{Query}
use Rattle.http_serve_defs.specs.Answers.{feed_since, since_view}
pub use Rattle.delta_defs.specs.OneHistory.{IsOfHistory, AreOfHistory}

-- a look's view is kept; where memory ran out it is or it isn't
abbrev pub KeepsLook : {A E : Type 0} → Result A E → KeptView → List KeptView → List KeptView
    → Type 0
KeepsLook (Ok x) view old new = new ≡ views_with view old
KeepsLook (Err e) view old new = (new ≡ old) ⊎ (new ≡ views_with view old)

-- a feed is asked for since the view of that number, which is kept
abbrev pub IsSince : Option ℕ → List KeptView → ℕ → Type 0
IsSince since kept number =
    (old : List FeedFold) × (folds_at number kept ≡ Some old)
    × ((schedule : List ℕ)
    → since_view schedule since kept ≡ Some (record { schedule = schedule; old = old }))

-- the same of a query and the schedule that it names
abbrev pub IsFeedSince : Query → List KeptView → List ℕ → ℕ → Type 0
IsFeedSince query kept schedule number =
    (old : List FeedFold) × (folds_at number kept ≡ Some old)
    × (feed_since query kept ≡ Some (record { schedule = schedule; old = old }))
