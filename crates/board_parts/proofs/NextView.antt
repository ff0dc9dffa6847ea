-- The parts of the next view are those of a hub with one message more.
use Rattle.std.proofs.Common.{◌≡◌, ℕ, ◌+◌, ◌<◌, ◌≤◌, List, length, map, set, refl, sym, subst}
use Rattle.std.proofs.lemmas.List.{map-set}
use Rattle.sched_types.specs.Schedules.{Schedules}
use Rattle.text_defs.specs.Moments.{last_moment}
use Rattle.board_defs.specs.Views.{FeedKept, HubKept, feed_at, hub_with, IsHub}
use Rattle.board_defs.proofs.ViewLaws.{IsHub-with}

module _ {A : Type 0} (value : A → FeedKept) (items old : List A) (one : A) (view : FeedKept) (plans same : Schedules) (feed entries : ℕ) where
  abbrev before : HubKept
  before = record { plans = plans; feeds = map value old; entries = entries }

  abbrev after : HubKept
  after = record { plans = same; feeds = map value (set items feed one); entries = entries + 1 }

  pub next_is : map value items ≡ map value old → value one ≡ view → same ≡ plans → after ≡ hub_with feed view before
  next_is shared at whole = rw (map-set value items feed one, shared, at, whole) refl

  pub next_hub : map value items ≡ map value old → value one ≡ view → same ≡ plans → IsHub before → feed < length before.feeds
      → view.fold.count ≡ (feed_at before feed).fold.count + 1 → view.fold.count ≤ last_moment → IsHub after
  next_hub shared at whole is within more few = subst IsHub (sym (next_is shared at whole)) (IsHub-with before feed view is within more few)
