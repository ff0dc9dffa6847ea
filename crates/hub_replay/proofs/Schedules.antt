-- The schedule of a script without a configuration, and its feeds.
use Rattle.std.proofs.Common.{◌≡◌, ℕ, zero, suc, List, [], ◌∷◌, ◌++◌, length, slice_get, Some, Bool, true, false, refl, sym, ap, ◌∙◌, arith, inl, inr, length-append}
use Rattle.std.specs.Prelude.{◌⊎◌, ◌&&◌, not, nat_lt, codes}
use Rattle.std.specs.List.{list_any}
use Rattle.std.specs.Str.{bytes_eq}
use Rattle.std.proofs.lemmas.Bool.{and_parts, or_parts, not-true, ltb-true, both_ways}
use Rattle.std.proofs.lemmas.Option.{same_Some}
use Rattle.std.proofs.lemmas.Slice.Eq.{bytes_eq-Decides}
use Rattle.text_defs.specs.Names.{is_name}
use Rattle.sched_types.specs.declared.plans.NamedFeed.{NamedFeed}
use Rattle.sched_types.specs.Schedules.{AreSchedules}
use Rattle.hub_replay_defs.specs.Record.{plain_schedules}

-- one of none, and one of one
none_at : {X : Type 0} (i : ℕ) (x : X) → slice_get {X = X} [] i ≡ Some x → ⊥
none_at i x h = grind arith

first_at : {X : Type 0} (y : X) (i : ℕ) (x : X) → slice_get (y ∷ []) i ≡ Some x → (i ≡ 0) × (y ≡ x)
first_at y i x h = grind (arith, same_Some, none_at)

plain_named : is_name (codes "plain") ≡ true
unfolding is_name
plain_named = refl

-- the one schedule has a name, and no feeds are all apart
pub plain_sound : AreSchedules (plain_schedules [])
plain_sound = grind (arith, first_at, plain_named, none_at)

pub no_feeds_sound : (feeds : List NamedFeed) → feeds ≡ [] → AreSchedules (plain_schedules feeds)
no_feeds_sound feeds e = rw e plain_sound

-- an element of a list with one more at its end
get_last : {X : Type 0} (xs : List X) (y : X) (i : ℕ) (x : X) → slice_get (xs ++ y ∷ []) i ≡ Some x → (slice_get xs i ≡ Some x) ⊎ ((i ≡ length xs) × (y ≡ x))
get_last [] y i x h = inr (first_at y i x h)
get_last (z ∷ xs) y zero x h = inl h
get_last (z ∷ xs) y (suc i) x h = elim (get_last xs y i x h) [ inl before ↦ inl before | inr last ↦ inr (ap suc last.0, last.1) ]

-- an element of a list of which none passes
not_passed : {X : Type 0} (test : X → Bool) (xs : List X) → list_any test xs ≡ false → (i : ℕ) (x : X) → slice_get xs i ≡ Some x → test x ≡ false
not_passed test [] e i x at = absurd (none_at i x at)
not_passed test (y ∷ ys) e zero x at = ap test (sym (same_Some y x at)) ∙ (or_parts (test y) (list_any test ys) e).0
not_passed test (y ∷ ys) e (suc i) x at = not_passed test ys (or_parts (test y) (list_any test ys) e).1 i x at

abbrev named : List ℕ → NamedFeed → Bool
named name feed = bytes_eq name feed.name

abbrev feed_named_so : List ℕ → NamedFeed
feed_named_so name = record { name = name; plan = 0; max_age = 0 }

-- none of the feeds has the name
differs : (name : List ℕ) (feeds : List NamedFeed) → list_any (named name) feeds ≡ false → (i : ℕ) (feed : NamedFeed) → slice_get feeds i ≡ Some feed → name ≡ feed.name → ⊥
differs name feeds e i feed at same = both_ways (bytes_eq name feed.name) (not_passed (named name) feeds e i feed at) ((bytes_eq-Decides name feed.name).1 same)

-- one feed more, under a new name of that form
pub one_more_sound : (feeds : List NamedFeed) (name : List ℕ) → AreSchedules (plain_schedules feeds)
    → is_name name && not (list_any (named name) feeds) && nat_lt (length feeds) 64 ≡ true
    → AreSchedules (plain_schedules (feeds ++ feed_named_so name ∷ []))
one_more_sound feeds name sound new =
    grind (arith, and_parts, not-true, ltb-true, length-append, get_last, differs)

-- the same, of a name that was tested and kept
pub declared_sound : (feeds tested feeds' : List NamedFeed) (name kept : List ℕ) (test : Bool) → AreSchedules (plain_schedules feeds) → tested ≡ feeds
    → test ≡ (is_name name && not (list_any (named name) tested) && nat_lt (length tested) 64) → test ≡ true → kept ≡ name → feeds' ≡ feeds ++ feed_named_so kept ∷ []
    → AreSchedules (plain_schedules feeds')
declared_sound feeds tested feeds' name kept test sound same is holds copy more =
    rw (more, copy) (one_more_sound feeds name sound (rw same at (sym is ∙ holds)))
