-- Timetables and feeds are those of a hub, by tests of their names that compute.
use Rattle.std.proofs.lemmas.Bool.Decides.{nat_tests}
use Rattle.std.proofs.Common.{◌≡◌, ◌≢◌, ℕ, Bool, true, not, nat_lt, ◌&&◌, Some, List, length, slice_get, arith}
use Rattle.std.specs.Prelude.{nat_le}
use Rattle.std.specs.List.{list_all}
use Rattle.std.specs.Str.{bytes_eq}
use Rattle.std.proofs.lemmas.Bool.{and_parts, leb-true, ltb-true, not-true, both_ways, cases_order}
use Rattle.std.proofs.lemmas.Slice.Eq.{bytes_eq-Decides}
use Rattle.text_defs.specs.Names.{is_name}
use Rattle.sched_types.specs.declared.plans.NamedPlan.{NamedPlan}
use Rattle.sched_types.specs.declared.plans.NamedFeed.{NamedFeed}
use Rattle.sched_types.specs.Schedules.{AreSchedules}
use Rattle.sched_types.proofs.Checks.{all_at, all_pairs, pairs_at}

-- whether two have different names
abbrev pub named_apart : {X : Type 0} → (X → List ℕ) → X → X → Bool
named_apart name a b = not (bytes_eq (name a) (name b))

-- up to 8 timetables with names of that form, no two of which are one
abbrev pub are_plans : List NamedPlan → Bool
are_plans plans = nat_le (length plans) 8 && (list_all (λ plan. is_name plan.name) plans && all_pairs (named_apart (λ plan. plan.name)) plans)

-- up to 64 feeds of so many timetables, with names of the same kind
abbrev pub is_feed_of : ℕ → NamedFeed → Bool
is_feed_of plans feed = is_name feed.name && nat_lt feed.plan plans

abbrev pub are_feeds : ℕ → List NamedFeed → Bool
are_feeds plans feeds = nat_le (length feeds) 64 && (list_all (is_feed_of plans) feeds && all_pairs (named_apart (λ feed. feed.name)) feeds)

apart : {X : Type 0} (name : X → List ℕ) (p q : X) → named_apart name p q ≡ true → name p ≢ name q
apart name p q e same = both_ways (bytes_eq (name p) (name q)) (not-true (bytes_eq (name p) (name q)) e) ((bytes_eq-Decides (name p) (name q)).1 same)

places_apart : {X : Type 0} (name : X → List ℕ) (xs : List X) → all_pairs (named_apart name) xs ≡ true → (i j : ℕ) (p q : X) → slice_get xs i ≡ Some p → slice_get xs j ≡ Some q → name p ≡ name q → i ≡ j
places_apart name xs e i j p q at also same = grind (arith, apart, cases_order, pairs_at)

pub checked_schedules : (plans : List NamedPlan) (feeds : List NamedFeed) → are_plans plans ≡ true → are_feeds (length plans) feeds ≡ true → AreSchedules (record { plans = plans; feeds = feeds })
checked_schedules plans feeds of_plans of_feeds = grind (arith, all_at, all_pairs, and_parts, leb-true, ltb-true, places_apart, slice_get, nat_tests)
