-- Derived trips in order of their patterns and starts, and searches among them.
use Rattle.std.proofs.Common.{◌≡◌, ◌⊎◌, ℕ, zero, suc, ◌+◌, ◌<◌, ◌≤◌, Bool, true, false, nat_eq, ◌&&◌, Some, None, Result, Ok, Err, List, [], ◌∷◌, length, get_or, slice_get, cond, IfSome, refl, sym, ap, ◌∙◌, arith, Less, Equal, Greater, inl, inr}
use Rattle.std.specs.Cmp.{IsTotalOrder}
use Rattle.std.specs.List.{HoldsAt, find}
use Rattle.std.specs.List.Sorted.{IsBinarySearchResult, IsNonDecreasingBy, IsPartitionPoint, IsSearchInRange}
use Rattle.std.specs.Result.{is_ok}
use Rattle.std.specs.Option.{option_map}
use Rattle.std.specs.Ordering.{nat_cmp, is_lt, is_eq, ordering_index, ordering_then}
use Rattle.std.specs.declared.cmp.Ordering.{Ordering}
use Rattle.std.proofs.lemmas.Bool.{and_parts, cases_lt, eqb-true}
use Rattle.std.proofs.lemmas.Bool.Decides.{nat_tests}
use Rattle.std.proofs.lemmas.Cmp.{nat_cmp_total, on_total, then_total}
use Rattle.std.proofs.lemmas.List.Folds.{list_any_at, list_any_none}
use Rattle.std.proofs.lemmas.List.Sorted.{searchable_from_sorted}
use Rattle.std.proofs.lemmas.Option.{slice_get-get_or}
use Rattle.order.proofs.Lists.{equal_then}
use Rattle.sched_types.specs.declared.rows.PlanDerived.{PlanDerived}
use Rattle.sched_types.specs.Timetable.{RiseByStart, starts_so, derived_in, has_derived_in}

-- ---- the order

abbrev pub start_cmp : PlanDerived → PlanDerived → Ordering
start_cmp a b = ordering_then (nat_cmp a.pattern b.pattern) (nat_cmp a.start b.start)

start_total : IsTotalOrder start_cmp
start_total = then_total (on_total (λ d. d.pattern) nat_cmp_total) (on_total (λ d. d.start) nat_cmp_total)

equal_number : (a b : ℕ) → nat_eq a b ≡ is_eq (nat_cmp a b)
equal_number a b = grind (arith, nat_tests)

not_lower_number : (a b : ℕ) → a ≤ b → is_lt (nat_cmp b a) ≡ false
not_lower_number a b h = grind (arith, nat_tests)

compared_higher : (a b : ℕ) → a < b → nat_cmp b a ≡ Greater
compared_higher a b h = grind (arith, nat_tests)

compared_same : (a b : ℕ) → a ≡ b → nat_cmp b a ≡ Equal
compared_same a b h = grind (arith, nat_tests)

-- one derived trip is before another
abbrev Before : PlanDerived → PlanDerived → Type 0
Before a b = (a.pattern < b.pattern) ⊎ ((a.pattern ≡ b.pattern) × (a.start < b.start))

not_lower : (a b : PlanDerived) → Before a b → is_lt (start_cmp b a) ≡ false
not_lower a b h2 = grind (arith, compared_higher, compared_same)

not_lower_pattern : (a b : PlanDerived) → Before a b → is_lt (nat_cmp b.pattern a.pattern) ≡ false
not_lower_pattern a b h2 = grind (arith, not_lower_number)

-- the trip at a start is the one that compares as Equal
abbrev pub wanted : ℕ → ℕ → PlanDerived
wanted pattern start = record { pattern = pattern; start = start; trip = 0 }

wanted_is : (pattern start : ℕ) (d : PlanDerived) → starts_so pattern start d ≡ is_eq (start_cmp d (wanted pattern start))
wanted_is pattern start d = grind (arith, equal_number, equal_then, nat_tests)

-- what is before it starts otherwise
other_number : (a b : ℕ) → a < b → nat_eq a b ≡ false
other_number a b h = grind (arith, nat_tests)

none_with : (b : Bool) → (b && false) ≡ false
none_with b = grind arith

other_start : (pattern start : ℕ) (a b : PlanDerived) → starts_so pattern start b ≡ true → Before a b → starts_so pattern start a ≡ false
other_start pattern start a b e h5 = grind (arith, and_parts, eqb-true, none_with, other_number, nat_tests)

-- ---- what a list finds

find_present : {X : Type 0} (p : X → Bool) (xs : List X) (i : ℕ) (d : X) → i < length xs → p (get_or xs i d) ≡ true → ((k : ℕ) → k < i → p (get_or xs k d) ≡ false) → find p xs ≡ Some (get_or xs i d)
find_present p [] i d h at before = absurd (omega arith)
find_present p (x ∷ xs) zero d h at before = rw at refl
find_present p (x ∷ xs) (suc i) d h at before = rw (before zero (omega arith)) (find_present p xs i d (omega arith) at (λ k lt. before (suc k) (omega arith)))

find_absent : {X : Type 0} (p : X → Bool) (xs : List X) (d : X) → ((k : ℕ) → k < length xs → p (get_or xs k d) ≡ false) → find p xs ≡ None
find_absent p [] d none = refl
find_absent p (x ∷ xs) d none = rw (none zero (omega arith)) (find_absent p xs d (λ k lt. none (suc k) (omega arith)))

module _ (derived : List PlanDerived) (up : RiseByStart derived) where
  before : (i j : ℕ) (d : PlanDerived) → i < j → j < length derived → Before (get_or derived i d) (get_or derived j d)
  before i j d h within = up.rise i j _ _ h (slice_get-get_or derived i d (omega arith)) (slice_get-get_or derived j d within)

  -- the trip that a search finds is that of the pattern at the start
  pub found_trip : (pattern start i : ℕ) (d : PlanDerived) → i < length derived → HoldsAt (λ x. start_cmp x (wanted pattern start) ≡ Equal) derived i → derived_in derived pattern start ≡ Some (get_or derived i d).trip
  found_trip pattern start i d h at =
      let here : starts_so pattern start (get_or derived i d) ≡ true = wanted_is pattern start (get_or derived i d) ∙ ap is_eq (at d) in
      ap (option_map (λ found. found.trip))
      (find_present (starts_so pattern start) derived i d h here (λ k lt. other_start pattern start (get_or derived k d) (get_or derived i d) here (before k i d lt h)))

  -- where a search finds none there is none
  pub no_trip_at : (pattern start i : ℕ) → i ≤ length derived
      → (IsNonDecreasingBy (λ x. ordering_index (start_cmp x (wanted pattern start))) derived → IsPartitionPoint (λ x. start_cmp x (wanted pattern start) ≡ Less) (λ x. start_cmp x (wanted pattern start) ≡ Greater) derived i)
      → derived_in derived pattern start ≡ None
  no_trip_at pattern start i h split =
      let d = wanted 0 0 in
      let parts = split (searchable_from_sorted start_total (λ x. x) derived (wanted pattern start) (λ k d _ lt. not_lower (get_or derived k d) (get_or derived (k + 1) d) (before k (k + 1) d (omega arith) lt))) in
      ap (option_map (λ found. found.trip))
      (find_absent (starts_so pattern start) derived d
      (λ k within. wanted_is pattern start (get_or derived k d) ∙ elim (cases_lt k i) as (λ _. is_eq (start_cmp (get_or derived k d) (wanted pattern start)) ≡ false) [
        | inl lt ↦ ap is_eq (parts.0 k d (omega arith) lt)
        | inr ge ↦ ap is_eq (parts.1 k d ge within)
      ]))

  -- a pattern gives a trip where a search finds one
  pub gives_trip : (pattern i : ℕ) → i < length derived → HoldsAt (λ x. nat_cmp x.pattern pattern ≡ Equal) derived i → has_derived_in derived pattern ≡ true
  gives_trip pattern i h at =
      let d = wanted 0 0 in
      list_any_at (λ found. nat_eq found.pattern pattern) derived i d h (equal_number (get_or derived i d).pattern pattern ∙ ap is_eq (at d))

  pub gives_none : (pattern i : ℕ) → i ≤ length derived
      → (IsNonDecreasingBy (λ x. ordering_index (nat_cmp x.pattern pattern)) derived → IsPartitionPoint (λ x. nat_cmp x.pattern pattern ≡ Less) (λ x. nat_cmp x.pattern pattern ≡ Greater) derived i)
      → has_derived_in derived pattern ≡ false
  gives_none pattern i h split =
      let parts = split (searchable_from_sorted nat_cmp_total (λ x. x.pattern) derived pattern (λ k d _ lt. not_lower_pattern (get_or derived k d) (get_or derived (k + 1) d) (before k (k + 1) d (omega arith) lt))) in
      list_any_none (λ found. nat_eq found.pattern pattern) derived
      (λ k d within. equal_number (get_or derived k d).pattern pattern ∙ elim (cases_lt k i) as (λ _. is_eq (nat_cmp (get_or derived k d).pattern pattern) ≡ false) [
        | inl lt ↦ ap is_eq (parts.0 k d (omega arith) lt)
        | inr ge ↦ ap is_eq (parts.1 k d ge within)
      ])

  -- and so a search tells whether it gives one
  pub gives : (pattern : ℕ) (r : Result ℕ ℕ) → IsSearchInRange r (length derived) → IsBinarySearchResult (λ x. nat_cmp x.pattern pattern) derived r → is_ok r ≡ has_derived_in derived pattern
  gives pattern (Ok i) bound found = sym (gives_trip pattern i bound found)
  gives pattern (Err i) bound split = sym (gives_none pattern i bound split)

-- each trip that is found is one of so many
pub derived_within : (derived : List PlanDerived) (n : ℕ) → ((i : ℕ) (found : PlanDerived) → slice_get derived i ≡ Some found → found.trip < n) → (pattern start : ℕ) → IfSome (derived_in derived pattern start) (λ trip. trip < n)
derived_within [] n inside pattern start = tt
derived_within (d ∷ ds) n inside pattern start = by_test (starts_so pattern start d) (derived_within ds n (λ i found at. inside (suc i) found at) pattern start) where
  by_test : (b : Bool) → IfSome (derived_in ds pattern start) (λ trip. trip < n) → IfSome (option_map (λ found. found.trip) (cond b (Some d) (find (starts_so pattern start) ds))) (λ trip. trip < n)
  by_test true rest = inside zero d refl
  by_test false rest = rest
