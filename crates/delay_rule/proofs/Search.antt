-- The first place that passes a test, from a place on.
use Rattle.std.proofs.Common.{◌≡◌, ℕ, zero, suc, ◌+◌, ◌-◌, ◌<◌, ◌≤◌, Bool, true, false, nat_eq, cond, Option, Some, None, List, [], ◌∷◌, length, get_or, drop, take, refl, sym, ap, subst, ◌∙◌, inl, inr, Less, Equal, Greater, arith}
use Rattle.std.specs.List.{position_from, HoldsAt}
use Rattle.std.specs.List.Sorted.{IsNonDecreasingBy, IsPartitionPoint}
use Rattle.std.specs.Ordering.{nat_cmp, is_lt, ordering_index}
use Rattle.std.proofs.lemmas.Bool.{cases_lt}
use Rattle.std.proofs.lemmas.Bool.Decides.{nat_tests}
use Rattle.std.proofs.lemmas.Cmp.{nat_cmp_total}
use Rattle.std.proofs.lemmas.List.{get_or-drop, length-drop, drop_more, take_all}
use Rattle.std.proofs.lemmas.List.Sorted.{searchable_from_sorted}
use Rattle.std.proofs.lemmas.Option.{slice_get-get_or}
use Rattle.std.proofs.Math.ListN.{drop_of_length-le}
use Rattle.sched_types.specs.declared.rows.Place.{Place}
use Rattle.sched_types.specs.Timetable.{Timetable, number_of, is_given}
use Rattle.delay_rule_defs.specs.Delays.{is_at}
use Rattle.delay_rule.specs.Pass.{SequencesRise}

-- where it lies
pub record LiesWithin (from count i : ℕ) : Type 0 where
  pub behind : from ≤ i
  pub before : i < from + count

pub found_within : {X : Type 0} (p : X → Bool) (n : ℕ) (xs : List X) (i : ℕ) → position_from p n xs ≡ Some i → LiesWithin n (length xs) i
found_within p n [] i e = cc
found_within p n (x ∷ xs) i e = by_test (p x) e (λ at. found_within p (n + 1) xs i at) where
  by_test : (b : Bool) → cond b (Some n) (position_from p (n + 1) xs) ≡ Some i → (position_from p (n + 1) xs ≡ Some i → LiesWithin (n + 1) (length xs) i) → LiesWithin n (length (x ∷ xs)) i
  by_test true at rest = let same : n ≡ i = cc in record { behind = omega arith; before = omega arith }
  by_test false at rest = let further = rest at in record { behind = omega (arith, further.behind); before = omega (arith, further.before) }

-- the first that passes, by places
pub found_at : {X : Type 0} (p : X → Bool) (n : ℕ) (xs : List X) (i : ℕ) → i < length xs → ((d : X) → p (get_or xs i d) ≡ true) → ((k : ℕ) (d : X) → k < i → p (get_or xs k d) ≡ false) → position_from p n xs ≡ Some (n + i)
found_at p n [] i h at before = absurd (omega arith)
found_at p n (x ∷ xs) zero h at before = let same : n ≡ n + 0 = omega arith in rw (at x) (ap Some same)
found_at p n (x ∷ xs) (suc i) h at before =
    let same : n + 1 + i ≡ n + suc i = omega arith in
    rw (before zero x (omega arith))
    (found_at p (n + 1) xs i (omega arith) at (λ k d lt. before (suc k) d (omega arith)) ∙ ap Some same)

pub found_nowhere : {X : Type 0} (p : X → Bool) (n : ℕ) (xs : List X) → ((k : ℕ) (d : X) → k < length xs → p (get_or xs k d) ≡ false) → position_from p n xs ≡ None
found_nowhere p n [] none = refl
found_nowhere p n (x ∷ xs) none = rw (none zero x (omega arith)) (found_nowhere p (n + 1) xs (λ k d lt. none (suc k) d (omega arith)))

module _ {X : Type 0} (p : X → Bool) (xs : List X) (i : ℕ) where
  -- one place on
  pub here : (x : X) → i < length xs → x ≡ get_or xs i x → p x ≡ true → position_from p i (drop i xs) ≡ Some i
  here x h at yes' = ap (position_from p i) (drop_more xs i x h) ∙ rw (← at) (rw yes' refl)

  pub further : (x : X) → i < length xs → x ≡ get_or xs i x → p x ≡ false → position_from p i (drop i xs) ≡ position_from p (i + 1) (drop (i + 1) xs)
  further x h at not' = ap (position_from p i) (drop_more xs i x h) ∙ rw (← at) (rw not' refl)

  pub past : length xs ≤ i → position_from p i (drop i xs) ≡ None
  past h = ap (position_from p i) (drop_of_length-le xs h)

same_number : (a b : ℕ) → nat_cmp a b ≡ Equal → nat_eq a b ≡ true
same_number a b e = grind (arith, nat_tests)

lower_number : (a b : ℕ) → nat_cmp a b ≡ Less → nat_eq a b ≡ false
lower_number a b e = grind (arith, nat_tests)

higher_number : (a b : ℕ) → nat_cmp a b ≡ Greater → nat_eq a b ≡ false
higher_number a b e = grind (arith, nat_tests)

below_equal : (a b s : ℕ) → a < b → nat_cmp b s ≡ Equal → nat_eq a s ≡ false
below_equal a b s h e = grind (arith, nat_tests)

not_lower : (a b : ℕ) → a < b → is_lt (nat_cmp b a) ≡ false
not_lower a b h = grind (arith, nat_tests)

module _ (places : List Place) (rise : SequencesRise places) (from : ℕ) where
  -- sequences rise among the places from a place on, too
  rises : (i j : ℕ) (d : Place) → i < j → j < length (drop from places) → (get_or (drop from places) i d).sequence < (get_or (drop from places) j d).sequence
  rises i j d h within =
      let low : from + i < length places = omega (arith, length-drop from places) in
      let high : from + j < length places = omega (arith, length-drop from places) in
      rw (get_or-drop from places i d, get_or-drop from places j d)
      (rise.rise (from + i) (from + j) _ _ (omega arith) (slice_get-get_or places (from + i) d low) (slice_get-get_or places (from + j) d high))

  found_in_rest : (sequence i : ℕ) → i < length (drop from places) → HoldsAt (λ place. nat_cmp place.sequence sequence ≡ Equal) (drop from places) i → Some (from + i) ≡ position_from (λ place. nat_eq place.sequence sequence) from (drop from places)
  found_in_rest sequence i h at =
      sym (found_at (λ place. nat_eq place.sequence sequence) from (drop from places) i h
      (λ d. same_number (get_or (drop from places) i d).sequence sequence (at d))
      (λ k d lt. below_equal (get_or (drop from places) k d).sequence (get_or (drop from places) i d).sequence sequence (rises k i d lt h) (at d)))

  none_in_rest : (sequence i : ℕ) → i ≤ length (drop from places) → (IsNonDecreasingBy (λ place. ordering_index (nat_cmp place.sequence sequence)) (drop from places) → IsPartitionPoint (λ place. nat_cmp place.sequence sequence ≡ Less) (λ place. nat_cmp place.sequence sequence ≡ Greater) (drop from places) i) → None ≡ position_from (λ place. nat_eq place.sequence sequence) from (drop from places)
  none_in_rest sequence i h split =
      let parts = split (searchable_from_sorted nat_cmp_total (λ place. place.sequence) (drop from places) sequence (λ k d _ lt. not_lower (get_or (drop from places) k d).sequence (get_or (drop from places) (k + 1) d).sequence (rises k (k + 1) d (omega arith) lt))) in
      sym (found_nowhere (λ place. nat_eq place.sequence sequence) from (drop from places)
      (λ k d within. elim (cases_lt k i) as (λ _. nat_eq (get_or (drop from places) k d).sequence sequence ≡ false) [
        | inl lt ↦ lower_number (get_or (drop from places) k d).sequence sequence (parts.0 k d (omega arith) lt)
        | inr ge ↦ higher_number (get_or (drop from places) k d).sequence sequence (parts.1 k d ge within)
      ]))

  -- what a binary search finds in a slice that holds the places from a place on
  pub sequence_found : (rest : List Place) → rest ≡ drop from places → (sequence i : ℕ) → i < length rest → HoldsAt (λ place. nat_cmp place.sequence sequence ≡ Equal) rest i → Some (from + i) ≡ position_from (λ place. nat_eq place.sequence sequence) from (drop from places)
  sequence_found rest whole sequence i =
      subst (λ (xs : List Place). i < length xs → HoldsAt (λ place. nat_cmp place.sequence sequence ≡ Equal) xs i → Some (from + i) ≡ position_from (λ place. nat_eq place.sequence sequence) from (drop from places))
      (sym whole) (found_in_rest sequence i)

  pub no_sequence : (rest : List Place) → rest ≡ drop from places → (sequence i : ℕ) → i ≤ length rest → (IsNonDecreasingBy (λ place. ordering_index (nat_cmp place.sequence sequence)) rest → IsPartitionPoint (λ place. nat_cmp place.sequence sequence ≡ Less) (λ place. nat_cmp place.sequence sequence ≡ Greater) rest i) → None ≡ position_from (λ place. nat_eq place.sequence sequence) from (drop from places)
  no_sequence rest whole sequence i =
      subst (λ (xs : List Place). i ≤ length xs → (IsNonDecreasingBy (λ place. ordering_index (nat_cmp place.sequence sequence)) xs → IsPartitionPoint (λ place. nat_cmp place.sequence sequence ≡ Less) (λ place. nat_cmp place.sequence sequence ≡ Greater) xs i) → None ≡ position_from (λ place. nat_eq place.sequence sequence) from (drop from places))
      (sym whole) (none_in_rest sequence i)

-- such a slice
pub rest_of : {X : Type 0} (xs : List X) (from : ℕ) → take (length xs - from) (drop from xs) ≡ drop from xs
rest_of xs from = take_all (length xs - from) (drop from xs) (omega (arith, length-drop from xs))

-- two tests that agree find the same place
pub found_same : {X : Type 0} (p q : X → Bool) (n : ℕ) (xs : List X) → ((x : X) → p x ≡ q x) → position_from p n xs ≡ position_from q n xs
found_same p q n [] same = refl
found_same p q n (x ∷ xs) same =
    ap (λ b. cond b (Some n) (position_from p (n + 1) xs)) (same x)
    ∙ ap (cond (q x) (Some n)) (found_same p q (n + 1) xs same)

-- ---- what an update is about

module _ (t : Timetable) (from : ℕ) (places : List Place) where
  pub stop_named : (given : Option (List ℕ)) (id text : List ℕ) (stop : ℕ) → given ≡ Some id → text ≡ id → Some stop ≡ number_of (λ s. s.id) t.stops text → position_from (λ place. nat_eq stop place.stop) from places ≡ position_from (is_at t given) from places
  stop_named given id text stop is same found =
      found_same (λ place. nat_eq stop place.stop) (is_at t given) from places
      (λ place. ap (is_given place.stop) found ∙ ap (λ bytes. is_given place.stop (number_of (λ s. s.id) t.stops bytes)) same
      ∙ ap (λ text. is_at t text place) (sym is))

  pub no_stop_named : (given : Option (List ℕ)) (id text : List ℕ) → given ≡ Some id → text ≡ id → None ≡ number_of (λ s. s.id) t.stops text → None ≡ position_from (is_at t given) from places
  no_stop_named given id text is same found =
      sym (found_nowhere (is_at t given) from places
      (λ k d h. ap (λ text. is_at t text (get_or places k d)) is
      ∙ ap (λ bytes. is_given (get_or places k d).stop (number_of (λ s. s.id) t.stops bytes)) (sym same) ∙ ap (is_given (get_or places k d).stop) (sym found)))

  pub nothing_named : (given : Option (List ℕ)) → given ≡ None → None ≡ position_from (is_at t given) from places
  nothing_named given is = sym (found_nowhere (is_at t given) from places (λ k d h. ap (λ text. is_at t text (get_or places k d)) is))
