-- The number of a row by its id, in rows whose ids rise.
use Rattle.std.proofs.Common.{◌≡◌, ℕ, ◌+◌, ◌<◌, ◌≤◌, Bool, true, false, not, cond, nat_lt, Some, None, List, [], ◌∷◌, length, get_or, position, refl, sym, ap, ◌∙◌, arith, Less, Equal, Greater, inl, inr}
use Rattle.std.specs.Cmp.Lexicographic.{slice_cmp}
use Rattle.std.specs.List.{HoldsAt, position_or_len}
use Rattle.std.specs.List.Sorted.{IsNonDecreasingBy, IsPartitionPoint}
use Rattle.std.specs.Ordering.{nat_cmp, is_lt, is_eq, ordering_index, ordering_reverse}
use Rattle.std.specs.Str.{bytes_eq}
use Rattle.std.proofs.lemmas.Bool.{cases_lt}
use Rattle.std.proofs.lemmas.Bool.Decides.{nat_tests}
use Rattle.std.proofs.lemmas.Cmp.{nat_list_cmp_total}
use Rattle.std.proofs.lemmas.List.Sorted.{searchable_from_sorted}
use Rattle.std.proofs.lemmas.List.Sums.{prefix_len_is}
use Rattle.std.proofs.lemmas.Map.Text.{is_eq-slice_cmp}
use Rattle.std.proofs.lemmas.Option.{slice_get-get_or}
use Rattle.sched_types.specs.Timetable.{RisesById, number_of}

some_if : (n i m : ℕ) → n ≡ i → i < m → cond (nat_lt n m) (Some n) None ≡ Some i
some_if n i m e h = grind (arith, nat_tests)

none_if : (n m : ℕ) → n ≡ m → cond (nat_lt n m) (Some n) None ≡ None
none_if n m e = grind (arith, nat_tests)

-- the place that a test passes first
pub position_present : {X : Type 0} (p : X → Bool) (xs : List X) (i : ℕ) → i < length xs → ((d : X) → p (get_or xs i d) ≡ true) → ((k : ℕ) (d : X) → k < i → p (get_or xs k d) ≡ false) → position p xs ≡ Some i
position_present p [] i h at before = absurd (omega arith)
position_present p (x ∷ xs) i h at before =
    some_if (position_or_len p (x ∷ xs)) i (length (x ∷ xs)) (prefix_len_is (λ y. not (p y)) (x ∷ xs) i x (omega arith) (λ k lt. ap not (before k x lt)) (λ _. ap not (at x))) h

-- no place passes it
pub position_absent : {X : Type 0} (p : X → Bool) (xs : List X) → ((k : ℕ) (d : X) → k < length xs → p (get_or xs k d) ≡ false) → position p xs ≡ None
position_absent p [] none = refl
position_absent p (x ∷ xs) none =
    none_if (position_or_len p (x ∷ xs)) (length (x ∷ xs)) (prefix_len_is (λ y. not (p y)) (x ∷ xs) (length (x ∷ xs)) x (omega arith) (λ k lt. ap not (none k x lt)) (λ h. absurd (omega arith)))

-- a text that stands as Equal to another is that text, and else it is another
same_text : (xs ys : List ℕ) → slice_cmp nat_cmp xs ys ≡ Equal → bytes_eq xs ys ≡ true
same_text xs ys e = sym (is_eq-slice_cmp xs ys) ∙ ap is_eq e

lower_text : (xs ys : List ℕ) → slice_cmp nat_cmp xs ys ≡ Less → bytes_eq xs ys ≡ false
lower_text xs ys e = sym (is_eq-slice_cmp xs ys) ∙ ap is_eq e

higher_text : (xs ys : List ℕ) → slice_cmp nat_cmp xs ys ≡ Greater → bytes_eq xs ys ≡ false
higher_text xs ys e = sym (is_eq-slice_cmp xs ys) ∙ ap is_eq e

-- what is below a text is below each text that stands as Equal to it
below_same : (a b w : List ℕ) → slice_cmp nat_cmp a b ≡ Less → slice_cmp nat_cmp b w ≡ Equal → slice_cmp nat_cmp a w ≡ Less
below_same a b w lt eq = grind (arith, nat_list_cmp_total, nat_tests)

module _ {X : Type 0} (id : X → List ℕ) (xs : List X) (up : RisesById id xs) where
  rises : (i j : ℕ) (d : X) → i < j → j < length xs → slice_cmp nat_cmp (id (get_or xs i d)) (id (get_or xs j d)) ≡ Less
  rises i j d h within = up.rise i j _ _ h (slice_get-get_or xs i d (omega arith)) (slice_get-get_or xs j d within)

  not_lower : (i j : ℕ) (d : X) → i < j → j < length xs → is_lt (slice_cmp nat_cmp (id (get_or xs j d)) (id (get_or xs i d))) ≡ false
  not_lower i j d h within = ap is_lt (nat_list_cmp_total.antisymm (id (get_or xs j d)) (id (get_or xs i d)) ∙ ap ordering_reverse (rises i j d h within))

  -- the row that a search finds is the one with that id
  pub found_place : (wanted : List ℕ) (i : ℕ) → i < length xs → HoldsAt (λ x. slice_cmp nat_cmp (id x) wanted ≡ Equal) xs i → number_of id xs wanted ≡ Some i
  found_place wanted i h at =
      position_present (λ x. bytes_eq (id x) wanted) xs i h (λ d. same_text (id (get_or xs i d)) wanted (at d))
      (λ k d lt. lower_text (id (get_or xs k d)) wanted (below_same (id (get_or xs k d)) (id (get_or xs i d)) wanted (rises k i d lt h) (at d)))

  -- where a search finds none, no row has that id
  pub no_place : (wanted : List ℕ) (i : ℕ) → i ≤ length xs → (IsNonDecreasingBy (λ x. ordering_index (slice_cmp nat_cmp (id x) wanted)) xs → IsPartitionPoint (λ x. slice_cmp nat_cmp (id x) wanted ≡ Less) (λ x. slice_cmp nat_cmp (id x) wanted ≡ Greater) xs i) → number_of id xs wanted ≡ None
  no_place wanted i h split =
      let parts = split (searchable_from_sorted nat_list_cmp_total id xs wanted (λ k d _ lt. not_lower k (k + 1) d (omega arith) lt)) in
      position_absent (λ x. bytes_eq (id x) wanted) xs
      (λ k d within. elim (cases_lt k i) as (λ _. bytes_eq (id (get_or xs k d)) wanted ≡ false) [
        | inl lt ↦ lower_text (id (get_or xs k d)) wanted (parts.0 k d (omega arith) lt)
        | inr ge ↦ higher_text (id (get_or xs k d)) wanted (parts.1 k d ge within)
      ])
