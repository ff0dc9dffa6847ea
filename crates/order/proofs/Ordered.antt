-- Lists in an order that only equal items tie in: known by their items alone.
use Rattle.std.proofs.Common.{◌≡◌, ℕ, zero, suc, ◌+◌, ◌<◌, Bool, true, false, not, ◌&&◌, cond, List, [], ◌∷◌, length, filter, drop, get_or, replicate, count_by, refl, sym, ap, ◌∙◌, Equal, arith}
use Rattle.std.specs.Prelude.{if◌then◌else◌}
use Rattle.std.specs.Cmp.{IsTotalOrder}
use Rattle.std.specs.List.Sorted.{IsPermutation, IsSorted, ties}
use Rattle.std.specs.Ordering.{is_eq, is_gt, is_lt, ordering_reverse}
use Rattle.std.specs.declared.cmp.Ordering.{Ordering}
use Rattle.std.proofs.lemmas.List.Sorted.{sum_by-IsPermutation}
use Rattle.order.specs.Order.{inserted, ordered}
use Rattle.order.proofs.Laws.{IsLeast, IsRising, rising_only, rising_ordered, rising_from_sorted}
use Rattle.order.proofs.Counts.{one, one_is, one_not, not_one, count-cons, SameItems, same_cons, same_back, same_on}

reversed_gt : (r : Ordering) → is_gt (ordering_reverse r) ≡ is_lt r
reversed_gt r = grind arith

tie_is : (r : Ordering) → (not (is_lt r) && not (is_lt (ordering_reverse r))) ≡ true → r ≡ Equal
tie_is r e = grind arith

pub is_equal : (r : Ordering) → is_eq r ≡ true → r ≡ Equal
is_equal r e = grind arith

pub below_not_above : (r : Ordering) → is_lt r ≡ true → is_gt r ≡ false
below_not_above r e = grind arith

above_not_below : (r : Ordering) → is_gt r ≡ true → is_lt r ≡ false
above_not_below r e = grind arith

pub permuted : {X : Type 0} (xs ys : List X) → IsPermutation xs ys → SameItems xs ys
permuted xs ys moved = record { counts = λ p. sym (sum_by-IsPermutation (λ x. one (p x)) xs ys moved) }

module _ {X : Type 0} {cmp : X → X → Ordering} (o : IsTotalOrder cmp) where
  -- ---- the order

  pub above_is : (x y : X) → is_gt (cmp x y) ≡ is_lt (cmp y x)
  above_is x y = ap is_gt (o.antisymm x y) ∙ reversed_gt (cmp y x)

  -- what is below one that is not above another is below that
  pub below_through : (x y z : X) → is_lt (cmp x y) ≡ true → is_gt (cmp y z) ≡ false → is_lt (cmp x z) ≡ true
  below_through x y z below up = grind arith

  pub not_above_back : (x y : X) → is_gt (cmp x y) ≡ true → is_gt (cmp y x) ≡ false
  not_above_back x y e = above_is y x ∙ above_not_below (cmp x y) e

  -- ---- rising lists

  -- a list of which none is below x, and the other way round
  pub least_from_none : (x : X) (xs : List X) → count_by (λ y. is_gt (cmp x y)) xs ≡ 0 → IsLeast o x xs
  least_from_none x [] none = tt
  least_from_none x (y ∷ ys) none = grind (arith, least_from_none x ys, count-cons (λ z. is_gt (cmp x z)) y ys, not_one (is_gt (cmp x y)), arith)

  pub none_from_least : (x : X) (xs : List X) → IsLeast o x xs → count_by (λ y. is_gt (cmp x y)) xs ≡ 0
  none_from_least x [] least = refl
  none_from_least x (y ∷ ys) least = omega (arith, count-cons (λ z. is_gt (cmp x z)) y ys, one_not (is_gt (cmp x y)) least.0, none_from_least x ys least.1)

  least_filter : (p : X → Bool) (x : X) (xs : List X) → IsLeast o x xs → IsLeast o x (filter p xs)
  least_filter p x [] least = tt
  least_filter p x (y ∷ ys) least = grind (arith, least_filter p x ys least.1)

  pub rising_filter : (p : X → Bool) (xs : List X) → IsRising o xs → IsRising o (filter p xs)
  rising_filter p [] up = tt
  rising_filter p (x ∷ xs) up = grind (arith, rising_filter p xs up.1, Bool, IsRising o (filter p xs), filter p xs, IsRising, cond, true, least_filter p x xs up.0, false)

  pub rising_drop : (n : ℕ) (xs : List X) → IsRising o xs → IsRising o (drop n xs)
  rising_drop zero xs up = up
  rising_drop (suc n) [] up = tt
  rising_drop (suc n) (x ∷ xs) up = rising_drop n xs up.1

  sorted_at : (xs : List X) → IsRising o xs → (k : ℕ) (d : X) → k + 1 < length xs → is_lt (cmp (get_or xs (k + 1) d) (get_or xs k d)) ≡ false
  sorted_at [] up k d h = absurd (omega arith)
  sorted_at (x ∷ []) up k d h = absurd (omega arith)
  sorted_at (x ∷ y ∷ ys) up zero d h = sym (above_is x y) ∙ up.0.0
  sorted_at (x ∷ y ∷ ys) up (suc k) d h = grind (arith, sorted_at (y ∷ ys) up.1 k d (omega arith))

  pub sorted_from_rising : (xs : List X) → IsRising o xs → IsSorted cmp xs
  sorted_from_rising xs up = λ k d low within. sorted_at xs up k d within

  -- ---- lists in order

  inserted_counts : (p : X → Bool) (x : X) (ys : List X) → count_by p (inserted cmp x ys) ≡ count_by p (x ∷ ys)
  unfolding inserted
  inserted_counts p x [] = refl
  inserted_counts p x (y ∷ ys) = by_test (is_gt (cmp x y)) (inserted_counts p x ys) where
    by_test : (b : Bool) → count_by p (inserted cmp x ys) ≡ count_by p (x ∷ ys) → count_by p (if b then y ∷ inserted cmp x ys else x ∷ y ∷ ys) ≡ count_by p (x ∷ y ∷ ys)
    by_test true rest = omega (arith, count-cons p y (inserted cmp x ys), rest, count-cons p x ys, count-cons p x (y ∷ ys), count-cons p y ys)
    by_test false rest = refl

  ordered_counts : (p : X → Bool) (xs : List X) → count_by p (ordered cmp xs) ≡ count_by p xs
  unfolding ordered
  ordered_counts p [] = refl
  ordered_counts p (x ∷ xs) = omega (arith, inserted_counts p x (ordered cmp xs), count-cons p x (ordered cmp xs), ordered_counts p xs, count-cons p x xs)

  pub ordered_items : (xs : List X) → SameItems (ordered cmp xs) xs
  ordered_items xs = record { counts = λ p. ordered_counts p xs }

  module _ (same : (x y : X) → cmp x y ≡ Equal → x ≡ y) where
    abbrev tied : X → X → Bool
    tied x y = ties (λ a b. is_lt (cmp a b)) x y

    tied_same : (x y : X) → tied x y ≡ true → y ≡ x
    tied_same x y e = sym (same x y (tie_is (cmp x y) (ap (λ r. not (is_lt (cmp x y)) && not (is_lt r)) (sym (o.antisymm y x)) ∙ e)))

    -- those that tie with x are so many of x
    tied_are : (x : X) (ys : List X) → filter (tied x) ys ≡ replicate (count_by (tied x) ys) x
    tied_are x [] = refl
    tied_are x (y ∷ ys) = by_test (tied x y) refl (tied_are x ys) where
      by_test : (b : Bool) → tied x y ≡ b → filter (tied x) ys ≡ replicate (count_by (tied x) ys) x → cond b (y ∷ filter (tied x) ys) (filter (tied x) ys) ≡ replicate (count_by (tied x) (y ∷ ys)) x
      by_test true e rest =
          let size : count_by (tied x) (y ∷ ys) ≡ suc (count_by (tied x) ys) = omega (arith, count-cons (tied x) y ys, one_is (tied x y) e) in
          ap (λ z. z ∷ filter (tied x) ys) (tied_same x y e) ∙ ap (λ zs. x ∷ zs) rest ∙ ap (λ n. replicate n x) (sym size)
      by_test false e rest =
          let size : count_by (tied x) (y ∷ ys) ≡ count_by (tied x) ys = omega (arith, count-cons (tied x) y ys, one_not (tied x y) e) in
          rest ∙ ap (λ n. replicate n x) (sym size)

    tied_alike : (xs ys : List X) → SameItems xs ys → (z : X) → filter (tied z) xs ≡ filter (tied z) ys
    tied_alike xs ys items z = tied_are z xs ∙ ap (λ n. replicate n z) (items.counts (tied z)) ∙ sym (tied_are z ys)

    -- a rising list with the items of another is that one in order
    pub ordered_only : (xs ys : List X) → SameItems xs ys → IsRising o ys → ys ≡ ordered cmp xs
    ordered_only xs ys items up =
        rising_only o ys (ordered cmp xs) up (rising_ordered o xs)
        (tied_alike ys (ordered cmp xs) (same_on ys xs (ordered cmp xs) (same_back xs ys items) (same_back (ordered cmp xs) xs (ordered_items xs))))

    pub ordered_same : (xs ys : List X) → SameItems xs ys → ordered cmp xs ≡ ordered cmp ys
    ordered_same xs ys items = ordered_only ys (ordered cmp xs) (same_on ys xs (ordered cmp xs) (same_back xs ys items) (same_back (ordered cmp xs) xs (ordered_items xs))) (rising_ordered o xs)

    -- what a sort gives is the list in order
    pub sorted_is : (xs ys : List X) → IsPermutation xs ys → IsSorted cmp ys → ys ≡ ordered cmp xs
    sorted_is xs ys moved up = ordered_only xs ys (permuted xs ys moved) (rising_from_sorted o ys up)

    -- one that none goes before is the first
    pub ordered_front : (x : X) (xs : List X) → count_by (λ y. is_gt (cmp x y)) xs ≡ 0 → ordered cmp (x ∷ xs) ≡ x ∷ ordered cmp xs
    ordered_front x xs none =
        sym (ordered_only (x ∷ xs) (x ∷ ordered cmp xs) (same_cons x xs (ordered cmp xs) (same_back (ordered cmp xs) xs (ordered_items xs)))
        (least_from_none x (ordered cmp xs) (ordered_counts (λ y. is_gt (cmp x y)) xs ∙ none), rising_ordered o xs))
