-- Laws of lists in order: a stable sort gives the list that insertion gives, and the greatest of one item more.
use Rattle.std.proofs.Common.{◌≡◌, ℕ, zero, suc, ◌+◌, Bool, true, false, not, ◌&&◌, cond, List, [], ◌∷◌, ◌++◌, filter, take, refl, sym, ap, subst, ◌∙◌, Equal, arith}
use Rattle.std.specs.Prelude.{if◌then◌else◌, None}
use Rattle.std.specs.Cmp.{IsTotalOrder}
use Rattle.std.specs.List.{AllByRecursion}
use Rattle.std.specs.List.Sorted.{IsSorted, IsStable, ties}
use Rattle.std.specs.Ordering.{is_gt, is_lt, ordering_reverse}
use Rattle.std.specs.declared.cmp.Ordering.{Ordering}
use Rattle.std.proofs.lemmas.Cmp.{upto, tied_itself, tied_back}
use Rattle.std.proofs.lemmas.List.Sums.{fold-append}
use Rattle.order.specs.Order.{inserted, ordered, greater, greatest}

-- ---- what an Ordering says

reversed_gt : (o : Ordering) → is_gt (ordering_reverse o) ≡ is_lt o
reversed_gt o = grind arith

neither_is_equal : (o : Ordering) → is_gt o ≡ false → is_lt o ≡ false → o ≡ Equal
neither_is_equal o a b = grind arith

module _ {X : Type 0} {cmp : X → X → Ordering} (o : IsTotalOrder cmp) where
  -- x is above y just where y is below x
  gt_is : (x y : X) → is_gt (cmp x y) ≡ is_lt (cmp y x)
  gt_is x y = ap is_gt (o.antisymm x y) ∙ reversed_gt (cmp y x)

  -- x ties with y
  abbrev tied : X → X → Bool
  tied x y = ties (λ a b. is_lt (cmp a b)) x y

  not_both : (a b : Bool) → (not a && not b) ≡ true → (a ≡ false) × (b ≡ false)
  not_both a b e = grind arith

  equal_tied : (x y : X) → cmp x y ≡ Equal → tied x y ≡ true
  equal_tied x y e = rw (e, tied_back o x y e) refl

  tied_self : (x : X) → tied x x ≡ true
  tied_self x = equal_tied x x (tied_itself o x)

  -- ---- rising lists

  -- x is not above any of the list
  abbrev pub IsLeast : X → List X → Type 0
  IsLeast x xs = AllByRecursion (λ y. is_gt (cmp x y) ≡ false) xs

  -- none is above a later one
  abbrev pub IsRising : List X → Type 0
  IsRising [] = Unit {0}
  IsRising (x ∷ xs) = IsLeast x xs × IsRising xs

  least_through : (x y : X) (ys : List X) → is_gt (cmp x y) ≡ false → IsLeast y ys → IsLeast x ys
  least_through x y [] h least = tt
  least_through x y (z ∷ zs) h least = (upto o x y z h least.0, least_through x y zs h least.1)

  sorted_tail : (x : X) (xs : List X) → IsSorted cmp (x ∷ xs) → IsSorted cmp xs
  sorted_tail x xs sorted = λ k d h l.
      let e : suc k + 1 ≡ suc (k + 1) = omega arith in
      rw e at (sorted (suc k) d (omega arith) (omega arith))

  -- a sorted list rises
  pub rising_from_sorted : (xs : List X) → IsSorted cmp xs → IsRising xs
  rising_from_sorted [] sorted = tt
  rising_from_sorted (x ∷ []) sorted = (tt, tt)
  rising_from_sorted (x ∷ y ∷ ys) sorted =
      let rest = rising_from_sorted (y ∷ ys) (sorted_tail x (y ∷ ys) sorted) in
      let first : is_gt (cmp x y) ≡ false = gt_is x y ∙ sorted 0 x (omega arith) (omega arith) in
      ((first, least_through x y ys first rest.0), rest)

  pub rising_take : (n : ℕ) (xs : List X) → IsRising xs → IsRising (take n xs)
  rising_take zero xs rising = tt
  rising_take (suc n) [] rising = tt
  rising_take (suc n) (x ∷ xs) rising = (least_take n xs rising.0, rising_take n xs rising.1) where
    least_take : (n : ℕ) (xs : List X) → IsLeast x xs → IsLeast x (take n xs)
    least_take zero xs least = tt
    least_take (suc n) [] least = tt
    least_take (suc n) (y ∷ ys) least = (least.0, least_take n ys least.1)

  -- ---- two rising lists with the same ties are one list

  of_filtered : (P : X → Type 0) (p : X → Bool) (ys : List X) (x : X) (rest : List X) → AllByRecursion P ys → filter p ys ≡ x ∷ rest → P x
  of_filtered P p [] x rest all e = cc
  of_filtered P p (y ∷ ys) x rest all e = by_test (p y) e (of_filtered P p ys x rest all.1) where
    by_test : (b : Bool) → cond b (y ∷ filter p ys) (filter p ys) ≡ x ∷ rest → (filter p ys ≡ x ∷ rest → P x) → P x
    by_test true at later = let same : y ≡ x = cc in subst P same all.0
    by_test false at later = later at

  -- the filter of a list whose first passes
  first_kept : (p : X → Bool) (x : X) (xs : List X) → p x ≡ true → filter p (x ∷ xs) ≡ x ∷ filter p xs
  first_kept p x xs e = ap (λ b. cond b (x ∷ filter p xs) (filter p xs)) e

  -- the first of one list is not above the first of the other
  first_not_above : (x y : X) (xs ys : List X) → IsLeast y ys → filter (tied x) (x ∷ xs) ≡ filter (tied x) (y ∷ ys) → is_gt (cmp y x) ≡ false
  first_not_above x y xs ys least same = grind (arith, ap, false, filter, first_kept, of_filtered, sym, tied_itself, tied_self)

  same_rest : (p : X → Bool) (x : X) (xs ys : List X) → filter p (x ∷ xs) ≡ filter p (x ∷ ys) → filter p xs ≡ filter p ys
  same_rest p x xs ys e = grind arith

  none_left : (y : X) (ys : List X) → [] ≡ filter (tied y) (y ∷ ys) → ⊥
  none_left y ys e = let at = e ∙ first_kept (tied y) y ys (tied_self y) in cc

  -- two rising lists, of which those that tie with any item stand alike
  pub rising_only : (xs ys : List X) → IsRising xs → IsRising ys → ((z : X) → filter (tied z) xs ≡ filter (tied z) ys) → xs ≡ ys
  rising_only [] [] up upper same = refl
  rising_only [] (y ∷ ys) up upper same = absurd (none_left y ys (same y))
  rising_only (x ∷ xs) [] up upper same = absurd (none_left x xs (sym (same x)))
  rising_only (x ∷ xs) (y ∷ ys) up upper same =
      let below = first_not_above x y xs ys upper.0 (same x) in
      let above = first_not_above y x ys xs up.0 (sym (same y)) in
      let tie : cmp x y ≡ Equal = neither_is_equal (cmp x y) above (sym (gt_is y x) ∙ below) in
      let at : x ∷ filter (tied x) xs ≡ y ∷ filter (tied x) ys =
      sym (first_kept (tied x) x xs (tied_self x)) ∙ same x ∙ first_kept (tied x) y ys (equal_tied x y tie) in
      let one : x ≡ y = cc in
      let rest = rising_only xs ys up.1 upper.1 (λ z. same_rest (tied z) x xs ys (same z ∙ ap (λ w. filter (tied z) (w ∷ ys)) (sym one))) in
      cc

  -- ---- what insertion keeps

  least_inserted : (z x : X) (ys : List X) → is_gt (cmp z x) ≡ false → IsLeast z ys → IsLeast z (inserted cmp x ys)
  unfolding inserted
  least_inserted z x [] h least = (h, tt)
  least_inserted z x (y ∷ ys) h least = grind (arith, least_inserted z x ys h least.1)

  not_above_back : (x y : X) → is_gt (cmp x y) ≡ true → is_gt (cmp y x) ≡ false
  not_above_back x y e = grind arith

  rising_inserted : (x : X) (ys : List X) → IsRising ys → IsRising (inserted cmp x ys)
  unfolding inserted
  rising_inserted x [] up = (tt, tt)
  rising_inserted x (y ∷ ys) up = by_test (is_gt (cmp x y)) refl (rising_inserted x ys up.1) where
    by_test : (b : Bool) → is_gt (cmp x y) ≡ b → IsRising (inserted cmp x ys) → IsRising (if b then y ∷ inserted cmp x ys else x ∷ y ∷ ys)
    by_test true e rest = (least_inserted y x ys (not_above_back x y e) up.0, rest)
    by_test false e rest = ((e, least_through x y ys e up.0), up)

  -- an ordered list rises: none is above a later one
  pub rising_ordered : (xs : List X) → IsRising (ordered cmp xs)
  unfolding ordered
  rising_ordered [] = tt
  rising_ordered (x ∷ xs) = rising_inserted x (ordered cmp xs) (rising_ordered xs)

  -- one that is above another does not tie with what that ties with
  apart : (z x y : X) → is_gt (cmp x y) ≡ true → tied z y ≡ true → tied z x ≡ false
  apart z x y e ties_y = grind arith

  kept_inserted : (z x : X) (ys : List X) → filter (tied z) (inserted cmp x ys) ≡ filter (tied z) (x ∷ ys)
  unfolding inserted
  kept_inserted z x [] = refl
  kept_inserted z x (y ∷ ys) = grind (arith, kept_inserted z x ys)

  -- those that tie stand in an ordered list as they stood
  pub kept_ordered : (z : X) (xs : List X) → filter (tied z) (ordered cmp xs) ≡ filter (tied z) xs
  unfolding ordered
  kept_ordered z [] = refl
  kept_ordered z (x ∷ xs) =
      kept_inserted z x (ordered cmp xs)
      ∙ ap (λ rest. cond (tied z x) (x ∷ rest) rest) (kept_ordered z xs)

  -- what a stable sort gives of a list is the list in order
  pub stable_is_ordered : (xs ys : List X) → IsSorted cmp ys → IsStable cmp xs ys → ys ≡ ordered cmp xs
  stable_is_ordered xs ys sorted stable =
      rising_only ys (ordered cmp xs) (rising_from_sorted ys sorted) (rising_ordered xs)
      (λ z. stable z ∙ sym (kept_ordered z xs))

-- the greatest of some items and one item more
pub greatest-push : {X : Type 0} (cmp : X → X → Ordering) (xs : List X) (x : X) → greatest cmp (xs ++ x ∷ []) ≡ greater cmp (greatest cmp xs) x
greatest-push cmp xs x = fold-append (greater cmp) None xs (x ∷ [])
