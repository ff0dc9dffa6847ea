-- A list in order of a key: where those with one key stand, and that a stable sort keeps their order.
use Rattle.std.proofs.Common.{◌≡◌, ℕ, zero, suc, ◌+◌, ◌-◌, ◌<◌, ◌≤◌, Bool, true, false, not, nat_eq, ◌&&◌, Option, Some, List, [], ◌∷◌, length, filter, get_or, take, drop, refl, sym, ap, subst, ◌∙◌, Equal, arith}
use Rattle.std.specs.Cmp.{IsTotalOrder}
use Rattle.std.specs.List.Sorted.{IsNonDecreasingBy, IsPartitionPoint, IsPartitionedBy, IsSortedByKey, IsStableByKey, ties}
use Rattle.std.specs.Option.{option_cmp}
use Rattle.std.specs.Ordering.{nat_cmp, is_lt, is_le, is_eq, ordering_index, ordering_reverse}
use Rattle.std.specs.declared.cmp.Ordering.{Ordering}
use Rattle.std.proofs.lemmas.Bool.Decides.{nat_tests}
use Rattle.std.proofs.lemmas.Cmp.{nat_cmp_total, on_total, then_total}
use Rattle.std.proofs.lemmas.List.{get_or-drop, length-drop, take_all, drop_all}
use Rattle.std.proofs.lemmas.List.Sorted.{searchable_from_sorted, IsNonDecreasingBy-drop}
use Rattle.sched_types.specs.declared.departures.Departure.{Departure}
use Rattle.std.specs.List.{range_with_len}
use Rattle.sched_types.specs.declared.rows.Trip.{Trip}
use Rattle.sched_types.specs.declared.rows.Place.{Place}
use Rattle.order.proofs.Lists.{equal_then, filter_same}
use Rattle.sched_types.specs.Departures.{AreInOrder, is_departure, departure_of, leaves_so, departure_cmp}

-- ---- the order of departures

departure_total : IsTotalOrder departure_cmp
departure_total = then_total (on_total (λ d. d.route) nat_cmp_total) (then_total (on_total (λ d. d.direction) nat_cmp_total) (on_total (λ d. d.seconds) nat_cmp_total))

option_total : {K : Type 0} {R : K → K → Ordering} → IsTotalOrder R → IsTotalOrder (option_cmp R)
option_total o = grind (arith, Option)

pub departures_total : IsTotalOrder (option_cmp departure_cmp)
departures_total = option_total departure_total

equal_number : (a b : ℕ) → nat_eq a b ≡ is_eq (nat_cmp a b)
equal_number a b = grind (arith, nat_tests)

and_last : (a b c : Bool) → (a && b && c) ≡ (a && (b && c))
and_last a b c = grind arith

-- a departure is the wanted one where it compares as Equal
pub wanted_is : (wanted : Departure) (d : Option Departure) → is_departure wanted d ≡ is_eq (option_cmp departure_cmp d (Some wanted))
wanted_is wanted d = grind (arith, and_last, equal_number, equal_then, nat_tests)

-- ---- filters

first_passes : {X : Type 0} (p : X → Bool) (xs : List X) (y : X) (ys : List X) → filter p xs ≡ y ∷ ys → p y ≡ true
first_passes p [] y ys e = cc
first_passes p (x ∷ xs) y ys e = grind (arith, first_passes p xs y ys, Bool)

-- the elements from a place on that pass, where no others do
pub filter_between : {X : Type 0} (p : X → Bool) (xs : List X) (first count : ℕ) → ((k : ℕ) (d : X) → k < first → k < length xs → p (get_or xs k d) ≡ false)
    → ((k : ℕ) (d : X) → first ≤ k → k < first + count → k < length xs → p (get_or xs k d) ≡ true) → ((k : ℕ) (d : X) → first + count ≤ k → k < length xs → p (get_or xs k d) ≡ false)
    → take count (drop first xs) ≡ filter p xs
filter_between p [] first count before within behind = ap (take count) (drop_all first [] (omega arith)) ∙ take_all count [] (omega arith)
filter_between p (x ∷ xs) (suc first) count before within behind =
    rw (before zero x (omega arith) (omega arith))
    (filter_between p xs first count (λ k d h l. before (suc k) d (omega arith) (omega arith)) (λ k d h m l. within (suc k) d (omega arith) (omega arith) (omega arith)) (λ k d h l. behind (suc k) d (omega arith) (omega arith)))
filter_between p (x ∷ xs) zero (suc count) before within behind =
    rw (within zero x (omega arith) (omega arith) (omega arith))
    (ap (λ rest. x ∷ rest) (filter_between p xs zero count (λ k d h l. absurd (omega arith)) (λ k d h m l. within (suc k) d (omega arith) (omega arith) (omega arith)) (λ k d h l. behind (suc k) d (omega arith) (omega arith))))
filter_between p (x ∷ xs) zero zero before within behind =
    rw (behind zero x (omega arith) (omega arith))
    (filter_between p xs zero zero (λ k d h l. absurd (omega arith)) (λ k d h m l. absurd (omega arith)) (λ k d h l. behind (suc k) d (omega arith) (omega arith)))

-- ---- tests of an Ordering

less_not_equal : (o : Ordering) → is_lt o ≡ true → is_eq o ≡ false
less_not_equal o e = grind arith

up_to_is_equal : (o : Ordering) → is_lt o ≡ false → is_le o ≡ true → is_eq o ≡ true
up_to_is_equal o a b = grind arith

above_not_equal : (o : Ordering) → is_le o ≡ false → is_eq o ≡ false
above_not_equal o e = grind arith

less_below : (o u : Ordering) → ordering_index o ≤ ordering_index u → is_lt u ≡ true → is_lt o ≡ true
less_below o u h e = grind arith

up_to_below : (o u : Ordering) → ordering_index o ≤ ordering_index u → is_le u ≡ true → is_le o ≡ true
up_to_below o u h e = grind arith

neither_is_equal : (o : Ordering) → (not (is_lt (ordering_reverse o)) && not (is_lt o)) ≡ is_eq o
neither_is_equal o = grind arith

back_again : (o : Ordering) → ordering_reverse (ordering_reverse o) ≡ o
back_again o = grind arith

is_equal : (o : Ordering) → is_eq o ≡ true → o ≡ Equal
is_equal o e = grind arith

-- ---- a key's place in an order

module _ {X K : Type 0} (R : K → K → Ordering) (total : IsTotalOrder R) (key : X → K) (wanted : K) where
  abbrev pub has : X → Bool
  has x = is_eq (R (key x) wanted)

  tied : (x : X) → has x ≡ true → (y : X) → ties (λ a b. is_lt (R (key a) (key b))) x y ≡ has y
  tied x e y = grind (arith, back_again, is_equal, neither_is_equal)

  -- a stable sort keeps the order of those with one key
  pub kept : (xs ys : List X) → IsStableByKey key R xs ys → filter has ys ≡ filter has xs
  kept xs ys stable = by_lists (filter has xs) (filter has ys) refl refl where
    by_one : (x : X) → has x ≡ true → filter has ys ≡ filter has xs
    by_one x e = sym (filter_same (ties (λ a b. is_lt (R (key a) (key b))) x) has ys (tied x e)) ∙ stable x ∙ filter_same (ties (λ a b. is_lt (R (key a) (key b))) x) has xs (tied x e)

    by_lists : (us vs : List X) → filter has xs ≡ us → filter has ys ≡ vs → filter has ys ≡ filter has xs
    by_lists [] [] p q = q ∙ sym p
    by_lists (u ∷ us) vs p q = by_one u (first_passes has xs u us p)
    by_lists [] (v ∷ vs) p q = by_one v (first_passes has ys v vs q)

  module _ (order : List X) (sorted : IsSortedByKey key R order) where
    rising : IsNonDecreasingBy (λ x. ordering_index (R (key x) wanted)) order
    rising = searchable_from_sorted total key order wanted sorted

    pub below_first : IsPartitionedBy (λ x. is_lt (R (key x) wanted)) order
    below_first i j d h within = less_below (R (key (get_or order i d)) wanted) (R (key (get_or order j d)) wanted) (rising i j d h within)

    pub up_to_last : (first : ℕ) (rest : List X) → rest ≡ drop first order → IsPartitionedBy (λ x. is_le (R (key x) wanted)) rest
    up_to_last first rest whole =
        subst (λ (xs : List X). IsPartitionedBy (λ x. is_le (R (key x) wanted)) xs) (sym whole)
        (λ i j d h within. up_to_below (R (key (get_or (drop first order) i d)) wanted) (R (key (get_or (drop first order) j d)) wanted)
        (IsNonDecreasingBy-drop (λ x. ordering_index (R (key x) wanted)) first order rising i j d h within))

    -- those with one key stand together
    pub between : (first count : ℕ) → first ≤ length order → IsPartitionPoint (λ x. is_lt (R (key x) wanted) ≡ true) (λ x. is_lt (R (key x) wanted) ≡ false) order first
        → IsPartitionPoint (λ x. is_le (R (key x) wanted) ≡ true) (λ x. is_le (R (key x) wanted) ≡ false) (drop first order) count → take count (drop first order) ≡ filter has order
    between first count inside low high =
        filter_between has order first count
        (λ k d h l. less_not_equal (R (key (get_or order k d)) wanted) (low.0 k d (omega arith) h))
        (λ k d h m l. let at : first + (k - first) ≡ k = omega arith in
        let same : get_or (drop first order) (k - first) d ≡ get_or order k d = get_or-drop first order (k - first) d ∙ ap (λ i. get_or order i d) at in
        up_to_is_equal (R (key (get_or order k d)) wanted) (low.1 k d h l)
        (ap (λ x. is_le (R (key x) wanted)) (sym same) ∙ high.0 (k - first) d (omega arith) (omega arith)))
        (λ k d h l. let at : first + (k - first) ≡ k = omega arith in
        let same : get_or (drop first order) (k - first) d ≡ get_or order k d = get_or-drop first order (k - first) d ∙ ap (λ i. get_or order i d) at in
        above_not_equal (R (key (get_or order k d)) wanted)
        (ap (λ x. is_le (R (key x) wanted)) (sym same) ∙ high.1 (k - first) d (omega arith) (omega (arith, length-drop first order))))

    pub between_in : (first count : ℕ) (rest : List X) → rest ≡ drop first order → first ≤ length order → IsPartitionPoint (λ x. is_lt (R (key x) wanted) ≡ true) (λ x. is_lt (R (key x) wanted) ≡ false) order first
        → IsPartitionPoint (λ x. is_le (R (key x) wanted) ≡ true) (λ x. is_le (R (key x) wanted) ≡ false) rest count → take count rest ≡ filter has order
    between_in first count rest whole inside low high = grind (arith, between)

-- a stable sort of the numbers of all trips by their departures puts them in order
pub put_in_order : (trips : List Trip) (places : List (List Place)) (numbers order : List ℕ) → numbers ≡ range_with_len 0 (length trips)
    → IsSortedByKey (departure_of trips places) (option_cmp departure_cmp) order → IsStableByKey (departure_of trips places) (option_cmp departure_cmp) numbers order → AreInOrder trips places order
put_in_order trips places numbers order all sorted stable = record {
  sorted = sorted;
  same =
      λ wanted. filter_same (leaves_so trips places wanted) (has (option_cmp departure_cmp) departures_total (departure_of trips places) (Some wanted)) order (λ trip. wanted_is wanted (departure_of trips places trip))
      ∙ kept (option_cmp departure_cmp) departures_total (departure_of trips places) (Some wanted) numbers order stable
      ∙ sym (filter_same (leaves_so trips places wanted) (has (option_cmp departure_cmp) departures_total (departure_of trips places) (Some wanted)) numbers (λ trip. wanted_is wanted (departure_of trips places trip)))
      ∙ ap (filter (leaves_so trips places wanted)) all;
}
