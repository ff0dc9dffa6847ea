-- Rows of which no two have one key, and what a sort makes of them.
use Rattle.std.proofs.Common.{◌≡◌, ℕ, zero, suc, ◌+◌, ◌<◌, ◌≤◌, true, false, List, [], ◌∷◌, map, count_by, slice_get, Some, get_or, refl, sym, ap, subst, ◌∙◌, arith, Less, Equal, Greater}
use Rattle.std.specs.Prelude.{IsPermutation}
use Rattle.std.specs.Cmp.{IsTotalOrder}
use Rattle.std.specs.Cmp.Lexicographic.{same_text}
use Rattle.std.specs.List.Sorted.{IsSortedBy}
use Rattle.std.specs.Ordering.{nat_cmp, is_eq, is_lt, ordering_reverse}
use Rattle.std.specs.declared.cmp.Ordering.{Ordering}
use Rattle.std.proofs.lemmas.Cmp.{tied_itself, nat_cmp_total, on_total, then_total}
use Rattle.std.proofs.lemmas.Bool.{and_parts}
use Rattle.std.proofs.lemmas.Bool.Decides.{nat_tests}
use Rattle.std.proofs.lemmas.List.Sorted.{ranks_by, sorted_far, sum_by-IsPermutation}
use Rattle.std.proofs.lemmas.Map.Text.{is_eq-slice_cmp}
use Rattle.std.proofs.lemmas.Option.{none-some, same_Some, slice_get_within, get_or_from_slice_get}
use Rattle.order.proofs.Counts.{one, one_is, count-cons, count-map}
use Rattle.order.proofs.Lists.{equal_then}
use Rattle.sched_load_defs.proofs.Listing.{listed-permutation}
use Rattle.sched_load_defs.specs.Frequencies.{start_cmp}
use Rattle.freq_parts.specs.Differ.{Differ, IsListed, text_cmp}

module _ {K R : Type 0} {order : K → K → Ordering} (o : IsTotalOrder order) (same : (x y : K) → order x y ≡ Equal → x ≡ y) (key : R → K) where
  -- a row that has a key counts
  counted : (wanted : K) (rows : List R) (i : ℕ) (x : R) → slice_get rows i ≡ Some x → is_eq (order wanted (key x)) ≡ true → 1 ≤ count_by (λ row. is_eq (order wanted (key row))) rows
  counted wanted [] i x at e = absurd (none-some x at)
  counted wanted (y ∷ ys) zero x at e =
      omega (arith, count-cons (λ row. is_eq (order wanted (key row))) y ys, one_is (is_eq (order wanted (key y))) (ap (λ row. is_eq (order wanted (key row))) (same_Some y x at) ∙ e))
  counted wanted (y ∷ ys) (suc i) x at e = omega (arith, count-cons (λ row. is_eq (order wanted (key row))) y ys, counted wanted ys i x at e)

  -- two count as two
  counted_two : (wanted : K) (rows : List R) (i j : ℕ) (x y : R) → i < j → slice_get rows i ≡ Some x → slice_get rows j ≡ Some y → is_eq (order wanted (key x)) ≡ true → is_eq (order wanted (key y)) ≡ true
      → 2 ≤ count_by (λ row. is_eq (order wanted (key row))) rows
  counted_two wanted [] i j x y l at then e f = absurd (none-some x at)
  counted_two wanted (z ∷ zs) i zero x y l at then e f = absurd (omega (arith, l))
  counted_two wanted (z ∷ zs) zero (suc j) x y l at then e f =
      omega (
        arith,
        count-cons (λ row. is_eq (order wanted (key row))) z zs,
        one_is (is_eq (order wanted (key z))) (ap (λ row. is_eq (order wanted (key row))) (same_Some z x at) ∙ e),
        counted wanted zs j y then f,
      )
  counted_two wanted (z ∷ zs) (suc i) (suc j) x y l at then e f =
      omega (arith, count-cons (λ row. is_eq (order wanted (key row))) z zs, counted_two wanted zs i j x y (omega (arith, l)) at then e f)

  less_is_lt : false ≡ true → ⊥
  less_is_lt e = cc

  -- where no two have one key, rows in order rise
  rises : (rows : List R) → Differ order key rows → IsSortedBy (λ a b. is_lt (order (key a) (key b))) rows → (i j : ℕ) (x y : R) → i < j → slice_get rows i ≡ Some x → slice_get rows j ≡ Some y → order (key x) (key y) ≡ Less
  rises rows differ up i j x y l at then = by (order (key x) (key y)) refl
    where
      by : (r : Ordering) → order (key x) (key y) ≡ r → order (key x) (key y) ≡ Less
      by Less e = e
      by Equal e =
          absurd (omega (
            arith,
            differ.once (key x),
            counted_two (key x) rows i j x y l at then (ap is_eq (tied_itself o (key x))) (ap is_eq e),
          ))
      by Greater e =
          let far = sorted_far (λ a b. is_lt (order (key a) (key b))) (ranks_by o key) rows up i j x (omega (arith, l)) (slice_get_within rows j y then) in
          let here : is_lt (order (key y) (key x)) ≡ false =
          ap (λ r. is_lt (order (key r) (key x))) (sym (get_or_from_slice_get rows j y x then))
          ∙ ap (λ r. is_lt (order (key (get_or rows j x)) (key r))) (sym (get_or_from_slice_get rows i x x at))
          ∙ far in
          absurd (less_is_lt (sym here ∙ ap is_lt (o.antisymm (key y) (key x) ∙ ap ordering_reverse e)))

  permuted : (rows listed : List R) → IsPermutation rows listed → Differ order key rows → Differ order key listed
  permuted rows listed p differ = record {
    once = λ wanted. omega (arith, differ.once wanted, sum_by-IsPermutation (λ row. one (is_eq (order wanted (key row)))) rows listed p);
  }

  -- what a sort makes of rows with keys that differ
  pub sorted_is : (rows listed : List R) → Differ order key rows → IsPermutation rows listed → IsSortedBy (λ a b. is_lt (order (key a) (key b))) listed → IsListed order key rows listed
  sorted_is rows listed differ p up =
      let rise = rises listed (permuted rows listed p differ) up in
      record {
        is = listed-permutation order o same key rows listed p (record { rise = rise });
        same = p;
        rise = rise;
      }

-- rows that are made of others have the keys of these
pub differ_of : {K A R : Type 0} (order : K → K → Ordering) (own : A → K) (key : R → K) (f : A → R) (xs : List A) → ((x : A) → key (f x) ≡ own x) → Differ order own xs → Differ order key (map f xs)
differ_of {K = K} {A = A} order own key f xs is differ = record {
  once = λ wanted.
      subst (λ n. n ≤ 1)
      (sym (count-map (λ row. is_eq (order wanted (key row))) f xs ∙ counts wanted xs))
      (differ.once wanted);
}
  where
    counts : (wanted : K) (ys : List A) → count_by (λ y. is_eq (order wanted (key (f y)))) ys ≡ count_by (λ y. is_eq (order wanted (own y))) ys
    counts wanted [] = refl
    counts wanted (y ∷ ys) =
        count-cons (λ z. is_eq (order wanted (key (f z)))) y ys
        ∙ ap (λ k. one (is_eq (order wanted k)) + count_by (λ z. is_eq (order wanted (key (f z)))) ys) (is y)
        ∙ ap (λ n. one (is_eq (order wanted (own y))) + n) (counts wanted ys)
        ∙ sym (count-cons (λ z. is_eq (order wanted (own z))) y ys)

-- texts that tie are one, and so are starts
pub text_same : (x y : List ℕ) → text_cmp x y ≡ Equal → x ≡ y
text_same x y e = same_text x y (sym (sym (is_eq-slice_cmp x y) ∙ ap is_eq e))

pub start_total : IsTotalOrder start_cmp
start_total = then_total (on_total (λ (key : ℕ × ℕ). key.0) nat_cmp_total) (on_total (λ (key : ℕ × ℕ). key.1) nat_cmp_total)

number_same : (a b : ℕ) → is_eq (nat_cmp a b) ≡ true → a ≡ b
number_same a b e = grind (arith, nat_tests)

pub start_same : (x y : ℕ × ℕ) → start_cmp x y ≡ Equal → x ≡ y
start_same (a, b) (c, d) e =
    let both = and_parts (is_eq (nat_cmp a c)) (is_eq (nat_cmp b d)) (sym (equal_then (nat_cmp a c) (nat_cmp b d)) ∙ ap is_eq e) in
    ap (λ n. (n, b)) (number_same a c both.0) ∙ ap (λ n. (c, n)) (number_same b d both.1)
