-- Visits that are sorted by their trips are those of the definitions, trip by trip.
use Rattle.std.proofs.Common.{◌≡◌, ℕ, ◌<◌, ◌≤◌, Bool, true, false, ◌&&◌, ◌==◌, cond, List, [], ◌∷◌, length, filter, find, refl, sym, ap, ◌∙◌, subst, arith, inl, inr}
use Rattle.std.specs.Prelude.{slice_get, Some, None, IsPermutation}
use Rattle.std.specs.Bool.{OnTrue}
use Rattle.std.specs.Ordering.{nat_cmp, eq_by_cmp}
use Rattle.std.specs.declared.cmp.Ordering.TheVariants.{Less}
use Rattle.std.specs.FinMap.{nat_cmp-IsAntisymmetric}
use Rattle.std.proofs.lemmas.Bool.{cases_order}
use Rattle.std.proofs.lemmas.Bool.Decides.{nat_tests}
use Rattle.std.proofs.lemmas.Cmp.{nat_cmp_total}
use Rattle.std.proofs.lemmas.List.Sorted.{IsPermutation-trans}
use Rattle.std.proofs.lemmas.Option.{slice_get_within}
use Rattle.sched_load_defs.specs.Numbers.{rows_by_key}
use Rattle.sched_load_defs.proofs.Listing.{Rises, listed-found}
use Rattle.sched_load.specs.declared.visits.Visit.{Visit}
use Rattle.sched_load.specs.Visits.{AreApart, AreArranged, IsSortedStably, IsSortedUnless, Pairs, RisesByTrip, is_twin_visit}
use Rattle.sched_load.proofs.PairLemmas.{filter_swap, filter_twice, find_first, first_in, kept_pairs, none_passes, one_kept, pairs_rise, pairs_weaker, true_false, two_kept}

abbrev pub own_of : ℕ → List Visit → List Visit
own_of trip visits = filter (λ v. v.trip == trip) visits

abbrev at_sequence : ℕ → List Visit → List Visit
at_sequence q visits = filter (λ v. v.sequence == q) visits

is_equal : (a b : ℕ) → (a == b) ≡ true → a ≡ b
is_equal a b e = grind (arith, nat_tests, e)

equal_is : (a b : ℕ) → a ≡ b → (a == b) ≡ true
equal_is a b e = grind (arith, nat_tests, e)

less_cmp : (a b : ℕ) → a < b → nat_cmp a b ≡ Less
less_cmp a b h = grind (arith, nat_tests)

turned : (a b : ℕ) → eq_by_cmp nat_cmp a b ≡ (b == a)
turned a b = grind (arith, nat_tests)

rise_of : (xs : List Visit) → Pairs (λ v w. v.sequence < w.sequence) xs → Rises nat_cmp nat_cmp_total nat_cmp-IsAntisymmetric (λ (v : Visit). v.sequence) xs
rise_of xs h = record { rise = λ i j x y l a b. less_cmp x.sequence y.sequence (h.at i j x y l a b) }

find_alike : (p q : Visit → Bool) (xs : List Visit) → ((x : Visit) → p x ≡ q x) → find p xs ≡ find q xs
find_alike p q [] same = refl
find_alike p q (x ∷ xs) same = ap (λ b. cond b (Some x) (find p xs)) (same x) ∙ ap (cond (q x) (Some x)) (find_alike p q xs same)

-- where the visits of each trip rise already
rising_own : (xs : List Visit) (t : ℕ) → RisesByTrip xs → rows_by_key nat_cmp (λ v. v.sequence) (own_of t xs) ≡ own_of t xs
rising_own xs t h =
    listed-found nat_cmp nat_cmp_total nat_cmp-IsAntisymmetric (λ (v : Visit). v.sequence) (own_of t xs) (own_of t xs) (λ q. refl)
    (rise_of (own_of t xs) (pairs_weaker (λ v w. (v.trip ≡ w.trip → v.sequence < w.sequence) × ((v.trip == t) ≡ true) × ((w.trip == t) ≡ true)) (λ v w. v.sequence < w.sequence) (own_of t xs)
    (λ v w p. p.0 (is_equal v.trip t p.1 ∙ sym (is_equal w.trip t p.2)))
    (kept_pairs (λ v w. v.trip ≡ w.trip → v.sequence < w.sequence) (λ v. v.trip == t) xs h)))

module _ (xs ys : List Visit) (t : ℕ) (apart : AreApart xs (length xs)) (sorted : IsSortedStably (λ (v : Visit). v.sequence) xs ys) where
  visit_at : ℕ → Visit
  visit_at q = record { trip = t; stop = 0; sequence = q; stay = None; pickup = 0 }

  same_at : (q : ℕ) → at_sequence q (own_of t xs) ≡ at_sequence q (own_of t ys)
  unfolding visit_at
  same_at q =
      filter_swap (λ v. v.sequence == q) (λ v. v.trip == t) xs
      ∙ ap (own_of t) (sym (sorted.stable (visit_at q)))
      ∙ filter_swap (λ v. v.trip == t) (λ v. v.sequence == q) ys

  not_both : (v w : Visit) (q : ℕ) → is_twin_visit v w ≡ false → (((v.trip == t) && (v.sequence == q)) && ((w.trip == t) && (w.sequence == q))) ≡ false
  not_both v w q h = grind (arith, equal_is, is_equal, true_false, nat_tests)

  one_at : (q : ℕ) → length (at_sequence q (own_of t xs)) ≤ 1
  one_at q =
      subst (λ zs. length zs ≤ 1) (sym (filter_twice (λ v. v.sequence == q) (λ v. v.trip == t) xs))
      (one_kept (λ (v : Visit). (v.trip == t) && (v.sequence == q)) xs
      (record { at = λ i j v w l a b. not_both v w q (none_passes (λ u. is_twin_visit u w) j xs i v (apart.apart j w (let within = slice_within xs j w b in within) b) l a) }))
    where
      slice_within : (zs : List Visit) (k : ℕ) (z : Visit) → slice_get zs k ≡ Some z → k < length zs
      slice_within zs k z at = slice_get_within zs k z at

  strict : Pairs (λ (v w : Visit). v.sequence < w.sequence) (own_of t ys)
  strict = record {
    at = λ i j v w l a b.
        let le = (kept_pairs (λ (x y : Visit). x.sequence ≤ y.sequence) (λ v. v.trip == t) ys (pairs_rise (λ (x : Visit). x.sequence) ys sorted.sorted)).at i j v w l a b in
        elim (cases_order v.sequence w.sequence) as (λ _. v.sequence < w.sequence) [
          | inl same ↦
              let two = two_kept (λ (x : Visit). x.sequence == v.sequence) (own_of t ys) i j v w l a b (equal_is v.sequence v.sequence refl) (equal_is w.sequence v.sequence (sym same)) in
              let one = subst (λ zs. length zs ≤ 1) (same_at v.sequence) (one_at v.sequence) in
              absurd (omega (arith, two, one))
          | inr other ↦ elim other as (λ _. v.sequence < w.sequence) [
            | inl before ↦ before
            | inr behind ↦ let h = le.0 in absurd (omega (arith, h, behind))
          ]
        ];
  }

  sorted_own : rows_by_key nat_cmp (λ v. v.sequence) (own_of t xs) ≡ own_of t ys
  sorted_own =
      listed-found nat_cmp nat_cmp_total nat_cmp-IsAntisymmetric (λ (v : Visit). v.sequence) (own_of t xs) (own_of t ys)
      (λ q.
      let test = λ (v : Visit). turned q v.sequence in
      find_alike (λ v. eq_by_cmp nat_cmp q v.sequence) (λ v. v.sequence == q) (own_of t xs) test
      ∙ find_first (λ v. v.sequence == q) (own_of t xs) ∙ ap first_in (same_at q) ∙ sym (find_first (λ v. v.sequence == q) (own_of t ys))
      ∙ sym (find_alike (λ v. eq_by_cmp nat_cmp q v.sequence) (λ v. v.sequence == q) (own_of t ys) test))
      (rise_of (own_of t ys) strict)

visit_of_trip : ℕ → Visit
visit_of_trip t = record { trip = t; stop = 0; sequence = 0; stay = None; pickup = 0 }

trip_kept : (ys zs : List Visit) (t : ℕ) → IsSortedStably (λ (v : Visit). v.trip) ys zs → own_of t zs ≡ own_of t ys
unfolding visit_of_trip
trip_kept ys zs t h = h.stable (visit_of_trip t)

pub arranged : (rises : Bool) (xs ys zs : List Visit) → OnTrue rises (RisesByTrip xs) → AreApart xs (length xs) → IsSortedUnless rises xs ys → IsSortedStably (λ (v : Visit). v.trip) ys zs → AreArranged xs zs
arranged true xs ys zs rising apart same by_trip = record {
  same = subst (λ ws. IsPermutation ws zs) same by_trip.same;
  by_trip = by_trip.sorted;
  own = λ t. trip_kept ys zs t by_trip ∙ ap (own_of t) same ∙ sym (rising_own xs t rising);
}
arranged false xs ys zs rising apart sorted by_trip = record {
  same = IsPermutation-trans xs ys zs sorted.same by_trip.same;
  by_trip = by_trip.sorted;
  own = λ t. trip_kept ys zs t by_trip ∙ sym (sorted_own xs ys t apart sorted);
}
