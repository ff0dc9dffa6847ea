-- The asked stop and its children are those that count as asked, each once.
use Rattle.std.proofs.lemmas.Bool.Decides.{nat_tests}
use Rattle.std.proofs.Common.{◌≡◌, ℕ, zero, suc, ◌+◌, ◌<◌, ◌≤◌, Bool, true, false, not, ◌&&◌, ◌||◌, nat_eq, List, [], ◌∷◌, length, filter, count_by, refl, ap, ◌∙◌, inl, inr, arith}
use Rattle.std.specs.Prelude.{slice_get}
use Rattle.std.specs.List.{range_with_len}
use Rattle.std.proofs.lemmas.Bool.{and_right, cases_eq, eq-eqb, eqb-true, ne_eqb}
use Rattle.std.proofs.lemmas.Option.{slice_get_within}
use Rattle.sched_types.specs.Timetable.{Timetable, children_of, names_parent}
use Rattle.order.proofs.Counts.{one, one_is, count-cons, count-filter, count_never, range_once}
use Rattle.board_defs.specs.Rows.{is_asked}
use Rattle.run_departures.specs.Board.{stops_of}

count_same : {X : Type 0} (p q : X → Bool) → ((x : X) → p x ≡ q x) → (xs : List X) → count_by p xs ≡ count_by q xs
count_same p q same [] = refl
count_same p q same (x ∷ xs) = omega (arith, count-cons p x xs, count-cons q x xs, ap one (same x), count_same p q same xs)

turned : (a b : ℕ) → nat_eq a b ≡ nat_eq b a
turned a b = grind (arith, cases_eq, eq-eqb, ne_eqb, nat_tests)

-- what is true of a number is asked of the number itself
pinned : (q : ℕ → Bool) (x : ℕ) (xs : List ℕ) → count_by (λ s. q s && nat_eq s x) xs ≡ count_by (λ s. q x && nat_eq s x) xs
pinned q x xs = grind (arith, and_right, count_same, eqb-true, nat_tests)

range_has : (x a n : ℕ) → a ≤ x → x < a + n → 0 < count_by (λ k. nat_eq k x) (range_with_len a n)
range_has x a zero low high = absurd (omega arith)
range_has x a (suc n) low high = elim (cases_eq a x) [
  | inl e ↦ omega (arith, count-cons (λ k. nat_eq k x) a (range_with_len (a + 1) n), one_is (nat_eq a x) (eq-eqb a x e))
  | inr other ↦ omega (arith, count-cons (λ k. nat_eq k x) a (range_with_len (a + 1) n), range_has x (a + 1) n (omega (arith, other)) (omega arith))
]

module _ (t : Timetable) (asked x : ℕ) where
  abbrev pub names : ℕ → Bool
  names stop = names_parent asked (slice_get t.stops stop)

  -- a stop that names another is in the timetable
  pub named_within : names x ≡ true → x < length t.stops
  named_within e = grind (arith, slice_get_within)

  children_count : count_by (λ s. nat_eq s x) (children_of t.stops asked) ≡ one (names x)
  children_count = count-filter names (λ s. nat_eq s x) (range_with_len 0 (length t.stops)) ∙ pinned names x (range_with_len 0 (length t.stops)) ∙ by_test (names x) refl where
    by_test : (b : Bool) → names x ≡ b → count_by (λ s. b && nat_eq s x) (range_with_len 0 (length t.stops)) ≡ one b
    by_test true e = omega (arith, range_once x 0 (length t.stops), range_has x 0 (length t.stops) (omega arith) (omega (arith, named_within e)))
    by_test false e = count_never (λ s. false) (range_with_len 0 (length t.stops)) (λ s. refl)

  pub stops_once : count_by (λ s. nat_eq x s) (stops_of t asked) ≡ one (is_asked t asked x)
  stops_once =
      let rest = filter (λ stop. not (nat_eq stop asked)) (children_of t.stops asked) in
      let among : count_by (λ s. nat_eq x s) rest ≡ count_by (λ s. not (nat_eq x asked) && nat_eq s x) (children_of t.stops asked) =
      count_same (λ s. nat_eq x s) (λ s. nat_eq s x) (λ s. turned x s) rest
      ∙ count-filter (λ stop. not (nat_eq stop asked)) (λ s. nat_eq s x) (children_of t.stops asked)
      ∙ pinned (λ stop. not (nat_eq stop asked)) x (children_of t.stops asked) in
      omega (arith, count-cons (λ s. nat_eq x s) asked rest, among, by_test (nat_eq x asked))
    where
      by_test : (b : Bool) → one b + count_by (λ s. not b && nat_eq s x) (children_of t.stops asked) ≡ one (b || names x)
      by_test true = omega (arith, count_never (λ s. false) (children_of t.stops asked) (λ s. refl))
      by_test false = omega (arith, children_count)
