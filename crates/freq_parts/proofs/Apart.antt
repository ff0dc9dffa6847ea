-- That no two of all trips have one id.
use Rattle.std.proofs.Common.{◌≡◌, ℕ, suc, ◌+◌, ◌≤◌, Bool, true, false, ◌||◌, cond, List, [], ◌∷◌, ◌++◌, map, filter, count_by, slice_get, Some, refl, sym, ap, ◌∙◌, append_assoc, arith, Less}
use Rattle.std.specs.Cmp.Lexicographic.{slice_cmp, same_text}
use Rattle.std.specs.Ordering.{nat_cmp, is_eq}
use Rattle.std.specs.Str.{bytes_eq}
use Rattle.std.proofs.lemmas.Cmp.{nat_list_eq_equiv}
use Rattle.std.proofs.lemmas.List.{append-nil}
use Rattle.std.proofs.lemmas.List.Folds.{list_any-append}
use Rattle.std.proofs.lemmas.Map.Text.{is_eq-slice_cmp}
use Rattle.order.proofs.Counts.{one, one_is, one_not, count-cons, count-append, count-map, count_fewer}
use Rattle.freq_runs.specs.Faults.{has_id, comes_again}
use Rattle.sched_types.specs.Timetable.{RisesById}
use Rattle.freq_parts.specs.Differ.{Differ, text_cmp}

or_left : (a b : Bool) → (a || b) ≡ false → a ≡ false
or_left true b e = e
or_left false b e = refl

or_right : (a b : Bool) → (a || b) ≡ false → b ≡ false
or_right true b e = absurd cc
or_right false b e = e

-- ids of which none comes again, in two parts
pub none_again : (before ids more : List (List ℕ)) → comes_again before ids ≡ false → comes_again (before ++ ids) more ≡ false → comes_again before (ids ++ more) ≡ false
none_again before [] more first second = ap (λ known. comes_again known more) (sym (append-nil before)) ∙ second
none_again before (id ∷ ids) more first second =
    let here = or_left (has_id before id) (comes_again (before ++ id ∷ []) ids) first in
    let later = or_right (has_id before id) (comes_again (before ++ id ∷ []) ids) first in
    let rest = none_again (before ++ id ∷ []) ids more later (ap (λ known. comes_again known more) (append_assoc before (id ∷ []) ids) ∙ second) in
    ap (λ b. b || comes_again (before ++ id ∷ []) (ids ++ more)) here ∙ rest

-- how often an id is there
abbrev pub times : List ℕ → List (List ℕ) → ℕ
times id ids = count_by (λ other. bytes_eq other id) ids

at_most_one : (b : Bool) → one b ≤ 1
at_most_one true = omega arith
at_most_one false = omega arith

-- of ids that don't come again each is there once at most, and not at all if it was there before
pub there_once : (before ids : List (List ℕ)) (wanted : List ℕ) → comes_again before ids ≡ false → times wanted ids + one (has_id before wanted) ≤ 1
there_once before [] wanted none = omega (arith, at_most_one (has_id before wanted))
there_once before (id ∷ ids) wanted none =
    let here = or_left (has_id before id) (comes_again (before ++ id ∷ []) ids) none in
    let rest = there_once (before ++ id ∷ []) ids wanted (or_right (has_id before id) (comes_again (before ++ id ∷ []) ids) none) in
    by (bytes_eq id wanted) refl here rest
  where
    -- has_id of the ids before, and of the next one
    more : (b : Bool) → bytes_eq id wanted ≡ b → has_id (before ++ id ∷ []) wanted ≡ (has_id before wanted || (b || false))
    more b is = list_any-append (λ other. bytes_eq other wanted) before (id ∷ []) ∙ ap (λ c. has_id before wanted || (c || false)) is

    or_true : (a : Bool) → (a || (true || false)) ≡ true
    or_true true = refl
    or_true false = refl

    or_false : (a : Bool) → (a || (false || false)) ≡ a
    or_false true = refl
    or_false false = refl

    by : (b : Bool) → bytes_eq id wanted ≡ b → has_id before id ≡ false → times wanted ids + one (has_id (before ++ id ∷ []) wanted) ≤ 1 → times wanted (id ∷ ids) + one (has_id before wanted) ≤ 1
    by true is here rest =
        let gone = one_not (has_id before wanted) (ap (has_id before) (sym (same_text id wanted (sym is))) ∙ here) in
        omega (
          arith,
          count-cons (λ other. bytes_eq other wanted) id ids,
          one_is (bytes_eq id wanted) is,
          one_is (has_id (before ++ id ∷ []) wanted) (more true is ∙ or_true (has_id before wanted)),
          gone,
          rest,
        )
    by false is here rest =
        omega (
          arith,
          count-cons (λ other. bytes_eq other wanted) id ids,
          one_not (bytes_eq id wanted) is,
          ap one (more false is ∙ or_false (has_id before wanted)),
          rest,
        )

-- an id that none has is not there
pub not_there : (ids : List (List ℕ)) (wanted : List ℕ) → has_id ids wanted ≡ false → times wanted ids ≡ 0
not_there [] wanted e = refl
not_there (id ∷ ids) wanted e =
    omega (
      arith,
      count-cons (λ other. bytes_eq other wanted) id ids,
      one_not (bytes_eq id wanted) (or_left (bytes_eq id wanted) (has_id ids wanted) e),
      not_there ids wanted (or_right (bytes_eq id wanted) (has_id ids wanted) e),
    )

-- of ids that rise each is there once
module _ {X : Type 0} (id_of : X → List ℕ) where
  later : (x : X) (xs : List X) → RisesById id_of (x ∷ xs) → RisesById id_of xs
  later x xs up = record { rise = λ i j y z l at then. up.rise (suc i) (suc j) y z (omega (arith, l)) at then }

  less_not : (a b : List ℕ) → slice_cmp nat_cmp a b ≡ Less → bytes_eq b a ≡ false
  less_not a b e = nat_list_eq_equiv.symm b a ∙ sym (is_eq-slice_cmp a b) ∙ ap is_eq e

  none_above : (low : List ℕ) (xs : List X) → ((i : ℕ) (x : X) → slice_get xs i ≡ Some x → slice_cmp nat_cmp low (id_of x) ≡ Less) → count_by (λ x. bytes_eq (id_of x) low) xs ≡ 0
  none_above low [] above = refl
  none_above low (x ∷ xs) above =
      omega (
        arith,
        count-cons (λ y. bytes_eq (id_of y) low) x xs,
        one_not (bytes_eq (id_of x) low) (less_not low (id_of x) (above 0 x refl)),
        none_above low xs (λ i y at. above (suc i) y at),
      )

  pub rising_once : (xs : List X) (wanted : List ℕ) → RisesById id_of xs → count_by (λ x. bytes_eq (id_of x) wanted) xs ≤ 1
  rising_once [] wanted up = omega arith
  rising_once (x ∷ xs) wanted up = by (bytes_eq (id_of x) wanted) refl (rising_once xs wanted (later x xs up))
    where
      by : (b : Bool) → bytes_eq (id_of x) wanted ≡ b → count_by (λ y. bytes_eq (id_of y) wanted) xs ≤ 1 → count_by (λ y. bytes_eq (id_of y) wanted) (x ∷ xs) ≤ 1
      by true is rest =
          let own : id_of x ≡ wanted = same_text (id_of x) wanted (sym is) in
          omega (
            arith,
            count-cons (λ y. bytes_eq (id_of y) wanted) x xs,
            one_is (bytes_eq (id_of x) wanted) is,
            none_above wanted xs (λ i y at. ap (λ low. slice_cmp nat_cmp low (id_of y)) (sym own) ∙ up.rise 0 (suc i) x y (omega arith) refl at),
          )
      by false is rest = omega (arith, count-cons (λ y. bytes_eq (id_of y) wanted) x xs, one_not (bytes_eq (id_of x) wanted) is, rest)

  filtered : (p f : X → Bool) (xs : List X) → count_by p (filter f xs) ≤ count_by p xs
  filtered p f [] = omega arith
  filtered p f (x ∷ xs) = by (f x) (filtered p f xs)
    where
      by : (b : Bool) → count_by p (filter f xs) ≤ count_by p xs → count_by p (cond b (x ∷ filter f xs) (filter f xs)) ≤ count_by p (x ∷ xs)
      by true rest = omega (arith, count-cons p x (filter f xs), count-cons p x xs, rest)
      by false rest = omega (arith, count-cons p x xs, rest)

  -- an id is there once among trips some of which are taken out, and others that don't have it again
  few_of : (trips derived : List X) (test : X → Bool) → RisesById id_of trips → comes_again (map id_of trips) (map id_of derived) ≡ false → (wanted : List ℕ) (known : Bool) → has_id (map id_of trips) wanted ≡ known
      → count_by (λ x. bytes_eq (id_of x) wanted) (filter test trips) + times wanted (map id_of derived) ≤ 1
  few_of trips derived test up none wanted true e =
      omega (
        arith,
        filtered (λ x. bytes_eq (id_of x) wanted) test trips,
        rising_once trips wanted up,
        there_once (map id_of trips) (map id_of derived) wanted none,
        one_is (has_id (map id_of trips) wanted) e,
      )
  few_of trips derived test up none wanted false e =
      omega (
        arith,
        filtered (λ x. bytes_eq (id_of x) wanted) test trips,
        not_there (map id_of trips) wanted e,
        count-map (λ other. bytes_eq other wanted) id_of trips,
        there_once (map id_of trips) (map id_of derived) wanted none,
        one_not (has_id (map id_of trips) wanted) e,
      )

  -- Trips of which ids rise, with some taken out, and others whose ids are none of these and don't come again: no two of
  -- all have one id.
  pub all_differ : (trips derived : List X) (test : X → Bool) → RisesById id_of trips → comes_again (map id_of trips) (map id_of derived) ≡ false → Differ text_cmp id_of (filter test trips ++ derived)
  all_differ trips derived test up none = record {
    once = λ wanted.
        let tests : (x : X) → is_eq (text_cmp wanted (id_of x)) ≡ true → bytes_eq (id_of x) wanted ≡ true =
        λ x e. nat_list_eq_equiv.symm (id_of x) wanted ∙ sym (is_eq-slice_cmp wanted (id_of x)) ∙ e in
        omega (
          arith,
          count_fewer (λ x. bytes_eq (id_of x) wanted) (λ x. is_eq (text_cmp wanted (id_of x))) tests (filter test trips ++ derived),
          count-append (λ x. bytes_eq (id_of x) wanted) (filter test trips) derived,
          count-map (λ other. bytes_eq other wanted) id_of derived,
          few_of trips derived test up none wanted (has_id (map id_of trips) wanted) refl,
        );
  }
