-- Of items each of which has a key of its own, only those go and come that are not the same at their places.
use Rattle.std.proofs.Common.{◌≡◌, ℕ, ◌+◌, ◌<◌, ◌≤◌, length, get_or, append-nil, append_assoc, List, [], ◌∷◌, ◌++◌, Bool, true, false, cond, Option, Some, None, map, drop, drop-drop, slice_get, count_by, refl, sym, ap, subst, ◌∙◌, inl, inr, arith}
use Rattle.std.specs.Prelude.{◌⊎◌, if◌then◌else◌}
use Rattle.std.specs.List.{AllByRecursion}
use Rattle.std.specs.Ordering.{eq_by_cmp}
use Rattle.std.specs.declared.cmp.Ordering.{Ordering}
use Rattle.std.proofs.lemmas.List.{drop_all, drop_more}
use Rattle.std.proofs.lemmas.Option.{slice_get_cases}
use Rattle.order.proofs.Counts.{count-cons, one_is}
use Rattle.shared_list.specs.declared.change.Change.TheVariants.{Put, Remove}
use Rattle.keyed_lists.specs.Keyed.{stands_first, turned, unlike}
use Rattle.keyed_lists.proofs.Effects.{IsApart, effect, effect-append, puts_again, puts_apart, removes_apart}
use Rattle.keyed_lists.proofs.Effects as effects
use Rattle.keyed_lists.proofs.Once.{all_fail}

module _ {K X : Type 0} (cmp : K → K → Ordering) (key : X → K) (same : X → X → Bool) (same_so : (x y : X) → same x y ≡ true → x ≡ y) (k : K) where
  abbrev has_it : X → Bool
  has_it x = eq_by_cmp cmp k (key x)

  abbrev AreApart : List X → Type 0
  AreApart xs = AllByRecursion (IsApart cmp key k) xs

  abbrev puts : List X → Option X → Option X
  puts xs found = effect cmp key k (map Put xs) found

  abbrev removes : List X → Option X → Option X
  removes xs found = effect cmp key k (map (λ x. Remove (key x)) xs) found

  -- at most one of the items has the key
  abbrev pub IsOnce : List X → Type 0
  IsOnce [] = Unit {0}
  IsOnce (x ∷ xs) = (has_it x ≡ true → AreApart xs) × IsOnce xs

  pub once_so : (xs : List X) → count_by has_it xs ≤ 1 → IsOnce xs
  once_so [] few = tt
  once_so (x ∷ xs) few = (
    λ tie. all_fail has_it xs (omega (arith, few, count-cons has_it x xs, one_is (has_it x) tie)),
    once_so xs (omega (arith, few, count-cons has_it x xs)),
  )

  -- ---- the same either way

  either_way : (x y : X) (b c : Bool) → same x y ≡ b → same y x ≡ c → b ≡ c
  either_way x y true true there back = refl
  either_way x y false false there back = refl
  either_way x y true false there back =
      let clash : true ≡ false = sym (subst (λ z. same z y ≡ true) (same_so x y there) there) ∙ subst (λ z. same y z ≡ false) (same_so x y there) back in absurd (cc)
  either_way x y false true there back =
      let clash : true ≡ false = sym (subst (λ z. same z x ≡ true) (same_so y x back) back) ∙ subst (λ z. same x z ≡ false) (same_so y x back) there in absurd (cc)

  back_same : (x y : X) (b : Bool) → same x y ≡ b → same y x ≡ b
  back_same x y b there = sym (either_way x y b (same y x) there refl)

  -- ---- what is unlike others

  unlike_none : (xs : List X) → unlike same xs [] ≡ xs
  unlike_none [] = refl
  unlike_none (x ∷ xs) = ap (λ ys. x ∷ ys) (unlike_none xs)

  pub apart_unlike : (xs others : List X) → AreApart xs → AreApart (unlike same xs others)
  apart_unlike [] others all = tt
  apart_unlike (x ∷ xs) others all = by_test (stands_first same x others) (apart_unlike xs (drop 1 others) all.1) where
    by_test : (b : Bool) → AreApart (unlike same xs (drop 1 others)) → AreApart (cond b (unlike same xs (drop 1 others)) (x ∷ unlike same xs (drop 1 others)))
    by_test true rest = rest
    by_test false rest = (all.0, rest)

  -- those that are left out have another key, where all others have
  puts_unlike : (xs others : List X) → AreApart others → (found : Option X) → puts (unlike same xs others) found ≡ puts xs found
  puts_unlike [] others all found = refl
  puts_unlike (x ∷ xs) [] all found = puts_unlike xs [] tt (cond (has_it x) (Some x) found)
  puts_unlike (x ∷ xs) (y ∷ others) all found = by_test (same x y) refl (λ before. puts_unlike xs others all.1 before) where
    by_test : (b : Bool) → same x y ≡ b → ((before : Option X) → puts (unlike same xs others) before ≡ puts xs before)
        → puts (cond b (unlike same xs others) (x ∷ unlike same xs others)) found ≡ puts xs (cond (has_it x) (Some x) found)
    by_test true is rest =
        let other : has_it x ≡ false = ap has_it (same_so x y is) ∙ all.0 in
        rest found
        ∙ ap (λ b. puts xs (cond b (Some x) found)) (sym other)
    by_test false is rest = rest (cond (has_it x) (Some x) found)

  -- ---- what goes and what comes

  abbrev Fine : List X → List X → Option X → Type 0
  Fine old new found = (found ≡ puts old None) ⊎ (found ≡ puts new None)

  -- what is found already, where one item of each list has the key, and these are the same
  found_there : (x : X) (xs ys : List X) → AreApart xs → AreApart ys → (found : Option X) → (found ≡ puts xs (Some x)) ⊎ (found ≡ puts ys (Some x)) → found ≡ Some x
  found_there x xs ys apart others found (inl was) = was ∙ puts_apart cmp key k xs apart (Some x)
  found_there x xs ys apart others found (inr is) = is ∙ puts_apart cmp key k ys others (Some x)

  fine_by : (x y : X) (xs ys : List X) (b c : Bool) → has_it x ≡ b → has_it y ≡ c → (found : Option X) → Fine (x ∷ xs) (y ∷ ys) found
      → (found ≡ puts xs (cond b (Some x) None)) ⊎ (found ≡ puts ys (cond c (Some y) None))
  fine_by x y xs ys b c here there found (inl was) = inl (was ∙ ap (λ d. puts xs (cond d (Some x) None)) here)
  fine_by x y xs ys b c here there found (inr is) = inr (is ∙ ap (λ d. puts ys (cond d (Some y) None)) there)

  abbrev Settled : List X → List X → Option X → Type 0
  Settled old new found = Fine old new found → puts (unlike same new old) (removes (unlike same old new) found) ≡ puts new None

  settles : (old new : List X) → IsOnce old → IsOnce new → (found : Option X) → Fine old new found
      → puts (unlike same new old) (removes (unlike same old new) found) ≡ puts new None
  settles [] new once others found (inl was) = ap (λ xs. puts xs found) (unlike_none new) ∙ ap (puts new) was
  settles [] new once others found (inr is) = ap (λ xs. puts xs found) (unlike_none new) ∙ ap (puts new) is ∙ puts_again cmp key k new
  settles (x ∷ xs) [] once others found fine =
      ap (λ ys. removes ys found) (unlike_none (x ∷ xs))
      ∙ sym (effect-append cmp key k (map (λ z. Remove (key z)) (x ∷ xs)) [] found)
      ∙ effects.turned cmp key k (x ∷ xs) [] found fine
  settles (x ∷ xs) (y ∷ ys) once others found fine = by_same (same x y) refl (λ good. settles xs ys once.1 others.1 found good) where
    kept : Settled xs ys found → (b : Bool) → has_it x ≡ b → x ≡ y → puts (unlike same ys xs) (removes (unlike same xs ys) found) ≡ puts ys (cond (has_it y) (Some y) None)
    kept rest false here is =
        let there : has_it y ≡ false = ap has_it (sym is) ∙ here in
        rest (fine_by x y xs ys false false here there found fine)
        ∙ ap (λ b. puts ys (cond b (Some y) None)) (sym there)
    kept rest true here is =
        let there : has_it y ≡ true = ap has_it (sym is) ∙ here in
        let good = subst (λ z. (found ≡ puts xs (Some z)) ⊎ (found ≡ puts ys (Some y))) is (fine_by x y xs ys true true here there found fine) in
        let apart = once.0 here in
        let away = others.0 there in
        ap (puts (unlike same ys xs)) (removes_apart cmp key k (unlike same xs ys) (apart_unlike xs ys apart) found)
        ∙ puts_apart cmp key k (unlike same ys xs) (apart_unlike ys xs away) found
        ∙ found_there y xs ys apart away found good
        ∙ sym (puts_apart cmp key k ys away (Some y))
        ∙ ap (λ b. puts ys (cond b (Some y) None)) (sym there)

    both : Settled xs ys found → (b c : Bool) → has_it x ≡ b → has_it y ≡ c
        → puts (unlike same ys xs) (cond c (Some y) (removes (unlike same xs ys) (cond b None found))) ≡ puts ys (cond c (Some y) None)
    both rest false false here there = rest (fine_by x y xs ys false false here there found fine)
    both rest true c here there =
        ap (λ f. puts (unlike same ys xs) (cond c (Some y) f)) (removes_apart cmp key k (unlike same xs ys) (apart_unlike xs ys (once.0 here)) None)
        ∙ puts_unlike ys xs (once.0 here) (cond c (Some y) None)
    both rest false true here there =
        puts_apart cmp key k (unlike same ys xs) (apart_unlike ys xs (others.0 there)) (Some y)
        ∙ sym (puts_apart cmp key k ys (others.0 there) (Some y))

    by_same : (b : Bool) → same x y ≡ b → Settled xs ys found
        → puts (cond (same y x) (unlike same ys xs) (y ∷ unlike same ys xs)) (removes (cond b (unlike same xs ys) (x ∷ unlike same xs ys)) found) ≡ puts ys (cond (has_it y) (Some y) None)
    by_same true is rest =
        ap (λ b. puts (cond b (unlike same ys xs) (y ∷ unlike same ys xs)) (removes (unlike same xs ys) found)) (back_same x y true is)
        ∙ kept rest (has_it x) refl (same_so x y is)
    by_same false is rest =
        ap (λ b. puts (cond b (unlike same ys xs) (y ∷ unlike same ys xs)) (removes (x ∷ unlike same xs ys) found)) (back_same x y false is)
        ∙ both rest (has_it x) (has_it y) refl refl

  -- what is found then is what the new items leave
  pub turned_settles : (old new : List X) → IsOnce old → IsOnce new → (found : Option X) → Fine old new found
      → effect cmp key k (turned same key old new) found ≡ puts new None
  turned_settles old new once others found fine =
      effect-append cmp key k (map (λ x. Remove (key x)) (unlike same old new)) (map Put (unlike same new old)) found
      ∙ settles old new once others found fine

  -- where no item has the key, nothing is changed there
  pub turned_apart : (old new : List X) → AreApart old → AreApart new → (found : Option X) → effect cmp key k (turned same key old new) found ≡ found
  turned_apart old new apart others found =
      effect-append cmp key k (map (λ x. Remove (key x)) (unlike same old new)) (map Put (unlike same new old)) found
      ∙ ap (puts (unlike same new old)) (removes_apart cmp key k (unlike same old new) (apart_unlike old new apart) found)
      ∙ puts_apart cmp key k (unlike same new old) (apart_unlike new old others) found

-- ---- what stands at a place

module _ {X : Type 0} (same : X → X → Bool) (x : X) where
  abbrev pub stands : Option X → Bool
  stands None = false
  stands (Some y) = same x y

  -- an item is the first of others from a place on where it is the same as the one there
  pub stands_there : (others : List X) (i : ℕ) → stands_first same x (drop i others) ≡ stands (slice_get others i)
  stands_there others i = by_place (slice_get_cases others i).1 where
    by_place : ((y : X) × (i < length others) × (slice_get others i ≡ Some y) × (get_or others i y ≡ y)) ⊎ ((length others ≤ i) × (slice_get others i ≡ None))
        → stands_first same x (drop i others) ≡ stands (slice_get others i)
    by_place (inl there) =
        ap (stands_first same x) (drop_more others i there.0 there.1)
        ∙ ap (same x) there.3
        ∙ sym (ap stands there.2)
    by_place (inr past) =
        ap (stands_first same x) (drop_all i others past.0)
        ∙ sym (ap stands past.1)

-- ---- what is written of unlike items, one after another

module _ {X Y : Type 0} (f : X → Y) (same : X → X → Bool) where
  -- what is written of an item
  abbrev written : X → List X → List Y
  written x others = if stands_first same x others then [] else f x ∷ []

  unlike_first : (x : X) (xs others : List X) → map f (unlike same (x ∷ xs) others) ≡ written x others ++ map f (unlike same xs (drop 1 others))
  unlike_first x xs others = by_test (stands_first same x others) where
    rest : List X
    rest = unlike same xs (drop 1 others)

    by_test : (b : Bool) → map f (if b then rest else x ∷ rest) ≡ (if b then [] else f x ∷ []) ++ map f rest
    by_test true = refl
    by_test false = refl

  module _ (xs others : List X) (i : ℕ) (old all : List Y) (so_far : old ++ map f (unlike same (drop i xs) (drop i others)) ≡ all) where
    -- the one at the next place was gone over: nothing is written of it where it stands there too
    pub written_more : (d : X) (new : List Y) (stands : Bool) → i < length xs → stands ≡ stands_first same (get_or xs i d) (drop i others) → new ≡ old ++ (if stands then [] else f (get_or xs i d) ∷ [])
        → new ++ map f (unlike same (drop (i + 1) xs) (drop (i + 1) others)) ≡ all
    written_more d new stands h is pushed =
        ap (λ ys. new ++ map f (unlike same (drop (i + 1) xs) ys)) (sym (drop-drop 1 i others))
        ∙ ap (λ ys. ys ++ map f (unlike same (drop (i + 1) xs) (drop 1 (drop i others)))) (pushed ∙ ap (λ b. old ++ (if b then [] else f (get_or xs i d) ∷ [])) is)
        ∙ append_assoc old (written (get_or xs i d) (drop i others)) (map f (unlike same (drop (i + 1) xs) (drop 1 (drop i others))))
        ∙ ap (λ ys. old ++ ys) (sym (unlike_first (get_or xs i d) (drop (i + 1) xs) (drop i others)))
        ∙ ap (λ ys. old ++ map f (unlike same ys (drop i others))) (sym (drop_more xs i d h))
        ∙ so_far

    pub written_all : length xs ≤ i → old ≡ all
    written_all h =
        sym (append-nil old)
        ∙ ap (λ ys. old ++ map f (unlike same ys (drop i others))) (sym (drop_all i xs h))
        ∙ so_far
