-- Elements of a list by their places, two at a time.
use Rattle.std.proofs.Common.{◌≡◌, ℕ, zero, suc, ◌<◌, ◌≤◌, Bool, true, false, not, ◌&&◌, ◌||◌, ◌==◌, cond, T, List, [], ◌∷◌, length, take, filter, find, refl, sym, ap, ◌∙◌, subst, arith}
use Rattle.std.specs.Prelude.{slice_get, Option, Some, None}
use Rattle.std.specs.List.{list_any}
use Rattle.std.specs.List.Sorted.{IsNonDecreasingBy, ties}
use Rattle.std.specs.Ordering.{nat_cmp, is_lt}
use Rattle.std.proofs.lemmas.Bool.Decides.{nat_tests}
use Rattle.std.proofs.lemmas.List.Elements.{filter_agree}
use Rattle.std.proofs.lemmas.Option.{none-some as none_some, same_Some, slice_get_within, get_or_from_slice_get}
use Rattle.sched_load.specs.Visits.{Pairs}

pub true_false : true ≡ false → ⊥
true_false e = subst T e tt

-- where an element of a filtered list stood
pub kept_at : {X : Type 0} (p : X → Bool) (xs : List X) (j : ℕ) (y : X) → slice_get (filter p xs) j ≡ Some y → (k : ℕ) × (slice_get xs k ≡ Some y) × (p y ≡ true)
kept_at p [] j y at = absurd (none_some y at)
kept_at p (x ∷ xs) j y at = by (p x) refl j at (λ i. kept_at p xs i y)
  where
    by : (b : Bool) → p x ≡ b → (i : ℕ) → slice_get (cond b (x ∷ filter p xs) (filter p xs)) i ≡ Some y → ((n : ℕ) → slice_get (filter p xs) n ≡ Some y → (k : ℕ) × (slice_get xs k ≡ Some y) × (p y ≡ true))
        → (k : ℕ) × (slice_get (x ∷ xs) k ≡ Some y) × (p y ≡ true)
    by true e zero h more = (0, h, subst (λ z. p z ≡ true) (same_Some _ _ h) e)
    by true e (suc i) h more = let at = more i h in (suc at.0, at.1, at.2)
    by false e i h more = let at = more i h in (suc at.0, at.1, at.2)

-- two elements of a filtered list stood in the same order
pub kept_pairs : {X : Type 0} (P : X → X → Type 0) (p : X → Bool) (xs : List X) → Pairs P xs → Pairs (λ x y. P x y × (p x ≡ true) × (p y ≡ true)) (filter p xs)
kept_pairs {X = X} P p xs h = record { at = λ i j x y l a b. all xs h.at i j x y l a b }
  where
    all : (zs : List X) → ((i j : ℕ) (x y : X) → i < j → slice_get zs i ≡ Some x → slice_get zs j ≡ Some y → P x y) → (i j : ℕ) (x y : X) → i < j → slice_get (filter p zs) i ≡ Some x → slice_get (filter p zs) j ≡ Some y → P x y × (p x ≡ true) × (p y ≡ true)
    all [] g i j x y l a b = absurd (none_some x a)
    all (z ∷ zs) g i j x y l a b = by (p z) refl i j l a b (all zs (λ m n v w l. g (suc m) (suc n) v w (omega (arith, l))))
      where
        by : (c : Bool) → p z ≡ c → (i j : ℕ) → i < j → slice_get (cond c (z ∷ filter p zs) (filter p zs)) i ≡ Some x → slice_get (cond c (z ∷ filter p zs) (filter p zs)) j ≡ Some y
            → ((i j : ℕ) (v w : X) → i < j → slice_get (filter p zs) i ≡ Some v → slice_get (filter p zs) j ≡ Some w → P v w × (p v ≡ true) × (p w ≡ true)) → P x y × (p x ≡ true) × (p y ≡ true)
        by true e i zero l a b more = absurd (omega (arith, l))
        by true e zero (suc n) l a b more =
            let at = kept_at p zs n y b in
            let is : z ≡ x = same_Some _ _ a in
            (g 0 (suc at.0) x y (omega arith) a at.1, subst (λ v. p v ≡ true) is e, at.2)
        by true e (suc m) (suc n) l a b more = more m n x y (omega (arith, l)) a b
        by false e i j l a b more = more i j x y l a b

pub pairs_weaker : {X : Type 0} (P Q : X → X → Type 0) (xs : List X) → ((x y : X) → P x y → Q x y) → Pairs P xs → Pairs Q xs
pairs_weaker P Q xs f h = record { at = λ i j x y l a b. f x y (h.at i j x y l a b) }

-- keys that don't fall
pub pairs_rise : {X : Type 0} (key : X → ℕ) (xs : List X) → IsNonDecreasingBy key xs → Pairs (λ x y. key x ≤ key y) xs
pairs_rise key xs h = grind (arith, get_or_from_slice_get, slice_get_within)

-- a filtered list where no two elements pass has one at most
pub one_kept : {X : Type 0} (p : X → Bool) (xs : List X) → Pairs (λ x y. (p x && p y) ≡ false) xs → length (filter p xs) ≤ 1
one_kept {X = X} p xs h = all xs h.at
  where
    none : (z : X) (zs : List X) → p z ≡ true → ((n : ℕ) (y : X) → slice_get zs n ≡ Some y → (p z && p y) ≡ false) → length (filter p zs) ≡ 0
    none z [] e g = refl
    none z (y ∷ ys) e g = by (p y) refl (none z ys e (λ n w. g (suc n) w))
      where
        by : (b : Bool) → p y ≡ b → length (filter p ys) ≡ 0 → length (cond b (y ∷ filter p ys) (filter p ys)) ≡ 0
        by true f r = absurd (true_false (sym (ap (λ c. c && p y) e ∙ f) ∙ g 0 y refl))
        by false f r = r

    all : (zs : List X) → ((i j : ℕ) (x y : X) → i < j → slice_get zs i ≡ Some x → slice_get zs j ≡ Some y → (p x && p y) ≡ false) → length (filter p zs) ≤ 1
    all [] g = omega arith
    all (z ∷ zs) g = by (p z) refl (all zs (λ m n v w l. g (suc m) (suc n) v w (omega (arith, l))))
      where
        by : (b : Bool) → p z ≡ b → length (filter p zs) ≤ 1 → length (cond b (z ∷ filter p zs) (filter p zs)) ≤ 1
        by true e r = let no = none z zs e (λ n y at. g 0 (suc n) z y (omega arith) refl at) in omega (arith, no)
        by false e r = r

-- two elements that pass are two elements of the filtered list
pub two_kept : {X : Type 0} (p : X → Bool) (xs : List X) (i j : ℕ) (x y : X) → i < j → slice_get xs i ≡ Some x → slice_get xs j ≡ Some y → p x ≡ true → p y ≡ true → 2 ≤ length (filter p xs)
two_kept {X = X} p [] i j x y l a b e f = absurd (none_some x a)
two_kept {X = X} p (z ∷ zs) i zero x y l a b e f = absurd (omega (arith, l))
two_kept {X = X} p (z ∷ zs) zero (suc j) x y l a b e f =
    let here : p z ≡ true = subst (λ v. p v ≡ true) (sym (same_Some _ _ a)) e in
    let more = one zs j b in
    subst (λ c. 2 ≤ length (cond c (z ∷ filter p zs) (filter p zs))) (sym here) (omega (arith, more))
  where
    one : (ws : List X) (k : ℕ) → slice_get ws k ≡ Some y → 1 ≤ length (filter p ws)
    one [] k at = absurd (none_some y at)
    one (w ∷ ws) zero at = subst (λ c. 1 ≤ length (cond c (w ∷ filter p ws) (filter p ws))) (sym (subst (λ v. p v ≡ true) (sym (same_Some _ _ at)) f)) (omega arith)
    one (w ∷ ws) (suc k) at = by (p w) (one ws k at)
      where
        by : (c : Bool) → 1 ≤ length (filter p ws) → 1 ≤ length (cond c (w ∷ filter p ws) (filter p ws))
        by true h = omega arith
        by false h = h
two_kept {X = X} p (z ∷ zs) (suc i) (suc j) x y l a b e f = by (p z) (two_kept p zs i j x y (omega (arith, l)) a b e f)
  where
    by : (c : Bool) → 2 ≤ length (filter p zs) → 2 ≤ length (cond c (z ∷ filter p zs) (filter p zs))
    by true h = omega (arith, h)
    by false h = h

-- filters in either order
pub filter_swap : {X : Type 0} (p q : X → Bool) (xs : List X) → filter p (filter q xs) ≡ filter q (filter p xs)
filter_swap p q [] = refl
filter_swap p q (x ∷ xs) = grind (arith, filter_swap p q xs)

-- one filter behind another is both at once
pub filter_twice : {X : Type 0} (p q : X → Bool) (xs : List X) → filter p (filter q xs) ≡ filter (λ x. q x && p x) xs
filter_twice p q [] = refl
filter_twice p q (x ∷ xs) = grind (arith, filter_twice p q xs)

abbrev pub first_in : {X : Type 0} → List X → Option X
first_in [] = None
first_in (x ∷ xs) = Some x

-- what is found is the first that passes
pub find_first : {X : Type 0} (p : X → Bool) (xs : List X) → find p xs ≡ first_in (filter p xs)
find_first p [] = refl
find_first p (x ∷ xs) = grind (arith, find_first p xs)

-- none of the first elements passes
pub any_false : {X : Type 0} (p : X → Bool) (n : ℕ) (xs : List X) → ((k : ℕ) (x : X) → k < n → slice_get xs k ≡ Some x → p x ≡ false) → list_any p (take n xs) ≡ false
any_false p zero xs h = refl
any_false p (suc n) [] h = refl
any_false p (suc n) (x ∷ xs) h = ap (λ b. b || list_any p (take n xs)) (h 0 x (omega arith) refl) ∙ any_false p n xs (λ k y l. h (suc k) y (omega (arith, l)))

pub none_passes : {X : Type 0} (p : X → Bool) (n : ℕ) (xs : List X) (k : ℕ) (x : X) → list_any p (take n xs) ≡ false → k < n → slice_get xs k ≡ Some x → p x ≡ false
none_passes p zero xs k x h l at = absurd (omega (arith, l))
none_passes p (suc n) [] k x h l at = absurd (none_some x at)
none_passes p (suc n) (y ∷ ys) zero x h l at = ap p (sym (same_Some _ _ at)) ∙ front (p y) h
  where
    front : (b : Bool) → (b || list_any p (take n ys)) ≡ false → b ≡ false
    front true e = e
    front false e = refl
none_passes p (suc n) (y ∷ ys) (suc k) x h l at = none_passes p n ys k x (rest (p y) h) (omega (arith, l)) at
  where
    rest : (b : Bool) → (b || list_any p (take n ys)) ≡ false → list_any p (take n ys) ≡ false
    rest true e = absurd (true_false e)
    rest false e = e

-- what a stable sort by a number keeps
ties_eq : (a b : ℕ) → (not (is_lt (nat_cmp a b)) && not (is_lt (nat_cmp b a))) ≡ (b == a)
ties_eq a b = grind (arith, nat_tests)

pub stable_kept : {X : Type 0} (key : X → ℕ) (x : X) (xs ys : List X) → filter (ties (λ v w. is_lt (nat_cmp (key v) (key w))) x) ys ≡ filter (ties (λ v w. is_lt (nat_cmp (key v) (key w))) x) xs → filter (λ y. key y == key x) ys ≡ filter (λ y. key y == key x) xs
stable_kept key x xs ys h = grind (arith, filter_agree, ties_eq, nat_tests)
