-- Rows by rising keys, as `listed` lists them, are what any sort makes of rows whose keys differ.
use Rattle.std.proofs.Common.{◌≡◌, ℕ, zero, suc, ◌<◌, Bool, true, false, ◌&&◌, cond, List, [], ◌∷◌, length, map, refl, sym, ap, subst, ◌∙◌, arith, T, ◌⊎◌, inl, inr}
use Rattle.std.specs.Prelude.{slice_get, slice_index_or, find, Contains, IsPermutation, Option, Some, None}
use Rattle.std.specs.Ordering.{is_eq, is_lt, eq_by_cmp}
use Rattle.std.specs.Cmp.{IsTotalOrder}
use Rattle.std.specs.declared.cmp.Ordering.{Ordering}
use Rattle.std.specs.declared.cmp.Ordering.TheVariants.{Less, Equal, Greater}
use Rattle.std.specs.FinMap.Entries as entries
use Rattle.std.specs.FinMap.Entries.{below_all, is_sorted, is_sorted-put, find-put, same_entries}
use Rattle.std.proofs.lemmas.Bool.{cases_order}
use Rattle.std.proofs.lemmas.List.Sorted.{Contains-permutation, IsPermutation-sym}
use Rattle.sched_load_defs.specs.Numbers.{rows_with_keys, rows_by_key}

value_or : {A : Type 0} → A → Option A → A
value_or d None = d
value_or d (Some x) = x

some_same : {A : Type 0} (x y : A) → Some x ≡ Some y → x ≡ y
unfolding value_or
some_same x y e = ap (value_or x) e

IsThere : {A : Type 0} → Option A → Type 0
IsThere None = ⊥
IsThere (Some x) = Unit {0}

never_none : {A : Type 0} (x : A) → Some x ≡ None → ⊥
unfolding IsThere
never_none x e = subst IsThere e tt

pub true_false : true ≡ false → ⊥
true_false e = subst T e tt

pub less_equal : Less ≡ Equal → ⊥
less_equal e = subst (λ r. T (is_lt r)) e tt

pub equal_is : (r : Ordering) → is_eq r ≡ true → r ≡ Equal
equal_is Equal e = refl
equal_is Less e = absurd (true_false (sym e))
equal_is Greater e = absurd (true_false (sym e))

less_is : (r : Ordering) → r ≡ Less → T (is_lt r)
less_is r e = subst (λ s. T (is_lt s)) (sym e) tt

both : (a b : Bool) → T a → T b → T (a && b)
both true b p q = q
both false b p q = p

cases : {A B C : Type 0} → (A → C) → (B → C) → A ⊎ B → C
cases f g (inl a) = f a
cases f g (inr b) = g b

-- what is found is in the list, and passes
found_at : {X : Type 0} (test : X → Bool) (xs : List X) (x : X) → find test xs ≡ Some x → Contains xs x × (test x ≡ true)
found_at test [] x e = absurd (never_none x (sym e))
found_at test (y ∷ ys) x e = by (test y) refl e (λ f. found_at test ys x f)
  where
    by : (b : Bool) → test y ≡ b → cond b (Some y) (find test ys) ≡ Some x → (find test ys ≡ Some x → Contains ys x × (test x ≡ true)) → Contains (y ∷ ys) x × (test x ≡ true)
    by true p e more = ((0, omega arith, some_same _ _ e), subst (λ z. test z ≡ true) (some_same _ _ e) p)
    by false p e more = let rest = more e in ((suc (rest.0).0, omega (arith, (rest.0).1), (rest.0).2), rest.1)

-- where nothing is found, nothing in the list passes
absent_at : {X : Type 0} (test : X → Bool) (xs : List X) (x : X) (k : ℕ) → find test xs ≡ None → k < length xs → slice_index_or xs k x ≡ x → test x ≡ false
absent_at test [] x k e l s = absurd (omega (arith, l))
absent_at test (y ∷ ys) x zero e l s = by (test y) refl e
  where
    by : (b : Bool) → test y ≡ b → cond b (Some y) (find test ys) ≡ None → test x ≡ false
    by true p e = absurd (never_none y e)
    by false p e = subst (λ z. test z ≡ false) s p
absent_at test (y ∷ ys) x (suc k) e l s = by (test y) refl e (λ f. absent_at test ys x k f (omega (arith, l)) s)
  where
    by : (b : Bool) → test y ≡ b → cond b (Some y) (find test ys) ≡ None → (find test ys ≡ None → test x ≡ false) → test x ≡ false
    by true p e more = absurd (never_none y e)
    by false p e more = more e

-- a search finds the same in any order of a list of which one element at most passes
pub find-permutation : {X : Type 0} (test : X → Bool) (xs ys : List X) → IsPermutation xs ys
    → ((x y : X) → Contains ys x → Contains ys y → test x ≡ true → test y ≡ true → x ≡ y) → find test xs ≡ find test ys
find-permutation {X} test xs ys p unique = by (find test xs) (find test ys) refl refl
  where
    gone : (zs : List X) (x : X) → find test zs ≡ None → Contains zs x → test x ≡ true → ⊥
    gone zs x e c t = true_false (sym t ∙ absent_at test zs x c.0 e c.1 c.2)

    by : (a b : Option X) → find test xs ≡ a → find test ys ≡ b → a ≡ b
    by None None e f = refl
    by (Some x) None e f = let at = found_at test xs x e in absurd (gone ys x f (Contains-permutation xs ys x p at.0) at.1)
    by None (Some y) e f = let at = found_at test ys y f in absurd (gone xs y e (Contains-permutation ys xs y (IsPermutation-sym xs ys p) at.0) at.1)
    by (Some x) (Some y) e f =
        let left = found_at test xs x e in
        let right = found_at test ys y f in
        ap (λ z. Some z) (unique x y (Contains-permutation xs ys x p left.0) right.0 left.1 right.1)

-- an element by its place
pub get_at : {X : Type 0} (xs : List X) (k : ℕ) (x : X) → k < length xs → slice_index_or xs k x ≡ x → slice_get xs k ≡ Some x
get_at [] k x l e = absurd (omega (arith, l))
get_at (y ∷ ys) zero x l e = ap (λ z. Some z) e
get_at (y ∷ ys) (suc k) x l e = get_at ys k x (omega (arith, l)) e

module _ {K R : Type 0} (order : K → K → Ordering) (o : IsTotalOrder order) (same : (x y : K) → order x y ≡ Equal → x ≡ y) (key : R → K) where
  -- rows whose keys strictly rise
  pub record Rises (rows : List R) : Type 0 where
    pub rise : (i j : ℕ) (x y : R) → i < j → slice_get rows i ≡ Some x → slice_get rows j ≡ Some y → order (key x) (key y) ≡ Less

  abbrev pub paired : List R → List (K × R)
  paired rows = map (λ row. (key row, row)) rows

  below_rest : (k : K) (rows : List R) → ((j : ℕ) (y : R) → slice_get rows j ≡ Some y → order k (key y) ≡ Less) → T (below_all order k (paired rows))
  below_rest k [] h = tt
  below_rest k (row ∷ rows) h = both _ _ (less_is _ (h 0 row refl)) (below_rest k rows (λ j y e. h (suc j) y e))

  sorted_pairs : (rows : List R) → Rises rows → T (is_sorted order (paired rows))
  sorted_pairs [] h = tt
  sorted_pairs (row ∷ rows) h =
      both _ _ (below_rest (key row) rows (λ j y e. h.rise 0 (suc j) row y (omega arith) refl e))
      (sorted_pairs rows (record { rise = λ i j x y l a b. h.rise (suc i) (suc j) x y (omega (arith, l)) a b }))

  pub keyed_sorted : (rows : List R) → T (is_sorted order (rows_with_keys order key rows))
  keyed_sorted [] = tt
  keyed_sorted (row ∷ rows) = is_sorted-put order o (key row) row (rows_with_keys order key rows) (keyed_sorted rows)

  pub find_keyed : (q : K) (rows : List R) → entries.find order q (rows_with_keys order key rows) ≡ find (λ row. eq_by_cmp order q (key row)) rows
  find_keyed q [] = refl
  find_keyed q (row ∷ rows) =
      find-put order o q (key row) row (rows_with_keys order key rows)
      ∙ ap (λ r. cond (eq_by_cmp order q (key row)) (Some row) r) (find_keyed q rows)

  pub find_paired : (q : K) (rows : List R) → entries.find order q (paired rows) ≡ find (λ row. eq_by_cmp order q (key row)) rows
  find_paired q [] = refl
  find_paired q (row ∷ rows) = ap (λ r. cond (eq_by_cmp order q (key row)) (Some row) r) (find_paired q rows)

  values_paired : (rows : List R) → map (λ entry. entry.1) (paired rows) ≡ rows
  values_paired [] = refl
  values_paired (row ∷ rows) = ap (λ rest. row ∷ rest) (values_paired rows)

  -- of rising rows one at most has a key
  one_row : (rows : List R) → Rises rows → (q : K) (x y : R) → Contains rows x → Contains rows y → eq_by_cmp order q (key x) ≡ true → eq_by_cmp order q (key y) ≡ true → x ≡ y
  one_row rows h q x y a b p r =
      let left : slice_get rows a.0 ≡ Some x = get_at rows a.0 x a.1 a.2 in
      let right : slice_get rows b.0 ≡ Some y = get_at rows b.0 y b.1 b.2 in
      let tied : order (key x) (key y) ≡ Equal = sym (o.congr q (key x) (key y) (equal_is _ p)) ∙ equal_is _ r in
      let back : order (key y) (key x) ≡ Equal = sym (o.congr q (key y) (key x) (equal_is _ r)) ∙ equal_is _ p in
      cases (λ e. some_same _ _ (sym left ∙ ap (slice_get rows) e ∙ right))
      (λ e. cases (λ l. absurd (less_equal (sym (h.rise a.0 b.0 x y l left right) ∙ tied))) (λ l. absurd (less_equal (sym (h.rise b.0 a.0 y x l right left) ∙ back))) e)
      (cases_order a.0 b.0)

  -- a list whose keys strictly rise is what `listed` lists, where each key is found in it as in the rows
  pub listed-found : (rows sorted : List R) → ((q : K) → find (λ row. eq_by_cmp order q (key row)) rows ≡ find (λ row. eq_by_cmp order q (key row)) sorted) → Rises sorted → rows_by_key order key rows ≡ sorted
  unfolding rows_by_key
  listed-found rows sorted found h =
      ap (map (λ entry. entry.1)) (same_entries order o same (rows_with_keys order key rows) (paired sorted) (keyed_sorted rows) (sorted_pairs sorted h)
      (λ q. find_keyed q rows ∙ found q ∙ sym (find_paired q sorted)))
      ∙ values_paired sorted

  -- a list of the same rows whose keys strictly rise is what `listed` lists
  pub listed-permutation : (rows sorted : List R) → IsPermutation rows sorted → Rises sorted → rows_by_key order key rows ≡ sorted
  listed-permutation rows sorted p h =
      listed-found rows sorted (λ q. find-permutation (λ row. eq_by_cmp order q (key row)) rows sorted p (one_row sorted h q)) h
