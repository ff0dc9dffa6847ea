-- Rows by rising keys, as `keyed` and `listed` list them: one row more, rows made of others, and what is found.
use Rattle.std.proofs.Common.{◌≡◌, ℕ, zero, suc, ◌+◌, ◌<◌, ◌≤◌, Bool, true, false, ◌&&◌, ◌||◌, cond, List, [], ◌∷◌, ◌++◌, length, map, refl, sym, ap, subst, ◌∙◌, arith, T}
use Rattle.std.specs.Prelude.{slice_get, find, Some, is_some}
use Rattle.std.specs.Ordering.{is_lt, eq_by_cmp}
use Rattle.std.specs.Cmp.{IsTotalOrder}
use Rattle.std.specs.List.{list_any}
use Rattle.std.specs.declared.cmp.Ordering.{Ordering}
use Rattle.std.specs.declared.cmp.Ordering.TheVariants.{Less, Equal, Greater}
use Rattle.std.specs.FinMap.Entries as entries
use Rattle.std.specs.FinMap.Entries.{put, by_order, below_all, is_sorted, is_sorted-put, find-put, same_entries}
use Rattle.sched_load_defs.specs.Numbers.{rows_with_keys, rows_by_key}
use Rattle.std.proofs.lemmas.List.{length-map}
use Rattle.std.proofs.lemmas.Option.{none-some as none_some, same_Some}
use Rattle.sched_load_defs.proofs.Listing.{find_keyed, keyed_sorted, find_paired, paired, equal_is, Rises}

first_of : (a b : Bool) → T (a && b) → T a
first_of true b p = tt
first_of false b p = p

second_of : (a b : Bool) → T (a && b) → T b
second_of true b p = p
second_of false b p = absurd p

less_from : (r : Ordering) → T (is_lt r) → r ≡ Less
less_from Less p = refl
less_from Equal p = absurd p
less_from Greater p = absurd p

-- a search in a list with one element more, which is the one that passes where another does
pub find_push : {X : Type 0} (test : X → Bool) (xs : List X) (x : X) → ((k : ℕ) (y : X) → slice_get xs k ≡ Some y → test y ≡ true → test x ≡ true → y ≡ x) → find test (xs ++ x ∷ []) ≡ cond (test x) (Some x) (find test xs)
find_push test [] x same = refl
find_push test (y ∷ ys) x same = by (test y) (test x) refl refl (find_push test ys x (λ k z. same (suc k) z))
  where
    by : (b c : Bool) → test y ≡ b → test x ≡ c → find test (ys ++ x ∷ []) ≡ cond (test x) (Some x) (find test ys) → cond b (Some y) (find test (ys ++ x ∷ [])) ≡ cond c (Some x) (cond b (Some y) (find test ys))
    by true true p q r = ap (λ z. Some z) (same 0 y refl p q)
    by true false p q r = refl
    by false c p q r = r ∙ ap (λ b. cond b (Some x) (find test ys)) q

-- whether one passes is whether one is found
pub any_found : {X : Type 0} (test : X → Bool) (xs : List X) → list_any test xs ≡ is_some (find test xs)
any_found test [] = refl
any_found test (x ∷ xs) = by (test x) (any_found test xs)
  where
    by : (b : Bool) → list_any test xs ≡ is_some (find test xs) → (b || list_any test xs) ≡ is_some (cond b (Some x) (find test xs))
    by true r = refl
    by false r = r

module _ {K R : Type 0} (order : K → K → Ordering) (o : IsTotalOrder order) (same : (x y : K) → order x y ≡ Equal → x ≡ y) (key : R → K) where
  -- rows with one more, which is the one with its key where another row has it
  pub keyed_push : (rows : List R) (row : R) → ((k : ℕ) (x : R) → slice_get rows k ≡ Some x → order (key row) (key x) ≡ Equal → x ≡ row) → rows_with_keys order key (rows ++ row ∷ []) ≡ put order (key row) row (rows_with_keys order key rows)
  keyed_push rows row alone =
      same_entries order o same (rows_with_keys order key (rows ++ row ∷ [])) (put order (key row) row (rows_with_keys order key rows))
      (keyed_sorted order o same key (rows ++ row ∷ [])) (is_sorted-put order o (key row) row (rows_with_keys order key rows) (keyed_sorted order o same key rows))
      (λ q. find_keyed order o same key q (rows ++ row ∷ [])
      ∙ find_push (λ r. eq_by_cmp order q (key r)) rows row (λ k x at p r. alone k x at (sym (o.congr q (key row) (key x) (equal_is _ r)) ∙ equal_is _ p))
      ∙ ap (cond (eq_by_cmp order q (key row)) (Some row)) (sym (find_keyed order o same key q rows))
      ∙ sym (find-put order o q (key row) row (rows_with_keys order key rows)))

  put_paired : (row : R) (rows : List R) → (rest : List R) × (put order (key row) row (paired order o same key rows) ≡ paired order o same key rest)
  put_paired row [] = (row ∷ [], refl)
  put_paired row (r ∷ rows) = by (order (key row) (key r)) refl (put_paired row rows)
    where
      by : (a : Ordering) → order (key row) (key r) ≡ a → (rest : List R) × (put order (key row) row (paired order o same key rows) ≡ paired order o same key rest)
          → (rest : List R) × (by_order a ((key row, row) ∷ (key r, r) ∷ paired order o same key rows) ((key r, row) ∷ paired order o same key rows) ((key r, r) ∷ put order (key row) row (paired order o same key rows)) ≡ paired order o same key rest)
      by Less e more = (row ∷ r ∷ rows, refl)
      by Equal e more = (row ∷ rows, ap (λ k. (k, row) ∷ paired order o same key rows) (sym (same _ _ e)))
      by Greater e more = (r ∷ more.0, ap (λ rest. (key r, r) ∷ rest) more.1)

  -- each row stands under its key
  some_paired : (rows : List R) → (rest : List R) × (rows_with_keys order key rows ≡ paired order o same key rest)
  some_paired [] = ([], refl)
  some_paired (row ∷ rows) =
      let more = some_paired rows in
      let this = put_paired row more.0 in
      (this.0, ap (put order (key row) row) more.1 ∙ this.1)

  values_of_paired : (rows : List R) → map (λ entry. entry.1) (paired order o same key rows) ≡ rows
  values_of_paired [] = refl
  values_of_paired (row ∷ rows) = ap (λ rest. row ∷ rest) (values_of_paired rows)

  pub keyed_paired : (rows : List R) → rows_with_keys order key rows ≡ paired order o same key (rows_by_key order key rows)
  unfolding rows_by_key
  keyed_paired rows =
      let some = some_paired rows in
      some.1 ∙ ap (paired order o same key) (sym (ap (map (λ entry. entry.1)) some.1 ∙ values_of_paired some.0))

  below_at : (k : K) (rows : List R) → T (below_all order k (paired order o same key rows)) → (j : ℕ) (y : R) → slice_get rows j ≡ Some y → order k (key y) ≡ Less
  below_at k [] h j y e = absurd (none_some y e)
  below_at k (row ∷ rows) h zero y e = subst (λ z. order k (key z) ≡ Less) (same_Some _ _ e) (less_from _ (first_of _ _ h))
  below_at k (row ∷ rows) h (suc j) y e = below_at k rows (second_of _ _ h) j y e

  rises_paired : (rows : List R) → T (is_sorted order (paired order o same key rows)) → (i j : ℕ) (x y : R) → i < j → slice_get rows i ≡ Some x → slice_get rows j ≡ Some y → order (key x) (key y) ≡ Less
  rises_paired [] h i j x y l a b = absurd (none_some x a)
  rises_paired (row ∷ rows) h i zero x y l a b = absurd (omega (arith, l))
  rises_paired (row ∷ rows) h zero (suc j) x y l a b = subst (λ z. order (key z) (key y) ≡ Less) (same_Some _ _ a) (below_at (key row) rows (first_of _ _ h) j y b)
  rises_paired (row ∷ rows) h (suc i) (suc j) x y l a b = rises_paired rows (second_of _ _ h) i j x y (omega (arith, l)) a b

  -- rows that are listed have rising keys
  pub listed_rises : (rows : List R) → Rises order o same key (rows_by_key order key rows)
  listed_rises rows = record { rise = rises_paired (rows_by_key order key rows) (subst (λ es. T (is_sorted order es)) (keyed_paired rows) (keyed_sorted order o same key rows)) }

  -- what is found among rows is found among the same rows by rising keys
  pub find_listed : (q : K) (rows : List R) → find (λ row. eq_by_cmp order q (key row)) (rows_by_key order key rows) ≡ find (λ row. eq_by_cmp order q (key row)) rows
  find_listed q rows =
      sym (find_paired order o same key q (rows_by_key order key rows)) ∙ ap (entries.find order q) (sym (keyed_paired rows)) ∙ find_keyed order o same key q rows

-- rows that are made of others are listed as these
module _ {K R S : Type 0} (order : K → K → Ordering) (key : S → K) (f : R → S) where
  pub put_map : (k : K) (row : R) (es : List (K × R)) → put order k (f row) (map (λ e. (e.0, f e.1)) es) ≡ map (λ e. (e.0, f e.1)) (put order k row es)
  put_map k row [] = refl
  put_map k row (e ∷ es) = by (order k e.0) (put_map k row es)
    where
      by : (a : Ordering) → put order k (f row) (map (λ e. (e.0, f e.1)) es) ≡ map (λ e. (e.0, f e.1)) (put order k row es)
          → by_order a ((k, f row) ∷ (e.0, f e.1) ∷ map (λ e. (e.0, f e.1)) es) ((e.0, f row) ∷ map (λ e. (e.0, f e.1)) es) ((e.0, f e.1) ∷ put order k (f row) (map (λ e. (e.0, f e.1)) es))
          ≡ map (λ e. (e.0, f e.1)) (by_order a ((k, row) ∷ e ∷ es) ((e.0, row) ∷ es) (e ∷ put order k row es))
      by Less r = refl
      by Equal r = refl
      by Greater r = ap (λ rest. (e.0, f e.1) ∷ rest) r

  pub keyed_map : (rows : List R) → rows_with_keys order key (map f rows) ≡ map (λ e. (e.0, f e.1)) (rows_with_keys order (λ row. key (f row)) rows)
  keyed_map [] = refl
  keyed_map (row ∷ rows) = ap (put order (key (f row)) (f row)) (keyed_map rows) ∙ put_map (key (f row)) row (rows_with_keys order (λ r. key (f r)) rows)

  values_map : (es : List (K × R)) → map (λ (e : K × S). e.1) (map (λ e. (e.0, f e.1)) es) ≡ map f (map (λ e. e.1) es)
  values_map [] = refl
  values_map (e ∷ es) = ap (λ rest. f e.1 ∷ rest) (values_map es)

  pub listed_map : (rows : List R) → rows_by_key order key (map f rows) ≡ map f (rows_by_key order (λ row. key (f row)) rows)
  unfolding rows_by_key
  listed_map rows = ap (map (λ (e : K × S). e.1)) (keyed_map rows) ∙ values_map (rows_with_keys order (λ row. key (f row)) rows)

-- there are no more keys than rows
module _ {K R : Type 0} (order : K → K → Ordering) (key : R → K) where
  put_short : (k : K) (row : R) (es : List (K × R)) → length (put order k row es) ≤ length es + 1
  put_short k row [] = omega arith
  put_short k row (e ∷ es) = by (order k e.0) (put_short k row es)
    where
      by : (a : Ordering) → length (put order k row es) ≤ length es + 1 → length (by_order a ((k, row) ∷ e ∷ es) ((e.0, row) ∷ es) (e ∷ put order k row es)) ≤ length (e ∷ es) + 1
      by Less h = omega arith
      by Equal h = omega arith
      by Greater h = omega arith

  pub keyed_short : (rows : List R) → length (rows_with_keys order key rows) ≤ length rows
  keyed_short [] = omega arith
  keyed_short (row ∷ rows) = let one = put_short (key row) row (rows_with_keys order key rows) in let rest = keyed_short rows in omega (arith, one, rest)

  pub listed_short : (rows : List R) → length (rows_by_key order key rows) ≤ length rows
  unfolding rows_by_key
  listed_short rows = let h = keyed_short rows in let l = length-map (rows_with_keys order key rows) (λ (e : K × R). e.1) in omega (arith, h, l)
