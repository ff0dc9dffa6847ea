-- The places of rows by rising ids, as a map of the ids gathers them.
use Rattle.std.proofs.Common.{◌≡◌, ℕ, zero, suc, ◌+◌, ◌<◌, ◌≤◌, Bool, true, false, ◌||◌, cond, T, List, [], ◌∷◌, length, map, take, get_or, refl, sym, ap, ◌∙◌, subst, arith}
use Rattle.std.specs.Prelude.{slice_get, Option, Some, None, is_some}
use Rattle.std.specs.Borrow.{Bor}
use Rattle.std.specs.declared.alloc.Global.{Global}
use Rattle.std.specs.declared.collections.BTreeMap.{BTreeMap}
use Rattle.std.specs.BTreeMap.{insert_entry, is_at, get}
use Rattle.std.specs.Map.{lookup}
use Rattle.std.specs.Ordering.{is_eq, eq_by_cmp, nat_cmp, match_ordering}
use Rattle.std.specs.Cmp.Lexicographic.{slice_cmp}
use Rattle.std.specs.FinMap.Entries as entries
use Rattle.std.specs.FinMap.Entries.{put, by_order}
use Rattle.std.specs.List.{list_any, range_with_len}
use Rattle.std.specs.declared.cmp.Ordering.{Ordering}
use Rattle.std.specs.declared.cmp.Ordering.TheVariants.{Less, Equal, Greater}
use Rattle.std.proofs.lemmas.Cmp.{nat_list_cmp_total}
use Rattle.std.proofs.lemmas.List.{length-map}
use Rattle.std.proofs.lemmas.List.FromFn.{fill_by_all}
use Rattle.std.proofs.lemmas.Option.{none-some as none_some, same_Some, slice_get_within}
use Rattle.order.proofs.Lists.{any_same, range_more}
use Rattle.sched_load_defs.specs.Numbers.{rows_with_keys, rows_by_key}
use Rattle.sched_load_defs.proofs.Listing.{find_keyed}
use Rattle.row_tables.specs.Order.{IsOrder, same_id, texts_seen}
use Rattle.row_tables.proofs.Keyed.{any_found, keyed_push, listed_map}
use Rattle.row_tables.proofs.Numbered.{text_same, turned}

pub true_false : true ≡ false → ⊥
true_false e = subst T e tt

-- where none passes, none in the list does
pub not_any : {X : Type 0} (test : X → Bool) (xs : List X) (k : ℕ) (x : X) → list_any test xs ≡ false → slice_get xs k ≡ Some x → test x ≡ false
not_any test [] k x none at = absurd (none_some x at)
not_any test (y ∷ ys) zero x none at = ap test (sym (same_Some _ _ at)) ∙ front (test y) none
  where
    front : (b : Bool) → (b || list_any test ys) ≡ false → b ≡ false
    front true e = e
    front false e = refl
not_any test (y ∷ ys) (suc k) x none at = not_any test ys k x (rest (test y) none) at
  where
    rest : (b : Bool) → (b || list_any test ys) ≡ false → list_any test ys ≡ false
    rest true e = absurd (true_false e)
    rest false e = e

-- a map's own words are those of the definitions
pub inserted : {K V : Type 0} (order : K → K → Ordering) (k : K) (v : V) (es : List (K × V)) → insert_entry order es k v ≡ put order k v es
inserted order k v [] = refl
inserted order k v (e ∷ es) = by (order k e.0) (inserted order k v es)
  where
    by : (a : Ordering) → insert_entry order es k v ≡ put order k v es → match_ordering a ((k, v) ∷ e ∷ es) ((e.0, v) ∷ es) (e ∷ insert_entry order es k v) ≡ by_order a ((k, v) ∷ e ∷ es) ((e.0, v) ∷ es) (e ∷ put order k v es)
    by Less r = refl
    by Equal r = refl
    by Greater r = ap (λ rest. e ∷ rest) r

pub looked_up : {K V : Type 0} (order : K → K → Ordering) (k : K) (es : List (K × V)) → lookup (is_at (order k)) es ≡ entries.find order k es
looked_up order k [] = refl
looked_up order k (e ∷ es) = ap (cond (eq_by_cmp order k e.0) (Some e.1)) (looked_up order k es)

abbrev pub text_cmp : Bor (List ℕ) → Bor (List ℕ) → Ordering
text_cmp a b = slice_cmp nat_cmp a.now b.now

pub text_inserted : {V : Type 0} (k : Bor (List ℕ)) (v : V) (es : List (Bor (List ℕ) × V)) → texts_seen (insert_entry text_cmp es k v) ≡ put (slice_cmp nat_cmp) k.now v (texts_seen es)
text_inserted k v [] = refl
text_inserted k v (e ∷ es) = by (text_cmp k e.0) (text_inserted k v es)
  where
    by : (a : Ordering) → texts_seen (insert_entry text_cmp es k v) ≡ put (slice_cmp nat_cmp) k.now v (texts_seen es)
        → texts_seen (match_ordering a ((k, v) ∷ e ∷ es) ((e.0, v) ∷ es) (e ∷ insert_entry text_cmp es k v)) ≡ by_order a ((k.now, v) ∷ texts_seen (e ∷ es)) (((e.0).now, v) ∷ texts_seen es) (((e.0).now, e.1) ∷ put (slice_cmp nat_cmp) k.now v (texts_seen es))
    by Less r = refl
    by Equal r = refl
    by Greater r = ap (λ rest. ((e.0).now, e.1) ∷ rest) r

pub text_looked_up : {V : Type 0} (k : Bor (List ℕ)) (es : List (Bor (List ℕ) × V)) → lookup (is_at (text_cmp k)) es ≡ entries.find (slice_cmp nat_cmp) k.now (texts_seen es)
text_looked_up k [] = refl
text_looked_up k (e ∷ es) = ap (cond (eq_by_cmp (slice_cmp nat_cmp) k.now (e.0).now) (Some e.1)) (text_looked_up k es)

pub any_map : {X Y : Type 0} (test : Y → Bool) (f : X → Y) (xs : List X) → list_any (λ x. test (f x)) xs ≡ list_any test (map f xs)
any_map test f [] = refl
any_map test f (x ∷ xs) = ap (λ b. test (f x) || b) (any_map test f xs)

module _ {R : Type 0} (id_of : R → List ℕ) where
  -- the id of a row, if there is one
  abbrev pub id_in : Option R → List ℕ
  id_in None = []
  id_in (Some row) = id_of row

  abbrev pub id_at : List R → ℕ → List ℕ
  id_at rows place = id_in (slice_get rows place)

  -- the places of the first rows by rising ids
  abbrev pub places_taken : List R → ℕ → List (List ℕ × ℕ)
  places_taken rows n = rows_with_keys (slice_cmp nat_cmp) (id_at rows) (range_with_len 0 n)

  id_taken : (rows : List R) (n k : ℕ) → n ≤ length rows → k < n → get_or (map id_of (take n rows)) k [] ≡ id_at rows k
  id_taken [] n k h l = absurd (omega (arith, h, l))
  id_taken (row ∷ rows) zero k h l = absurd (omega (arith, l))
  id_taken (row ∷ rows) (suc n) zero h l = refl
  id_taken (row ∷ rows) (suc n) (suc k) h l = id_taken rows n k (omega (arith, h)) (omega (arith, l))

  length_taken : (rows : List R) (n : ℕ) → n ≤ length rows → length (map id_of (take n rows)) ≡ n
  length_taken rows zero h = refl
  length_taken [] (suc n) h = absurd (omega (arith, h))
  length_taken (row ∷ rows) (suc n) h = let rest = length_taken rows n (omega (arith, h)) in omega (arith, rest)

  ids_taken : (rows : List R) (n : ℕ) → n ≤ length rows → map id_of (take n rows) ≡ map (id_at rows) (range_with_len 0 n)
  ids_taken rows n h = fill_by_all (id_at rows) (map id_of (take n rows)) n [] (length_taken rows n h) (λ k l. id_taken rows n k h l)

  -- whether a place has an id is whether its row has
  twin_any : (rows : List R) (n : ℕ) (row : R) → n ≤ length rows → list_any (λ i. eq_by_cmp (slice_cmp nat_cmp) (id_of row) (id_at rows i)) (range_with_len 0 n) ≡ list_any (λ e. same_id id_of e row) (take n rows)
  twin_any rows n row h =
      any_map (eq_by_cmp (slice_cmp nat_cmp) (id_of row)) (id_at rows) (range_with_len 0 n)
      ∙ ap (list_any (eq_by_cmp (slice_cmp nat_cmp) (id_of row))) (sym (ids_taken rows n h))
      ∙ sym (any_map (eq_by_cmp (slice_cmp nat_cmp) (id_of row)) id_of (take n rows))
      ∙ any_same (λ e. eq_by_cmp (slice_cmp nat_cmp) (id_of row) (id_of e)) (λ e. same_id id_of e row) (take n rows) (λ e. sym (turned (id_of row) (id_of e)))

  -- whether a place is found under an id is whether one of the first rows has it
  pub found_twin : (rows : List R) (n : ℕ) (row : R) → n ≤ length rows → is_some (entries.find (slice_cmp nat_cmp) (id_of row) (places_taken rows n)) ≡ list_any (λ e. same_id id_of e row) (take n rows)
  found_twin rows n row h =
      ap is_some (find_keyed (slice_cmp nat_cmp) nat_list_cmp_total text_same (id_at rows) (id_of row) (range_with_len 0 n))
      ∙ sym (any_found (λ i. eq_by_cmp (slice_cmp nat_cmp) (id_of row) (id_at rows i)) (range_with_len 0 n))
      ∙ twin_any rows n row h

  -- where no first row has the id of the next, that one's place stands under its id
  pub places_more : (rows : List R) (n : ℕ) (row : R) → slice_get rows n ≡ Some row → list_any (λ e. same_id id_of e row) (take n rows) ≡ false → places_taken rows (n + 1) ≡ put (slice_cmp nat_cmp) (id_of row) n (places_taken rows n)
  places_more rows n row at fresh =
      let none : list_any (λ i. eq_by_cmp (slice_cmp nat_cmp) (id_of row) (id_at rows i)) (range_with_len 0 n) ≡ false =
      twin_any rows n row (let within = slice_get_within rows n row at in omega (arith, within)) ∙ fresh in
      let more : 0 + n ≡ n = omega arith in
      ap (rows_with_keys (slice_cmp nat_cmp) (id_at rows)) (range_more 0 n n more)
      ∙ keyed_push (slice_cmp nat_cmp) nat_list_cmp_total text_same (id_at rows) (range_with_len 0 n) n
      (λ k x is tied. absurd (true_false (sym (ap is_eq (ap (λ i. slice_cmp nat_cmp i (id_at rows x)) (sym (ap id_in at)) ∙ tied)) ∙ not_any (λ i. eq_by_cmp (slice_cmp nat_cmp) (id_of row) (id_at rows i)) (range_with_len 0 n) k x none is)))
      ∙ ap (λ i. put (slice_cmp nat_cmp) i n (places_taken rows n)) (ap id_in at)

  some_read : (rows : List R) (k : ℕ) → k < length rows → get_or (map (λ row. Some row) rows) k None ≡ slice_get rows k
  some_read [] k h = absurd (omega (arith, h))
  some_read (row ∷ rows) zero h = refl
  some_read (row ∷ rows) (suc k) h = some_read rows k (omega (arith, h))

  rows_read : (rows : List R) → map (λ row. Some row) rows ≡ map (slice_get rows) (range_with_len 0 (length rows))
  rows_read rows = fill_by_all (slice_get rows) (map (λ row. Some row) rows) (length rows) None (length-map rows (λ row. Some row)) (some_read rows)

  -- the places of all rows are their order
  pub places_order : (rows : List R) → IsOrder id_of rows (map (λ entry. entry.1) (places_taken rows (length rows)))
  unfolding rows_by_key
  places_order rows = record {
    rows_are =
        sym (listed_map (slice_cmp nat_cmp) id_in (slice_get rows) (range_with_len 0 (length rows)))
        ∙ ap (rows_by_key (slice_cmp nat_cmp) id_in) (sym (rows_read rows))
        ∙ listed_map (slice_cmp nat_cmp) id_in (λ row. Some row) rows;
  }

  -- whether a place was found under the id of the next row is whether one of the first rows has it
  pub twin_is : (rows : List R) (n : ℕ) (row : R) (m : BTreeMap (Bor (List ℕ)) ℕ Global) (k : Bor (List ℕ)) (old : Option ℕ) (b : Bool) → slice_get rows n ≡ Some row → texts_seen m.entries ≡ places_taken rows n → k.now ≡ id_of row → old ≡ get text_cmp m k → is_some old ≡ b → list_any (λ e. same_id id_of e row) (take n rows) ≡ b
  twin_is rows n row m k old b at placed key was said =
      let within : n ≤ length rows = let h = slice_get_within rows n row at in omega (arith, h) in
      sym (found_twin rows n row within)
      ∙ ap is_some (ap (λ i. entries.find (slice_cmp nat_cmp) i (places_taken rows n)) (sym key) ∙ ap (entries.find (slice_cmp nat_cmp) k.now) (sym placed) ∙ sym (text_looked_up k m.entries) ∙ sym was)
      ∙ said

  pub placed_more : (rows : List R) (n : ℕ) (row : R) (before after : List (Bor (List ℕ) × ℕ)) (k : Bor (List ℕ)) → slice_get rows n ≡ Some row → texts_seen before ≡ places_taken rows n → k.now ≡ id_of row → after ≡ insert_entry text_cmp before k n → list_any (λ e. same_id id_of e row) (take n rows) ≡ false → texts_seen after ≡ places_taken rows (n + 1)
  placed_more rows n row before after k at placed key inserted_is fresh =
      ap texts_seen inserted_is ∙ text_inserted k n before ∙ ap (λ i. put (slice_cmp nat_cmp) i n (texts_seen before)) key ∙ ap (put (slice_cmp nat_cmp) (id_of row) n) placed
      ∙ sym (places_more rows n row at fresh)

  -- the places of all rows, as they are read from the map
  pub placed_all : (rows : List R) (n : ℕ) (order : List ℕ) → n ≡ length rows → order ≡ map (λ entry. entry.1) (places_taken rows n) → IsOrder id_of rows order
  placed_all rows n order all is = subst (IsOrder id_of rows) (sym (is ∙ ap (λ m. map (λ (entry : List ℕ × ℕ). entry.1) (places_taken rows m)) all)) (places_order rows)
