-- Rows in groups: a value more stands in the group of its number.
use Rattle.std.proofs.Common.{◌≡◌, ℕ, zero, suc, ◌+◌, ◌<◌, Bool, true, false, not, ◌&&◌, ◌||◌, cond, List, [], ◌∷◌, ◌++◌, length, map, get_or, set, take, refl, sym, ap, ◌∙◌, arith}
use Rattle.std.specs.Prelude.{slice_get, Option, Some, is_some, is_none, unwrap_or}
use Rattle.std.specs.declared.alloc.Global.{Global}
use Rattle.std.specs.declared.collections.BTreeMap.{BTreeMap}
use Rattle.std.specs.BTreeMap.{insert_entry, get}
use Rattle.std.specs.FinMap.Entries as entries
use Rattle.std.specs.FinMap.Entries.{put}
use Rattle.std.specs.Ordering.{nat_cmp}
use Rattle.std.proofs.lemmas.List.{map-set}
use Rattle.sched_load.specs.Listed.{PutsNew, entries_of, entry_in}
use Rattle.std.specs.Prelude.{filter, bytes_eq, ◌==◌}
use Rattle.std.specs.List.{list_any}
use Rattle.std.specs.Ordering.{eq_by_cmp, is_eq}
use Rattle.std.specs.FinMap.{nat_cmp-IsAntisymmetric}
use Rattle.std.proofs.lemmas.Bool.Decides.{nat_tests}
use Rattle.std.proofs.lemmas.Cmp.{nat_cmp_total}
use Rattle.std.proofs.lemmas.List.{map-append}
use Rattle.std.proofs.lemmas.List.Elements.{filter-append}
use Rattle.std.proofs.lemmas.Option.{none-some as none_some, same_Some, slice_get-map}
use Rattle.sched_types.specs.Timetable.{RisesById, number_of}
use Rattle.sched_types.proofs.TimetableLaws.{number_leads, one_row}
use Rattle.sched_load_defs.specs.Numbers.{rows_with_keys}
use Rattle.std.specs.Prelude.{option_map}
use Rattle.sched_load_defs.proofs.Listing.{find_keyed}
use Rattle.row_tables.proofs.Numbered.{text_from, text_itself}
use Rattle.std.proofs.lemmas.List.{append-nil}
use Rattle.sched_load.specs.Listed.{group_of}
use Rattle.row_tables.proofs.Keyed.{any_found, keyed_push}
use Rattle.row_tables.proofs.Places.{inserted, looked_up, not_any, true_false}

-- the entries of one of many maps
entries_at : {V : Type 0} (maps : List (BTreeMap ℕ V Global)) (n : ℕ) (m : BTreeMap ℕ V Global) → n < length maps → m ≡ get_or maps n m → unwrap_or (slice_get (entries_of maps) n) [] ≡ m.entries
entries_at [] n m h e = absurd (omega (arith, h))
entries_at (x ∷ xs) zero m h e = ap (λ y. y.entries) (sym e)
entries_at (x ∷ xs) (suc n) m h e = entries_at xs n m (omega (arith, h)) e

not_some : {V : Type 0} (o : Option V) (fresh : Bool) → is_some o ≡ not fresh → fresh ≡ is_none o
not_some o fresh e = grind arith

pub put_in : {V : Type 0} (maps : List (BTreeMap ℕ V Global)) (n key : ℕ) (value : V) (m after : BTreeMap ℕ V Global) (old : Option V) (fresh : Bool) → n < length maps → m ≡ get_or maps n m
    → old ≡ get nat_cmp m key → after.entries ≡ insert_entry nat_cmp m.entries key value → is_some old ≡ not fresh → PutsNew (entries_of maps) (entries_of (set maps n after)) n key value fresh
put_in maps n key value m after old fresh h at was put_is said =
    let here = entries_at maps n m h at in (
      not_some old fresh said ∙ ap is_none (was ∙ looked_up nat_cmp key m.entries ∙ ap (entries.find nat_cmp key) (sym here)),
      map-set (λ (x : BTreeMap ℕ _ Global). x.entries) maps n after
          ∙ ap (set (entries_of maps) n) (put_is ∙ inserted nat_cmp key value m.entries ∙ ap (put nat_cmp key value) (sym here)),
    )

-- the first elements, with the next
pub take_at : {X : Type 0} (xs : List X) (n : ℕ) (x : X) → slice_get xs n ≡ Some x → take (n + 1) xs ≡ take n xs ++ x ∷ []
take_at [] n x e = absurd (none_some x e)
take_at (y ∷ ys) zero x e = ap (λ z. z ∷ []) (same_Some _ _ e)
take_at (y ∷ ys) (suc n) x e = let more : suc n + 1 ≡ suc (n + 1) = omega arith in ap (λ k. take k (y ∷ ys)) more ∙ ap (λ zs. y ∷ zs) (take_at ys n x e)

-- a list whose elements are made anew, but for one place
pub map_set_at : {X Y : Type 0} (f h : X → Y) (xs : List X) (g : ℕ) (y : Y) → ((i : ℕ) (x : X) → slice_get xs i ≡ Some x → (i ≡ g → ⊥) → f x ≡ h x) → ((x : X) → slice_get xs g ≡ Some x → h x ≡ y) → set (map f xs) g y ≡ map h xs
map_set_at f h [] g y other here = refl
map_set_at f h (x ∷ xs) zero y other here = ap (λ z. z ∷ map f xs) (sym (here x refl)) ∙ ap (λ zs. h x ∷ zs) (map_but f h xs (λ i z at. other (suc i) z at (λ e. absurd (omega (arith, e)))))
  where
    map_but : {X Y : Type 0} (f h : X → Y) (xs : List X) → ((i : ℕ) (x : X) → slice_get xs i ≡ Some x → f x ≡ h x) → map f xs ≡ map h xs
    map_but f h [] same = refl
    map_but f h (x ∷ xs) same = ap (λ z. z ∷ map f xs) (same 0 x refl) ∙ ap (λ zs. h x ∷ zs) (map_but f h xs (λ i z at. same (suc i) z at))
map_set_at f h (x ∷ xs) (suc g) y other here =
    ap (λ z. z ∷ set (map f xs) g y) (other 0 x refl (λ e. absurd (omega (arith, e)))) ∙ ap (λ zs. h x ∷ zs) (map_set_at f h xs g y (λ i z at apart. other (suc i) z at (λ e. apart (omega (arith, e)))) here)

any_filter : {R V : Type 0} (p : R → Bool) (value : R → V) (test : V → Bool) (rows : List R) → list_any test (map value (filter p rows)) ≡ list_any (λ row. p row && test (value row)) rows
any_filter p value test [] = refl
any_filter p value test (row ∷ rows) = grind (arith, any_filter p value test rows)

any_alike : {X : Type 0} (p q : X → Bool) (xs : List X) → ((x : X) → p x ≡ q x) → list_any p xs ≡ list_any q xs
any_alike p q [] same = refl
any_alike p q (x ∷ xs) same = ap (λ b. b || list_any p xs) (same x) ∙ ap (λ b. q x || b) (any_alike p q xs same)

pub turned_eq : (a b : ℕ) → eq_by_cmp nat_cmp a b ≡ (b == a)
turned_eq a b = grind (arith, nat_tests)

not_both : (a b : Bool) → a ≡ b → a ≡ true → b ≡ false → ⊥
not_both a b e t f = true_false (sym t ∙ e ∙ f)

none_of : {V : Type 0} (o : Option V) → is_none o ≡ true → is_some o ≡ false
none_of o e = grind (arith, true_false)

not_none : {V : Type 0} (o : Option V) (fresh : Bool) → fresh ≡ is_none o → is_some o ≡ not fresh
not_none o fresh e = grind arith

module _ {R V X : Type 0} (gid : R → List ℕ) (key : V → ℕ) (value : R → V) (id_of : X → List ℕ) (xs : List X) (up : RisesById id_of xs) (rows : List R) where
  -- the groups of the first rows
  abbrev pub groups_taken : ℕ → List (List (ℕ × V))
  groups_taken n = map (λ x. group_of gid key value (take n rows) (id_of x)) xs

  module _ (n : ℕ) (row : R) (at : slice_get rows n ≡ Some row) (g : ℕ) (number : number_of id_of xs (gid row) ≡ Some g) where
    own_group : unwrap_or (slice_get (groups_taken n) g) [] ≡ group_of gid key value (take n rows) (gid row)
    own_group =
        let x = number_leads id_of xs (gid row) g number in
        ap (λ o. unwrap_or o []) (slice_get-map (λ y. group_of gid key value (take n rows) (id_of y)) xs g ∙ ap (option_map (λ y. group_of gid key value (take n rows) (id_of y))) x.at)
        ∙ ap (group_of gid key value (take n rows)) x.has

    -- whether a value stands under the key is whether one of the first rows has the group and the key
    pub group_twin : is_some (entry_in (groups_taken n) g (key (value row))) ≡ list_any (λ e. bytes_eq (gid e) (gid row) && (key (value e) == key (value row))) (take n rows)
    group_twin =
        ap (λ es. is_some (entries.find nat_cmp (key (value row)) es)) own_group
        ∙ ap is_some (find_keyed nat_cmp nat_cmp_total nat_cmp-IsAntisymmetric key (key (value row)) (map value (filter (λ e. bytes_eq (gid e) (gid row)) (take n rows))))
        ∙ sym (any_found (λ v. eq_by_cmp nat_cmp (key (value row)) (key v)) (map value (filter (λ e. bytes_eq (gid e) (gid row)) (take n rows))))
        ∙ any_filter (λ e. bytes_eq (gid e) (gid row)) value (λ v. eq_by_cmp nat_cmp (key (value row)) (key v)) (take n rows)
        ∙ any_alike (λ e. bytes_eq (gid e) (gid row) && eq_by_cmp nat_cmp (key (value row)) (key (value e))) (λ e. bytes_eq (gid e) (gid row) && (key (value e) == key (value row))) (take n rows)
        (λ e. ap (λ b. bytes_eq (gid e) (gid row) && b) (turned_eq (key (value row)) (key (value e))))

    filter_more : (id : List ℕ) (b : Bool) → bytes_eq (gid row) id ≡ b → filter (λ e. bytes_eq (gid e) id) (take (n + 1) rows) ≡ filter (λ e. bytes_eq (gid e) id) (take n rows) ++ cond b (row ∷ []) []
    filter_more id b e =
        ap (filter (λ e. bytes_eq (gid e) id)) (take_at rows n row at) ∙ filter-append (λ e. bytes_eq (gid e) id) (take n rows) (row ∷ [])
        ∙ ap (λ c. filter (λ e. bytes_eq (gid e) id) (take n rows) ++ cond c (row ∷ []) []) e

    other_id : (i : ℕ) (x : X) → slice_get xs i ≡ Some x → (i ≡ g → ⊥) → bytes_eq (gid row) (id_of x) ≡ false
    other_id i x is apart = by (bytes_eq (gid row) (id_of x)) refl
      where
        by : (b : Bool) → bytes_eq (gid row) (id_of x) ≡ b → b ≡ false
        by false e = refl
        by true e = let own = number_leads id_of xs (gid row) g number in absurd (apart (one_row id_of xs up i g x own.row is own.at (sym (text_from (gid row) (id_of x) e) ∙ sym own.has)))

    group_push : list_any (λ e. bytes_eq (gid e) (gid row) && (key (value e) == key (value row))) (take n rows) ≡ false → group_of gid key value (take (n + 1) rows) (gid row) ≡ put nat_cmp (key (value row)) (value row) (group_of gid key value (take n rows) (gid row))
    group_push fresh =
        let vs = map value (filter (λ e. bytes_eq (gid e) (gid row)) (take n rows)) in
        let none : list_any (λ v. eq_by_cmp nat_cmp (key (value row)) (key v)) vs ≡ false =
        any_found (λ v. eq_by_cmp nat_cmp (key (value row)) (key v)) vs
        ∙ sym (ap is_some (find_keyed nat_cmp nat_cmp_total nat_cmp-IsAntisymmetric key (key (value row)) vs))
        ∙ sym (ap (λ es. is_some (entries.find nat_cmp (key (value row)) es)) own_group) ∙ group_twin ∙ fresh in
        ap (λ rs. rows_with_keys nat_cmp key (map value rs)) (filter_more (gid row) true (text_itself (gid row)))
        ∙ ap (rows_with_keys nat_cmp key) (map-append value (filter (λ e. bytes_eq (gid e) (gid row)) (take n rows)) (row ∷ []))
        ∙ keyed_push nat_cmp nat_cmp_total nat_cmp-IsAntisymmetric key vs (value row)
        (λ k v is tied. absurd (true_false (sym (ap is_eq tied) ∙ not_any (λ w. eq_by_cmp nat_cmp (key (value row)) (key w)) vs k v none is)))

    pub groups_more : (after : List (List (ℕ × V))) (fresh : Bool) → PutsNew (groups_taken n) after g (key (value row)) (value row) fresh → fresh ≡ true → after ≡ groups_taken (n + 1)
    groups_more after fresh puts new =
        let none = sym group_twin ∙ none_of (entry_in (groups_taken n) g (key (value row))) (sym puts.0 ∙ new) in
        puts.1
        ∙ ap (λ es. set (groups_taken n) g (put nat_cmp (key (value row)) (value row) es)) own_group
        ∙ map_set_at (λ x. group_of gid key value (take n rows) (id_of x)) (λ x. group_of gid key value (take (n + 1) rows) (id_of x)) xs g (put nat_cmp (key (value row)) (value row) (group_of gid key value (take n rows) (gid row)))
        (λ i x is apart. ap (λ rs. rows_with_keys nat_cmp key (map value rs)) (sym (filter_more (id_of x) false (other_id i x is apart) ∙ append-nil _)))
        (λ x is. let own = number_leads id_of xs (gid row) g number in ap (group_of gid key value (take (n + 1) rows)) (ap id_of (same_Some _ _ (sym is ∙ own.at)) ∙ own.has) ∙ group_push none)

    pub group_judged : (after : List (List (ℕ × V))) (fresh : Bool) → PutsNew (groups_taken n) after g (key (value row)) (value row) fresh → list_any (λ e. bytes_eq (gid e) (gid row) && (key (value e) == key (value row))) (take n rows) ≡ not fresh
    group_judged after fresh puts = sym group_twin ∙ not_none (entry_in (groups_taken n) g (key (value row))) fresh puts.0
