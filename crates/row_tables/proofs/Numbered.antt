-- Rows by their numbers, and the number of an id.
use Rattle.std.proofs.Common.{◌≡◌, ℕ, zero, suc, ◌+◌, ◌<◌, ◌≤◌, Bool, true, false, cond, nat_lt, List, [], ◌∷◌, length, get_or, position, refl, sym, ap, subst, ◌∙◌, arith, inl, inr, ◌⊎◌}
use Rattle.std.specs.Prelude.{slice_get, find, bytes_eq, Option, Some, None, is_some, option_map}
use Rattle.std.specs.Ordering.{is_eq, eq_by_cmp, nat_cmp, ordering_reverse}
use Rattle.std.specs.Cmp.{tied_itself}
use Rattle.std.specs.Cmp.Lexicographic.{slice_cmp}
use Rattle.std.specs.List.{position_or_len}
use Rattle.std.specs.declared.cmp.Ordering.{Ordering}
use Rattle.std.specs.declared.cmp.Ordering.TheVariants.{Less, Equal, Greater}
use Rattle.std.specs.FinMap.{nat_cmp-IsAntisymmetric, slice_cmp-IsAntisymmetric}
use Rattle.std.proofs.lemmas.List.{length-map}
use Rattle.std.proofs.lemmas.Bool.{cases_lt, cases_order}
use Rattle.std.proofs.lemmas.Bool.Decides.{nat_tests}
use Rattle.std.proofs.lemmas.Cmp.{nat_list_cmp_total}
use Rattle.std.proofs.lemmas.List.Folds.{find_at}
use Rattle.std.proofs.lemmas.Map.Text.{is_eq-slice_cmp}
use Rattle.std.proofs.lemmas.Option.{slice_get-map, slice_get_within, slice_get_past, none-some as none_some, same_Some, slice_get-get_or}
use Rattle.sched_types.specs.Timetable.{RisesById, number_of}
use Rattle.sched_types.proofs.Found.{position_present, position_absent}
use Rattle.sched_load_defs.proofs.Listing.{equal_is}
use Rattle.sched_load_defs.specs.Numbers.{by_id}
use Rattle.sched_load_defs.specs.References.{has_id}
use Rattle.row_tables.specs.Order.{IsOrder}
use Rattle.row_tables.proofs.Keyed.{listed_rises, find_listed, any_found}

-- texts that compare as equal are one
pub text_same : (x y : List ℕ) → slice_cmp nat_cmp x y ≡ Equal → x ≡ y
text_same = slice_cmp-IsAntisymmetric nat_cmp-IsAntisymmetric

pub text_itself : (x : List ℕ) → bytes_eq x x ≡ true
text_itself x = sym (is_eq-slice_cmp x x) ∙ ap is_eq (tied_itself nat_list_cmp_total x)

pub text_from : (x y : List ℕ) → bytes_eq x y ≡ true → x ≡ y
text_from x y e = text_same x y (equal_is _ (is_eq-slice_cmp x y ∙ e))

-- ids of listed rows rise
pub ids_rise : {R : Type 0} (id_of : R → List ℕ) (rows : List R) → RisesById id_of (by_id id_of rows)
ids_rise id_of rows = record { rise = (listed_rises (slice_cmp nat_cmp) nat_list_cmp_total text_same id_of rows).rise }

-- the row at a place of the order
pub ordered_row : {R : Type 0} (id_of : R → List ℕ) (rows : List R) (order : List ℕ) → IsOrder id_of rows order → (number place : ℕ) (row : R) → slice_get order number ≡ Some place → slice_get (by_id id_of rows) number ≡ Some row → slice_get rows place ≡ Some row
ordered_row id_of rows order h number place row at is =
    same_Some _ _ (ap (option_map (slice_get rows)) (sym at) ∙ sym (slice_get-map (slice_get rows) order number) ∙ ap (λ xs. slice_get xs number) h.rows_are ∙ slice_get-map (λ r. Some r) (by_id id_of rows) number ∙ ap (option_map (λ r. Some r)) is)

pub order_length : {R : Type 0} (id_of : R → List ℕ) (rows : List R) (order : List ℕ) → IsOrder id_of rows order → length order ≡ length (by_id id_of rows)
order_length id_of rows order h = sym (length-map order (slice_get rows)) ∙ ap length h.rows_are ∙ length-map (by_id id_of rows) (λ r. Some r)

-- there is an element below the length
pub some_at : {X : Type 0} (xs : List X) (i : ℕ) → i < length xs → (x : X) × (slice_get xs i ≡ Some x)
some_at [] i h = absurd (omega arith)
some_at (x ∷ xs) zero h = (x, refl)
some_at (x ∷ xs) (suc i) h = some_at xs i (omega arith)

-- an element that is read at a place
pub read_at : {X : Type 0} (xs : List X) (i : ℕ) (x y : X) → slice_get xs i ≡ Some y → x ≡ get_or xs i x → x ≡ y
read_at [] i x y at is = absurd (none_some y at)
read_at (z ∷ zs) zero x y at is = is ∙ same_Some _ _ at
read_at (z ∷ zs) (suc i) x y at is = read_at zs i x y at is

-- the row that is read by its number lies within the rows
pub order_within : {R : Type 0} (id_of : R → List ℕ) (rows : List R) (order : List ℕ) → IsOrder id_of rows order → (number place : ℕ) → number < length (by_id id_of rows) → place ≡ get_or order number place → place < length rows
order_within id_of rows order h number place within is =
    let long : number < length order = subst (λ n. number < n) (sym (order_length id_of rows order h)) within in
    let row = some_at (by_id id_of rows) number within in
    let at = some_at order number long in
    subst (λ p. p < length rows) (sym (read_at order number place at.0 at.1 is)) (slice_get_within rows at.0 row.0 (ordered_row id_of rows order h number at.0 row.0 at.1 row.1))

pub order_row : {R : Type 0} (id_of : R → List ℕ) (rows : List R) (order : List ℕ) → IsOrder id_of rows order → (number place : ℕ) (row : R) → number < length (by_id id_of rows) → place ≡ get_or order number place → row ≡ get_or rows place row → slice_get (by_id id_of rows) number ≡ Some row
order_row id_of rows order h number place row within is read =
    let long : number < length order = subst (λ n. number < n) (sym (order_length id_of rows order h)) within in
    let own = some_at (by_id id_of rows) number within in
    let at = some_at order number long in
    let there = ordered_row id_of rows order h number at.0 own.0 at.1 own.1 in
    own.1 ∙ ap (λ r. Some r) (sym (read_at rows place row own.0 (subst (λ p. slice_get rows p ≡ Some own.0) (sym (read_at order number place at.0 at.1 is)) there) read))

-- where a search by halves stands: the ids below one place are lower, and those from another on are higher
pub record Between {R : Type 0} (id_of : R → List ℕ) (rows : List R) (id : List ℕ) (low high : ℕ) : Type 0 where
  pub order : low ≤ high
  pub end : high ≤ length rows
  pub lower : (k : ℕ) (row : R) → k < low → slice_get rows k ≡ Some row → slice_cmp nat_cmp (id_of row) id ≡ Less
  pub higher : (k : ℕ) (row : R) → high ≤ k → slice_get rows k ≡ Some row → slice_cmp nat_cmp (id_of row) id ≡ Greater

pub between_all : {R : Type 0} (id_of : R → List ℕ) (rows : List R) (id : List ℕ) → Between id_of rows id 0 (length rows)
between_all id_of rows id = record { order = omega arith; end = omega arith; lower = λ k row h at. absurd (omega (arith, h)); higher = λ k row h at. absurd (omega (arith, h, slice_get_within rows k row at)) }

module _ {R : Type 0} (id_of : R → List ℕ) (rows : List R) (up : RisesById id_of rows) (id : List ℕ) where
  pub between_right : (low high middle : ℕ) (row : R) → Between id_of rows id low high → middle < high → slice_get rows middle ≡ Some row → slice_cmp nat_cmp (id_of row) id ≡ Less → Between id_of rows id (middle + 1) high
  between_right low high middle row b h at less = record {
    order = omega arith;
    end = b.end;
    lower = λ k r below is. elim (cases_order k middle) as (λ _. slice_cmp nat_cmp (id_of r) id ≡ Less) [
      | inl same ↦ subst (λ z. slice_cmp nat_cmp (id_of z) id ≡ Less) (same_Some _ _ (sym at ∙ ap (slice_get rows) (sym same) ∙ is)) less
      | inr other ↦ elim other as (λ _. slice_cmp nat_cmp (id_of r) id ≡ Less) [
        | inl before ↦ nat_list_cmp_total.trans (id_of r) (id_of row) id (up.rise k middle r row before is at) less
        | inr behind ↦ absurd (omega (arith, below, behind))
      ]
    ];
    higher = b.higher;
  }

  above_higher : (x y : List ℕ) → slice_cmp nat_cmp x id ≡ Greater → slice_cmp nat_cmp x y ≡ Less → slice_cmp nat_cmp y id ≡ Greater
  above_higher x y g l =
      let less : slice_cmp nat_cmp id x ≡ Less = nat_list_cmp_total.antisymm id x ∙ ap ordering_reverse g in
      nat_list_cmp_total.antisymm y id ∙ ap ordering_reverse (nat_list_cmp_total.trans id x y less l)

  pub between_left : (low high middle : ℕ) (row : R) → Between id_of rows id low high → low ≤ middle → middle < high → slice_get rows middle ≡ Some row → slice_cmp nat_cmp (id_of row) id ≡ Greater → Between id_of rows id low middle
  between_left low high middle row b l h at greater = record {
    order = l;
    end = omega (arith, b.end);
    lower = b.lower;
    higher = λ k r above is. elim (cases_order k middle) as (λ _. slice_cmp nat_cmp (id_of r) id ≡ Greater) [
      | inl same ↦ subst (λ z. slice_cmp nat_cmp (id_of z) id ≡ Greater) (same_Some _ _ (sym at ∙ ap (slice_get rows) (sym same) ∙ is)) greater
      | inr other ↦ elim other as (λ _. slice_cmp nat_cmp (id_of r) id ≡ Greater) [
        | inl before ↦ absurd (omega (arith, above, before))
        | inr behind ↦ above_higher (id_of row) (id_of r) greater (up.rise middle k row r behind at is)
      ]
    ];
  }

  not_this : (x y : List ℕ) → slice_cmp nat_cmp x y ≡ Less → bytes_eq x y ≡ false
  not_this x y e = sym (is_eq-slice_cmp x y) ∙ ap is_eq e

  not_that : (x y : List ℕ) → slice_cmp nat_cmp x y ≡ Greater → bytes_eq x y ≡ false
  not_that x y e = sym (is_eq-slice_cmp x y) ∙ ap is_eq e

  read_row : (k : ℕ) (d : R) → k < length rows → slice_get rows k ≡ Some (get_or rows k d)
  read_row k d h = slice_get-get_or rows k d h

  -- no id is left between the two
  pub between_none : (low high : ℕ) → Between id_of rows id low high → high ≤ low → number_of id_of rows id ≡ None
  between_none low high b closed =
      position_absent (λ row. bytes_eq (id_of row) id) rows
      (λ k d within. elim (cases_lt k low) as (λ _. bytes_eq (id_of (get_or rows k d)) id ≡ false) [
        | inl below ↦ not_this (id_of (get_or rows k d)) id (b.lower k _ below (read_row k d within))
        | inr above ↦ not_that (id_of (get_or rows k d)) id (b.higher k _ (omega (arith, closed, above)) (read_row k d within))
      ])

  -- the id that stands at a place is found there
  pub between_found : (middle : ℕ) (row : R) → slice_get rows middle ≡ Some row → slice_cmp nat_cmp (id_of row) id ≡ Equal → number_of id_of rows id ≡ Some middle
  between_found middle row at equal =
      let within = slice_get_within rows middle row at in
      let is : id_of row ≡ id = text_same _ _ equal in
      position_present (λ r. bytes_eq (id_of r) id) rows middle within
      (λ d. sym (is_eq-slice_cmp (id_of (get_or rows middle d)) id) ∙ ap is_eq (ap (λ r. slice_cmp nat_cmp (id_of r) id) (same_Some _ _ (sym (read_row middle d within) ∙ at)) ∙ equal))
      (λ k d before. not_this (id_of (get_or rows k d)) id (subst (λ i. slice_cmp nat_cmp (id_of (get_or rows k d)) i ≡ Less) is (up.rise k middle _ row before (read_row k d (omega (arith, before, within))) at)))

some_if : (n m : ℕ) → n < m → cond (nat_lt n m) (Some n) None ≡ Some n
some_if n m h = grind (arith, nat_tests)

none_if : (n m : ℕ) → m ≤ n → cond (nat_lt n m) (Some n) None ≡ None
none_if n m h = grind (arith, nat_tests)

-- the row of a number, if there is one
abbrev pub option_row : {R : Type 0} → List R → Option ℕ → Option R
option_row rows None = None
option_row rows (Some number) = slice_get rows number

-- a number that is found leads to a row, and else there is none
pub find_by_number : {R : Type 0} (test : R → Bool) (rows : List R) (number : Option ℕ) → position test rows ≡ number → find test rows ≡ option_row rows number
find_by_number test rows number e = find_at test rows ∙ by (cases_lt (position_or_len test rows) (length rows)) ∙ ap (option_row rows) e
  where
    by : (position_or_len test rows < length rows) ⊎ (length rows ≤ position_or_len test rows) → slice_get rows (position_or_len test rows) ≡ option_row rows (position test rows)
    by (inl h) = ap (option_row rows) (sym (some_if _ _ h))
    by (inr h) = slice_get_past rows _ h ∙ ap (option_row rows) (sym (none_if _ _ h))

-- a number is found where a row is
number_some : {R : Type 0} (test : R → Bool) (rows : List R) → is_some (position test rows) ≡ is_some (find test rows)
number_some test rows = by (cases_lt (position_or_len test rows) (length rows))
  where
    by : (position_or_len test rows < length rows) ⊎ (length rows ≤ position_or_len test rows) → is_some (position test rows) ≡ is_some (find test rows)
    by (inl h) = ap is_some (some_if _ _ h) ∙ sym (ap is_some (find_at test rows ∙ (some_at rows (position_or_len test rows) h).1))
    by (inr h) = ap is_some (none_if _ _ h) ∙ sym (ap is_some (find_at test rows ∙ slice_get_past rows _ h))

is_eq_reverse : (r : Ordering) → is_eq r ≡ is_eq (ordering_reverse r)
is_eq_reverse Less = refl
is_eq_reverse Equal = refl
is_eq_reverse Greater = refl

pub turned : (x y : List ℕ) → bytes_eq y x ≡ eq_by_cmp (slice_cmp nat_cmp) x y
turned x y = sym (is_eq-slice_cmp y x) ∙ is_eq_reverse (slice_cmp nat_cmp y x) ∙ ap is_eq (sym (nat_list_cmp_total.antisymm x y))

find_same : {R : Type 0} (f g : R → Bool) (rows : List R) → ((row : R) → f row ≡ g row) → find f rows ≡ find g rows
find_same f g [] same = refl
find_same f g (row ∷ rows) same = ap (λ b. cond b (Some row) (find f rows)) (same row) ∙ ap (cond (g row) (Some row)) (find_same f g rows same)

-- a row with an id is found in the order of the file or by rising ids
pub find_in_order : {R : Type 0} (id_of : R → List ℕ) (id : List ℕ) (rows : List R) → find (λ row. bytes_eq (id_of row) id) (by_id id_of rows) ≡ find (λ row. bytes_eq (id_of row) id) rows
find_in_order id_of id rows =
    find_same _ _ (by_id id_of rows) (λ row. turned id (id_of row)) ∙ find_listed (slice_cmp nat_cmp) nat_list_cmp_total text_same id_of id rows ∙ sym (find_same _ _ rows (λ row. turned id (id_of row)))

-- whether a row with an id is there
pub has_by_number : {R : Type 0} (id_of : R → List ℕ) (id : List ℕ) (rows : List R) → is_some (number_of id_of (by_id id_of rows) id) ≡ has_id id_of rows id
has_by_number id_of id rows =
    number_some (λ row. bytes_eq (id_of row) id) (by_id id_of rows) ∙ ap is_some (find_in_order id_of id rows) ∙ sym (any_found (λ row. bytes_eq (id_of row) id) rows)
