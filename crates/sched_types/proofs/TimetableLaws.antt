-- Laws of timetables, for the crates above: ids and numbers lead to one another, and what a run has.
use Rattle.std.proofs.lemmas.Bool.Decides.{nat_tests}
use Rattle.std.proofs.Common.{◌≡◌, ℕ, ◌<◌, Bool, true, nat_eq, ◌&&◌, Option, Some, List, [], ◌∷◌, length, get_or, slice_get, refl, sym, ap, ◌∙◌, inl, inr, Less, Equal, arith}
use Rattle.std.specs.Bool.{OnTrue}
use Rattle.std.specs.Cmp.Lexicographic.{slice_cmp, same_text}
use Rattle.std.specs.List.{list_any}
use Rattle.std.specs.Ordering.{nat_cmp}
use Rattle.std.specs.Str.{bytes_eq}
use Rattle.std.proofs.lemmas.Bool.{cases_order, ltb-true}
use Rattle.std.proofs.lemmas.Cmp.{nat_list_cmp_total, tied_itself}
use Rattle.std.proofs.lemmas.List.Quantifiers.{position-Some}
use Rattle.std.proofs.lemmas.Option.{slice_get-get_or, slice_get_within, get_or_from_slice_get}
use Rattle.sched_types.specs.declared.rows.Trip.{Trip}
use Rattle.sched_types.specs.declared.rows.Run.{Run}
use Rattle.sched_types.specs.Timetable.{Timetable, RisesById, number_of, places_of, days_of_trip, is_run}
use Rattle.sched_types.proofs.Found.{found_place}

-- a row is found by its id
pub own_number : {X : Type 0} (id_of : X → List ℕ) (rows : List X) → RisesById id_of rows → (i : ℕ) (x : X) → slice_get rows i ≡ Some x → number_of id_of rows (id_of x) ≡ Some i
own_number id_of rows up i x at =
    found_place id_of rows up (id_of x) i (slice_get_within rows i x at)
    (λ d. ap (λ y. slice_cmp nat_cmp (id_of y) (id_of x)) (get_or_from_slice_get rows i x d at) ∙ tied_itself nat_list_cmp_total (id_of x))

-- two rows with one id are one
pub one_row : {X : Type 0} (id_of : X → List ℕ) (rows : List X) → RisesById id_of rows → (i j : ℕ) (x y : X) → slice_get rows i ≡ Some x → slice_get rows j ≡ Some y → id_of x ≡ id_of y → i ≡ j
one_row id_of rows up i j x y at then same =
    elim (cases_order i j) [
      | inl e ↦ e
      | inr (inl lt) ↦ let clash : Less ≡ Equal = sym (up.rise i j x y lt at then) ∙ ap (λ id. slice_cmp nat_cmp id (id_of y)) same ∙ tied_itself nat_list_cmp_total (id_of y) in cc
      | inr (inr gt) ↦ let clash : Less ≡ Equal = sym (up.rise j i y x gt then at) ∙ ap (λ id. slice_cmp nat_cmp (id_of y) id) same ∙ tied_itself nat_list_cmp_total (id_of y) in cc
    ]

-- the row that a number leads to
pub record LeadsTo {X : Type 0} (id_of : X → List ℕ) (rows : List X) (id : List ℕ) (i : ℕ) : Type 0 where
  pub row : X
  pub at : slice_get rows i ≡ Some row
  pub has : id_of row ≡ id

-- a number that an id has leads to the row with that id
pub number_leads : {X : Type 0} (id_of : X → List ℕ) (rows : List X) (id : List ℕ) (i : ℕ) → number_of id_of rows id ≡ Some i → LeadsTo id_of rows id i
number_leads id_of [] id i e = cc
number_leads id_of (x ∷ xs) id i e =
    let found = position-Some (λ row. bytes_eq (id_of row) id) (x ∷ xs) i x e in
    record {
      row = get_or (x ∷ xs) i x;
      at = slice_get-get_or (x ∷ xs) i x found.0;
      has = same_text (id_of (get_or (x ∷ xs) i x)) id (sym found.1);
    }

-- what a run has: a trip that is there, two places or more, a day of the window, and that day among those of its service
pub record IsRunOf (t : Timetable) (run : Run) : Type 0 where
  pub day : run.day < length t.bases
  pub many : 1 < length (places_of t run.trip)
  pub active : list_any (λ day. nat_eq day run.day) (days_of_trip t (slice_get t.trips run.trip)) ≡ true

front : (a b : Bool) → (a && b) ≡ true → a ≡ true
front a b e = grind arith

back : (a b : Bool) → (a && b) ≡ true → b ≡ true
back a b e = grind arith

pub run_has : (t : Timetable) (run : Run) → is_run t run ≡ true → IsRunOf t run
run_has t run e = grind (arith, back, front, ltb-true, slice_get, nat_tests)

no_list : (run : Run) → list_any (λ day. nat_eq day run.day) [] ≡ true → ⊥
no_list run e = cc

there : (t : Timetable) (run : Run) (found : Option Trip) → slice_get t.trips run.trip ≡ found → list_any (λ day. nat_eq day run.day) (days_of_trip t found) ≡ true → run.trip < length t.trips
there t run found at e = grind (arith, no_list, slice_get_within, nat_tests)

pub run_trip : (t : Timetable) (run : Run) → is_run t run ≡ true → run.trip < length t.trips
run_trip t run e = there t run (slice_get t.trips run.trip) refl (run_has t run e).active

-- and so what a test of it tells
pub record IsTold (t : Timetable) (run : Run) (result : Bool) : Type 0 where
  pub trip : OnTrue result (run.trip < length t.trips)
  pub places : OnTrue result (1 < length (places_of t run.trip))
  pub day : OnTrue result (run.day < length t.bases)

pub run_told : (t : Timetable) (run : Run) (result : Bool) → result ≡ is_run t run → IsTold t run result
run_told t run result e = grind (arith, run_has, run_trip)
