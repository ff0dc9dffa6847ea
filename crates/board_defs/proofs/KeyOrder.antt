-- Ids of rows stand as their numbers, so that sorts may compare numbers in place of texts.
use Rattle.std.proofs.Common.{◌≡◌, ℕ, ◌<◌, Some, List, slice_get, sym, ap, ◌∙◌, inl, inr, Less, Greater, arith}
use Rattle.std.specs.Cmp.Lexicographic.{slice_cmp}
use Rattle.std.specs.Ordering.{nat_cmp, ordering_reverse}
use Rattle.std.proofs.lemmas.Bool.{cases_order}
use Rattle.std.proofs.lemmas.Bool.Decides.{nat_tests}
use Rattle.std.proofs.lemmas.Cmp.{nat_list_cmp_total, nat_cmp_total, tied_itself}
use Rattle.std.proofs.lemmas.Option.{get_or_from_slice_get}
use Rattle.sched_types.specs.Timetable.{RisesById}

less : (i j : ℕ) → i < j → nat_cmp i j ≡ Less
less i j h = grind (arith, nat_tests)

more : (i j : ℕ) → j < i → nat_cmp i j ≡ Greater
more i j h = grind (arith, nat_tests)

same_id : {X : Type 0} (id_of : X → List ℕ) (rows : List X) (i j : ℕ) (x y : X) → i ≡ j → slice_get rows i ≡ Some x → slice_get rows j ≡ Some y → id_of x ≡ id_of y
same_id id_of rows i j x y e at then =
    ap id_of (sym (get_or_from_slice_get rows i x x at) ∙ get_or_from_slice_get rows i y x (ap (slice_get rows) e ∙ then))

-- the ids of two rows stand as their numbers
pub id_order : {X : Type 0} (id_of : X → List ℕ) (rows : List X) → RisesById id_of rows → (i j : ℕ) (x y : X) → slice_get rows i ≡ Some x → slice_get rows j ≡ Some y
    → slice_cmp nat_cmp (id_of x) (id_of y) ≡ nat_cmp i j
id_order id_of rows up i j x y at then =
    elim (cases_order i j) [
      | inl e ↦ ap (λ id. slice_cmp nat_cmp id (id_of y)) (same_id id_of rows i j x y e at then) ∙ tied_itself nat_list_cmp_total (id_of y)
          ∙ sym (ap (λ k. nat_cmp k j) e ∙ tied_itself nat_cmp_total j)
      | inr (inl lt) ↦ up.rise i j x y lt at then ∙ sym (less i j lt)
      | inr (inr gt) ↦ nat_list_cmp_total.antisymm (id_of x) (id_of y) ∙ ap ordering_reverse (up.rise j i y x gt then at) ∙ sym (more i j gt)
    ]
