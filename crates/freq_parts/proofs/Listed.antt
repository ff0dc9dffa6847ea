-- Derived trips, listed by their patterns and starts.
use Rattle.std.proofs.Common.{◌≡◌, ◌⊎◌, ℕ, ◌<◌, List, map, sym, ap, subst, ◌∙◌, refl, Less, Equal, Greater, inl, inr, arith}
use Rattle.std.specs.Ordering.{nat_cmp, ordering_then}
use Rattle.std.specs.declared.cmp.Ordering.{Ordering}
use Rattle.std.proofs.lemmas.Bool.Decides.{nat_tests}
use Rattle.freq_runs.specs.declared.rows.Derived.{Derived}
use Rattle.sched_types.specs.declared.rows.PlanDerived.{PlanDerived}
use Rattle.sched_types.specs.Timetable.{RiseByStart}
use Rattle.sched_load_defs.specs.Frequencies.{TimedTrip, plan_derived, start_cmp, start_of, plan_deriveds}
use Rattle.freq_parts.specs.Differ.{IsListed}

pub deriveds_are : (all own : List TimedTrip) (derived : List Derived) (list : List PlanDerived) → own ≡ all → IsListed start_cmp start_of (map (plan_derived own) derived) list → list ≡ plan_deriveds all derived
unfolding plan_deriveds
deriveds_are all own derived list is listed = sym listed.is ∙ ap (λ one. plan_deriveds one derived) is

pub deriveds_listed : (all own : List TimedTrip) (derived : List Derived) (list : List PlanDerived) → own ≡ all → IsListed start_cmp start_of (map (plan_derived own) derived) list
    → IsListed start_cmp start_of (map (plan_derived all) derived) (plan_deriveds all derived)
deriveds_listed all own derived list is listed =
    let P : List PlanDerived → Type 0 = λ rows. IsListed start_cmp start_of (map (plan_derived own) derived) rows in
    let Q : List TimedTrip → Type 0 = λ one. IsListed start_cmp start_of (map (plan_derived one) derived) (plan_deriveds all derived) in
    subst Q is (subst P (deriveds_are all own derived list is listed) listed)

-- rows that rise so are in the order in which they are searched
less_number : (a b : ℕ) → nat_cmp a b ≡ Less → a < b
less_number a b e = grind (arith, nat_tests)

same_number : (a b : ℕ) → nat_cmp a b ≡ Equal → a ≡ b
same_number a b e = grind (arith, nat_tests)

parted : (a b c d : ℕ) → ordering_then (nat_cmp a b) (nat_cmp c d) ≡ Less → (a < b) ⊎ ((a ≡ b) × (c < d))
parted a b c d e = by (nat_cmp a b) refl e
  where
    by : (r : Ordering) → nat_cmp a b ≡ r → ordering_then r (nat_cmp c d) ≡ Less → (a < b) ⊎ ((a ≡ b) × (c < d))
    by Less is e = inl (less_number a b is)
    by Equal is e = inr (same_number a b is, less_number c d e)
    by Greater is e = absurd cc

pub rise_by_start : (rows listed : List PlanDerived) → IsListed start_cmp start_of rows listed → RiseByStart listed
rise_by_start rows listed is = record {
  rise = λ i j a b l at then. parted a.pattern b.pattern a.start b.start (is.rise i j a b l at then);
}
