-- The orders of an overlay's lists are total, and only equal keys tie in them.
use Rattle.std.specs.Prelude.{ℕ, Some, None, List, ℤ, T}
use Rattle.std.proofs.Common.{refl, sym, ap, subst}
use Rattle.std.specs.Cmp.{IsTotalOrder}
use Rattle.std.specs.Cmp.Lexicographic.{slice_cmp, options_total}
use Rattle.std.specs.FinMap.{IsAntisymmetric}
use Rattle.std.specs.Option.{option_cmp}
use Rattle.std.specs.Ordering.{int_cmp, is_eq, nat_cmp, ordering_then}
use Rattle.std.specs.declared.cmp.Ordering.{Ordering}
use Rattle.std.proofs.lemmas.Cmp.{on_total, then_total, back_total, int_cmp_total, nat_cmp_total, nat_list_cmp_total}
use Rattle.std.proofs.lemmas.Map.Lookups.{exact_pairs, exact_unsigned, exact_signed, exact_bytes}
use Rattle.run_overlay.specs.Keys.{CandidateKey, run_cmp, weight_cmp, candidate_cmp, row_cmp}

pub runs_total : IsTotalOrder run_cmp
runs_total =
    then_total (on_total (λ key. key.trip) nat_cmp_total) (on_total (λ key. key.day) nat_cmp_total)

pub runs_exact : IsAntisymmetric run_cmp
runs_exact a b tie =
    ap (λ (p : ℕ × ℕ). record { trip = p.0; day = p.1 })
    (exact_pairs nat_cmp nat_cmp exact_unsigned exact_unsigned (a.trip, a.day) (b.trip, b.day) tie)

pub weights_total : IsTotalOrder weight_cmp
weights_total =
    then_total (on_total (λ (weight : ℕ × List ℕ). weight.0) (back_total nat_cmp_total))
    (on_total (λ (weight : ℕ × List ℕ). weight.1) (back_total nat_list_cmp_total))

pub weights_exact : IsAntisymmetric weight_cmp
weights_exact a b tie =
    exact_pairs (λ x y. nat_cmp y x) (λ x y. slice_cmp nat_cmp y x)
    (λ x y e. sym (exact_unsigned y x e)) (λ x y e. sym (exact_bytes y x e)) a b tie

pub candidates_total : IsTotalOrder candidate_cmp
candidates_total =
    then_total (on_total (λ (key : CandidateKey). key.0) runs_total)
    (on_total (λ (key : CandidateKey). key.1) (options_total weights_total))

-- those that tie are both there, and equal, or neither is there
options_exact : {X : Type 0} {cmp : X → X → Ordering} → IsAntisymmetric cmp
    → IsAntisymmetric (option_cmp cmp)
options_exact exact None None tie = refl
options_exact exact None (Some b) tie = absurd (subst (λ r. T (is_eq r)) (sym tie) tt)
options_exact exact (Some a) None tie = absurd (subst (λ r. T (is_eq r)) (sym tie) tt)
options_exact exact (Some a) (Some b) tie = ap Some (exact a b tie)

pub candidates_exact : IsAntisymmetric candidate_cmp
candidates_exact a b tie =
    exact_pairs run_cmp (option_cmp weight_cmp) runs_exact (options_exact weights_exact) a b tie

pub rows_total : IsTotalOrder row_cmp
rows_total =
    then_total (on_total (λ key. key.stop) nat_cmp_total)
    (then_total (on_total (λ key. key.at) int_cmp_total)
    (then_total (on_total (λ key. key.trip) nat_cmp_total)
    (then_total (on_total (λ key. key.day) nat_cmp_total)
    (on_total (λ key. key.place) nat_cmp_total))))

-- the parts of a row's key, one after another
abbrev Parts : Type 0
Parts = ℕ × (ℤ × (ℕ × (ℕ × ℕ)))

pub rows_exact : IsAntisymmetric row_cmp
rows_exact a b tie =
    ap
    (λ (p : Parts). record {
      stop = p.0;
      at = p.1.0;
      trip = p.1.1.0;
      day = p.1.1.1.0;
      place = p.1.1.1.1;
    })
    (exact_pairs nat_cmp
    (λ x y. ordering_then (int_cmp x.0 y.0)
    (ordering_then (nat_cmp x.1.0 y.1.0)
    (ordering_then (nat_cmp x.1.1.0 y.1.1.0) (nat_cmp x.1.1.1 y.1.1.1))))
    exact_unsigned
    (exact_pairs int_cmp
    (λ x y. ordering_then (nat_cmp x.0 y.0)
    (ordering_then (nat_cmp x.1.0 y.1.0) (nat_cmp x.1.1 y.1.1)))
    exact_signed
    (exact_pairs nat_cmp (λ x y. ordering_then (nat_cmp x.0 y.0) (nat_cmp x.1 y.1)) exact_unsigned
    (exact_pairs nat_cmp nat_cmp exact_unsigned exact_unsigned)))
    (a.stop, (a.at, (a.trip, (a.day, a.place)))) (b.stop, (b.at, (b.trip, (b.day, b.place)))) tie)
