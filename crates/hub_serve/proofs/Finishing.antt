-- What is done to the items of a list, one after another.
use Rattle.std.proofs.Common.{◌≡◌, ℕ, ◌+◌, ◌<◌, ◌≤◌, List, length, slice_index_or, slice_set, sym, ap, ◌∙◌, subst, inl, inr, arith}
use Rattle.std.proofs.lemmas.List.{get_or_default, get_or-set_other}
use Rattle.std.proofs.lemmas.Bool.{cases_lt}

module _ {X : Type 0} where
  -- where one item changes, those behind it stay
  pub later_on : (xs ys : List X) (k : ℕ) (y : X) → ((i : ℕ) (none : X) → k ≤ i → slice_index_or xs i none ≡ slice_index_or ys i none)
      → (i : ℕ) (none : X) → k + 1 ≤ i → slice_index_or (slice_set xs k y) i none ≡ slice_index_or ys i none
  later_on xs ys k y same i none above = get_or-set_other xs k i y none (λ (e : i ≡ k). absurd (omega (arith, above, e))) ∙ same i none (omega (arith, above))

  -- what is told of the items before one, and of that one
  pub begins_on : (P : X → Type 0) (xs ys : List X) (k : ℕ) (x : X) → k < length xs
      → ((i : ℕ) (none : X) → k ≤ i → slice_index_or xs i none ≡ slice_index_or ys i none)
      → P (slice_index_or xs k x) → ((i : ℕ) (none : X) → i < k → P (slice_index_or ys i none)) → (i : ℕ) (none : X) → i < k + 1 → P (slice_index_or ys i none)
  begins_on P xs ys k x within same told before i none below = elim (cases_lt i k) [
    | inl less ↦ before i none less
    | inr least ↦
        let at : i ≡ k = omega (arith, below, least) in
        subst P (get_or_default xs k x none within ∙ same k none (omega arith) ∙ ap (λ (j : ℕ). slice_index_or ys j none) (sym at)) told
  ]
