-- What is appended number by number.
use Rattle.std.proofs.Common.{◌≡◌, ◌∙◌, ℕ, zero, suc, ◌+◌, sym, ap, List, ◌++◌, append_assoc, append-nil, arith}
use Rattle.std.specs.List.{flat_map, range_with_len}

-- one number more
pub flat_map-more : {A : Type 0} (f : ℕ → List A) (a n j : ℕ) → a + n ≡ j → flat_map f (range_with_len a (n + 1)) ≡ flat_map f (range_with_len a n) ++ f j
flat_map-more f a zero j at = append-nil (f a) ∙ ap f (let same : a ≡ j = omega arith in same)
flat_map-more f a (suc n) j at =
    let size : suc n + 1 ≡ suc (n + 1) = omega arith in
    ap (λ k. flat_map f (range_with_len a k)) size ∙ ap (λ xs. f a ++ xs) (flat_map-more f (a + 1) n j (omega arith)) ∙ sym (append_assoc (f a) (flat_map f (range_with_len (a + 1) n)) (f j))

-- what was there, and then what belongs to the numbers from 0 on that were gone over
pub record Appended {A : Type 0} (f : ℕ → List A) (old new : List A) (count : ℕ) : Type 0 where
  pub is : new ≡ old ++ flat_map f (range_with_len 0 count)

pub begins : {A : Type 0} (f : ℕ → List A) (old : List A) → Appended f old old 0
begins f old = record { is = sym (append-nil old) }

pub goes_on : {A : Type 0} (f : ℕ → List A) (old mid new : List A) (count : ℕ) → Appended f old mid count → new ≡ mid ++ f count → Appended f old new (count + 1)
goes_on f old mid new count before step = record {
  is = step ∙ ap (λ xs. xs ++ f count) before.is ∙ append_assoc old (flat_map f (range_with_len 0 count)) (f count) ∙ ap (λ xs. old ++ xs) (sym (flat_map-more f 0 count count (omega arith)));
}

-- all of them
pub ends : {A : Type 0} (f : ℕ → List A) (front old new : List A) (count total : ℕ) → Appended f old new count → old ≡ front → count ≡ total → new ≡ front ++ flat_map f (range_with_len 0 total)
ends f front old new count total done begun all = done.is ∙ ap (λ xs. xs ++ flat_map f (range_with_len 0 count)) begun ∙ ap (λ n. front ++ flat_map f (range_with_len 0 n)) all
