-- Lists made from a range of numbers.
use Rattle.std.proofs.Common.{◌≡◌, ℕ, zero, suc, ◌+◌, ◌<◌, ◌≤◌, ◌∷◌, ◌++◌, map, replicate, refl, ap, ◌∙◌, arith}
use Rattle.std.specs.List.{range_with_len}

-- a range in two, with a number between
pub map_split : {X : Type 0} (f : ℕ → X) (a n j m total : ℕ) → a + n ≡ j → total ≡ n + 1 + m → map f (range_with_len a total) ≡ map f (range_with_len a n) ++ (f j ∷ map f (range_with_len (j + 1) m))
map_split f a zero j m total at all =
    let same : a ≡ j = omega arith in
    let size : total ≡ suc m = omega arith in
    ap (λ k. map f (range_with_len a k)) size ∙ ap (λ x. f x ∷ map f (range_with_len (x + 1) m)) same
map_split f a (suc n) j m total at all =
    let size : total ≡ suc (n + 1 + m) = omega arith in
    ap (λ k. map f (range_with_len a k)) size ∙ ap (λ xs. f a ∷ xs) (map_split f (a + 1) n j m (n + 1 + m) (omega arith) refl)

-- two functions that agree on a range
pub map_same : {X : Type 0} (f g : ℕ → X) (a n : ℕ) → ((k : ℕ) → a ≤ k → k < a + n → f k ≡ g k) → map f (range_with_len a n) ≡ map g (range_with_len a n)
map_same f g a zero same = refl
map_same f g a (suc n) same =
    ap (λ x. x ∷ map f (range_with_len (a + 1) n)) (same a (omega arith) (omega arith))
    ∙ ap (λ xs. g a ∷ xs) (map_same f g (a + 1) n (λ k low high. same k (omega arith) (omega arith)))

-- and one that stays as it is
pub map_constant : {X : Type 0} (f : ℕ → X) (y : X) (a n : ℕ) → ((k : ℕ) → a ≤ k → k < a + n → f k ≡ y) → map f (range_with_len a n) ≡ replicate n y
map_constant f y a zero same = refl
map_constant f y a (suc n) same =
    ap (λ x. x ∷ map f (range_with_len (a + 1) n)) (same a (omega arith) (omega arith))
    ∙ ap (λ xs. y ∷ xs) (map_constant f y (a + 1) n (λ k low high. same k (omega arith) (omega arith)))
