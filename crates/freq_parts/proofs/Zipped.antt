-- Two lists side by side.
use Rattle.std.proofs.Common.{◌≡◌, ◌⊎◌, ℕ, zero, suc, ◌≤◌, List, [], ◌∷◌, length, map, zip, slice_get, Some, refl, ap, ◌∙◌, inl, inr, arith}
use Rattle.std.proofs.lemmas.Option.{none-some, same_Some}

-- where one of them ends, both do
pub zip_ends : {A B : Type 0} (xs : List A) (ys : List B) → (xs ≡ []) ⊎ (ys ≡ []) → zip xs ys ≡ []
zip_ends xs ys (inl e) = ap (λ zs. zip zs ys) e
zip_ends xs ys (inr e) = ap (zip xs) e ∙ none_right xs
  where
    none_right : {A B : Type 0} (zs : List A) → zip {K = A} {X = B} zs [] ≡ []
    none_right [] = refl
    none_right (z ∷ zs) = refl

-- what stands at a place
pub zip_parts : {A B : Type 0} (xs : List A) (ys : List B) (i : ℕ) (z : A × B) → slice_get (zip xs ys) i ≡ Some z → (slice_get xs i ≡ Some z.0) × (slice_get ys i ≡ Some z.1)
zip_parts [] ys i z at = absurd (none-some z at)
zip_parts (x ∷ xs) [] i z at = absurd (none-some z at)
zip_parts (x ∷ xs) (y ∷ ys) zero z at = let is = same_Some (x, y) z at in (ap (λ w. Some w.0) is, ap (λ w. Some w.1) is)
zip_parts (x ∷ xs) (y ∷ ys) (suc i) z at = zip_parts xs ys i z at

-- the first parts, where there are as many of the second ones; and the second ones
pub zip_first : {A B : Type 0} (xs : List A) (ys : List B) → length ys ≡ length xs → map (λ z. z.0) (zip xs ys) ≡ xs
zip_first [] ys e = refl
zip_first (x ∷ xs) [] e = absurd (omega (arith, e))
zip_first (x ∷ xs) (y ∷ ys) e = ap (λ zs. x ∷ zs) (zip_first xs ys (omega (arith, e)))

pub zip_second : {A B : Type 0} (xs : List A) (ys : List B) → length ys ≡ length xs → map (λ z. z.1) (zip xs ys) ≡ ys
zip_second [] [] e = refl
zip_second [] (y ∷ ys) e = absurd (omega (arith, e))
zip_second (x ∷ xs) [] e = refl
zip_second (x ∷ xs) (y ∷ ys) e = ap (λ zs. y ∷ zs) (zip_second xs ys (omega (arith, e)))

-- no more of both than of the second ones
pub length-zip-right : {A B : Type 0} (xs : List A) (ys : List B) → length (zip xs ys) ≤ length ys
length-zip-right [] ys = omega arith
length-zip-right (x ∷ xs) [] = omega arith
length-zip-right (x ∷ xs) (y ∷ ys) = omega (arith, length-zip-right xs ys)
