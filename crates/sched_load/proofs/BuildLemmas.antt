-- Lists that are made of rows by rising ids, one after another.
use Rattle.std.proofs.Common.{◌≡◌, ℕ, zero, suc, ◌+◌, ◌≤◌, List, [], ◌∷◌, ◌++◌, length, map, take, refl, sym, ap, ◌∙◌, arith}
use Rattle.std.specs.Prelude.{slice_get, Some}
use Rattle.std.proofs.lemmas.List.{map-append}
use Rattle.std.proofs.lemmas.Option.{none-some as none_some, same_Some}
use Rattle.sched_load.proofs.Grouping.{take_at}

-- one row more
pub made_more : {R S : Type 0} (f : R → S) (rows : List R) (i : ℕ) (row : R) (made : S) (before after : List S) → slice_get rows i ≡ Some row → made ≡ f row → after ≡ before ++ made ∷ [] → before ≡ map f (take i rows) → after ≡ map f (take (i + 1) rows)
made_more f rows i row made before after at is pushed so_far =
    pushed ∙ ap (λ xs. xs ++ made ∷ []) so_far ∙ ap (λ x. map f (take i rows) ++ x ∷ []) is ∙ sym (map-append f (take i rows) (row ∷ [])) ∙ ap (map f) (sym (take_at rows i row at))

pub take_past : {X : Type 0} (xs : List X) (n : ℕ) → length xs ≤ n → take n xs ≡ xs
take_past [] n h = take_none n
  where
    take_none : {X : Type 0} (k : ℕ) → take {A = X} k [] ≡ []
    take_none zero = refl
    take_none (suc k) = refl
take_past (x ∷ xs) zero h = absurd (omega (arith, h))
take_past (x ∷ xs) (suc n) h = ap (λ ys. x ∷ ys) (take_past xs n (omega (arith, h)))

-- all rows
pub made_all : {R S : Type 0} (f : R → S) (rows : List R) (i : ℕ) (made : List S) → made ≡ map f (take i rows) → length rows ≤ i → made ≡ map f rows
made_all f rows i made e h = e ∙ ap (map f) (take_past rows i h)

-- an element that was made comes from one
pub mapped_at : {X Y : Type 0} (f : X → Y) (xs : List X) (i : ℕ) (y : Y) → slice_get (map f xs) i ≡ Some y → (x : X) × (slice_get xs i ≡ Some x) × (f x ≡ y)
mapped_at f [] i y at = absurd (none_some y at)
mapped_at f (x ∷ xs) zero y at = (x, refl, same_Some _ _ at)
mapped_at f (x ∷ xs) (suc i) y at = mapped_at f xs i y at
