-- What threads collect of a map.
use Rattle.std.proofs.Common.{◌≡◌, List, [], ◌∷◌, Result, Ok, Err, map, refl, ◌∙◌, subst}
use Rattle.std.specs.Prelude.{Contains, IfOk, MatchResult}
use Rattle.std.specs.List.{AllZip}
use Rattle.std.specs.declared.vec.Vec.{Vec}

all_ok : {X Y : Type 0} (E : Type 0) (f : X → Y) (xs : List X) (ys : List Y) → AllZip (λ (x : X) (r : Result Y E). IfOk r (λ y. y ≡ f x)) xs (map Ok ys) → ys ≡ map f xs
all_ok E f [] [] each = refl
all_ok E f [] (y ∷ ys) each = absurd each
all_ok E f (x ∷ xs) [] each = absurd each
all_ok E f (x ∷ xs) (y ∷ ys) each = λ i. each.0 i ∷ all_ok E f xs ys each.1 i

-- where each answer is that of its item, or out of memory, all are, or it was
pub collected : {X Y Z E : Type 0} (f : X → Y) (xs : List X) (rs : List (Result Y E)) → AllZip (λ (x : X) (r : Result Y E). IfOk r (λ y. y ≡ f x)) xs rs
    → (all : Result (Vec Y Z) E) → MatchResult all (λ v. (ys : List Y) × (rs ≡ map Ok ys) × (v.items ≡ ys)) (λ e. Contains rs (Err e)) → IfOk all (λ v. v.items ≡ map f xs)
collected f xs rs each (Err e) made = tt
collected {E = E} f xs rs each (Ok v) made = made.2 ∙ all_ok E f xs made.0 (subst (AllZip (λ x r. IfOk r (λ y. y ≡ f x)) xs) made.1 each)
