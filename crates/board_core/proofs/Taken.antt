-- The first so many of a list, taken one by one.
use Rattle.std.proofs.Common.{◌≡◌, ℕ, suc, ◌+◌, ◌-◌, ◌<◌, List, [], ◌∷◌, ◌++◌, map, take, sym, ap, ◌∙◌, append_assoc, arith}

-- with one more of them made, the rest are to be made still
pub taken_more : {X Y : Type 0} (f : X → Y) (n i : ℕ) (made new : List Y) (left rest : List X) (x : X) (all : List Y) → i < n → left ≡ x ∷ rest → new ≡ made ++ f x ∷ []
    → made ++ map f (take (n - i) left) ≡ all → new ++ map f (take (n - (i + 1)) rest) ≡ all
taken_more f n i made new left rest x all within first pushed so_far =
    let k = n - (i + 1) in
    let more : n - i ≡ suc k = omega (arith, within) in
    ap (λ ys. ys ++ map f (take k rest)) pushed
    ∙ append_assoc made (f x ∷ []) (map f (take k rest))
    ∙ ap (λ ys. made ++ ys) (sym (ap (λ m. map f (take m left)) more ∙ ap (λ xs. map f (take (suc k) xs)) first))
    ∙ so_far
