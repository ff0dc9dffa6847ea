-- Three lists whose items change place by place.
use Rattle.std.specs.Prelude.{ℕ, ◌+◌, List, [], ◌∷◌, ⊤}

-- of one length, and the three items of each place are told of; the places are counted from `first`
-- on
abbrev pub ArePlaces : {A B C : Type 0} → (ℕ → A → B → C → Type 0) → ℕ → List A → List B → List C
    → Type 0
ArePlaces accepts first [] [] [] = ⊤
ArePlaces accepts first (x ∷ xs) (y ∷ ys) (z ∷ zs) =
    accepts first x y z × ArePlaces accepts (first + 1) xs ys zs
ArePlaces accepts first _ _ _ = ⊥

-- the three items of each place became those of the later lists, as told of that place
abbrev pub PlacesChanged : {A B C : Type 0} → (ℕ → A → B → C → A → B → C → Type 0) → ℕ → List A
    → List B → List C → List A → List B → List C → Type 0
PlacesChanged does first [] [] [] [] [] [] = ⊤
PlacesChanged does first (x ∷ xs) (y ∷ ys) (z ∷ zs) (u ∷ us) (v ∷ vs) (w ∷ ws) =
    does first x y z u v w × PlacesChanged does (first + 1) xs ys zs us vs ws
PlacesChanged does first _ _ _ _ _ _ = ⊥
