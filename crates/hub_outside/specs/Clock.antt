-- What a clock that tells its readings shows.
use Rattle.std.specs.Prelude.{◌≡◌, ℕ, List, [], ◌∷◌, Option, Some, IfSome, slice_get}

-- the readings ahead once the first was shown: it is dropped, unless it is the last
abbrev pub after_reading : List ℕ → List ℕ
after_reading [] = []
after_reading (x ∷ []) = x ∷ []
after_reading (x ∷ y ∷ later) = y ∷ later

-- a clock that tells its readings showed the first of them
abbrev pub ShowsFirst : Option (List ℕ) → ℕ → Type 0
ShowsFirst ahead reading = IfSome ahead (λ readings. slice_get readings 0 ≡ Some reading)
