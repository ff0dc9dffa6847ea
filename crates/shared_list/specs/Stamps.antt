-- Items by when they came.
use Rattle.std.specs.Prelude.{ℕ, ◌≤◌, ltb, List}
use Rattle.std.specs.List.{filter, AllByRecursion}

-- no item has a stamp above this
abbrev pub NoneAbove : {X : Type 0} → (X → ℕ) → ℕ → List X → Type 0
NoneAbove stamp most xs = AllByRecursion (λ x. stamp x ≤ most) xs

-- the items whose stamps are above this, in their order
abbrev pub newer : {X : Type 0} → (X → ℕ) → ℕ → List X → List X
newer stamp than xs = filter (λ x. ltb than (stamp x)) xs
