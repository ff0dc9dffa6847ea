-- Lists put into an order, and the greatest item of a list.
use Rattle.std.specs.Prelude.{if◌then◌else◌, List, [], ◌∷◌, fold, Option, Some, None}
use Rattle.std.specs.declared.cmp.Ordering.{Ordering}
use Rattle.std.specs.Ordering.{is_gt}

module _ {X : Type 0} (cmp : X → X → Ordering) where
  -- an item put before the first one that is not below it
  unfoldable pub inserted : X → List X → List X
  inserted x [] = x ∷ []
  inserted x (y ∷ ys) = if is_gt (cmp x y) then y ∷ inserted x ys else x ∷ y ∷ ys

  -- the items in order, those that tie as they stood
  unfoldable pub ordered : List X → List X
  ordered [] = []
  ordered (x ∷ xs) = inserted x (ordered xs)

  -- the greater of two; of two that tie the earlier one
  abbrev pub greater : Option X → X → Option X
  greater None x = Some x
  greater (Some best) x = if is_gt (cmp x best) then Some x else Some best

  -- the greatest of some items, and of those that tie the first
  abbrev pub greatest : List X → Option X
  greatest xs = fold greater None xs
