-- Lists one after another, and which of them has the first item of all, where each rises.
use Rattle.std.specs.Prelude.{ℕ, ◌+◌, if◌then◌else◌, Option, Some, None, List, [], ◌∷◌, slice_get}
use Rattle.std.specs.List.{flat_map}
use Rattle.std.specs.Ordering.{is_gt}
use Rattle.std.specs.declared.cmp.Ordering.{Ordering}

-- the items of some lists, one list after another
abbrev pub joined : {X : Type 0} → List (List X) → List X
joined lists = flat_map (λ list. list) lists

-- the place of a list, and its head
abbrev pub Headed : Type 0 → Type 0
Headed X = ℕ × X

module _ {X : Type 0} (cmp : X → X → Ordering) where
  -- the sooner of two heads; of two that tie the earlier one
  abbrev pub sooner : Option (Headed X) → ℕ → Option X → Option (Headed X)
  sooner best place None = best
  sooner None place (Some head) = Some (place, head)
  sooner (Some best) place (Some head) =
      if is_gt (cmp best.1 head) then Some (place, head) else Some best

  -- of lists that are numbered from a place on, and of the best head before them, the first head
  -- that no other goes before
  abbrev pub first_from : ℕ → Option (Headed X) → List (List X) → Option (Headed X)
  first_from place best [] = best
  first_from place best (list ∷ lists) =
      first_from (place + 1) (sooner best place (slice_get list 0)) lists

  abbrev pub first_head : List (List X) → Option (Headed X)
  first_head lists = first_from 0 None lists
