-- What is true of the greatest of some items.
use Rattle.std.proofs.Common.{◌≡◌, List, [], ◌∷◌, false, Some, None, ap, ◌∙◌, Equal, arith}
use Rattle.std.specs.Prelude.{fold}
use Rattle.std.specs.Cmp.{IsTotalOrder}
use Rattle.std.specs.List.{AllByRecursion}
use Rattle.std.specs.Ordering.{is_gt}
use Rattle.std.specs.declared.cmp.Ordering.{Ordering}
use Rattle.std.proofs.lemmas.Cmp.{tied_itself}
use Rattle.order.specs.Order.{greater, greatest}

-- ---- where there is none, there are no items

module _ {X : Type 0} (cmp : X → X → Ordering) where
  one_stays : (best : X) (xs : List X) → fold (greater cmp) (Some best) xs ≡ None → ⊥
  one_stays best [] none = cc
  one_stays best (x ∷ xs) none = grind (arith, one_stays x xs, one_stays best xs)

  pub none_greatest : (P : X → Type 0) (xs : List X) → greatest cmp xs ≡ None → AllByRecursion P xs
  none_greatest P [] none = tt
  none_greatest P (x ∷ xs) none = absurd (one_stays x xs none)

-- ---- none is above it

module _ {X : Type 0} {cmp : X → X → Ordering} (o : IsTotalOrder cmp) where
  abbrev IsUpTo : X → X → Type 0
  IsUpTo best x = is_gt (cmp x best) ≡ false

  up_to_itself : (x y : X) → Some x ≡ Some y → IsUpTo y x
  up_to_itself x y same = let is : x ≡ y = cc in ap (λ z. is_gt (cmp z y)) is ∙ ap is_gt (tied_itself o y)

  above_folded : (best : X) (xs : List X) (last : X) → fold (greater cmp) (Some best) xs ≡ Some last → IsUpTo last best × AllByRecursion (IsUpTo last) xs
  above_folded best [] last same = (up_to_itself best last same, tt)
  above_folded best (x ∷ xs) last same = grind (arith, above_folded x xs last, above_folded best xs last)

  pub above_greatest : (xs : List X) (best : X) → greatest cmp xs ≡ Some best → AllByRecursion (λ x. is_gt (cmp x best) ≡ false) xs
  above_greatest [] best same = tt
  above_greatest (x ∷ xs) best same = above_folded x xs best same

  -- two of which neither is above the other tie
  pub neither_above : (x y : X) → is_gt (cmp x y) ≡ false → is_gt (cmp y x) ≡ false → cmp x y ≡ Equal
  neither_above x y up down = grind arith
