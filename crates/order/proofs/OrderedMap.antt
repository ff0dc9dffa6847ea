-- What becomes of items that are put in order, or of the greatest of them, where each becomes another.
use Rattle.std.proofs.Common.{◌≡◌, Option, None, List, [], ◌∷◌, map, IfSome, refl, ap, ◌∙◌, arith}
use Rattle.std.specs.Prelude.{fold}
use Rattle.std.specs.List.{AllByRecursion}
use Rattle.std.specs.Option.{option_map}
use Rattle.std.specs.declared.cmp.Ordering.{Ordering}
use Rattle.order.specs.Order.{inserted, ordered, greater, greatest}

module _ {X Y : Type 0} (f : X → Y) (cmp : X → X → Ordering) (other : Y → Y → Ordering) where
  module _ (P : X → Type 0) where
    each_inserted : (x : X) (xs : List X) → P x → AllByRecursion P xs → AllByRecursion P (inserted cmp x xs)
    unfolding inserted
    each_inserted x [] p all = (p, tt)
    each_inserted x (y ∷ ys) p all = grind (arith, each_inserted x ys p all.1)

    pub each_ordered : (xs : List X) → AllByRecursion P xs → AllByRecursion P (ordered cmp xs)
    unfolding ordered
    each_ordered [] all = tt
    each_ordered (x ∷ xs) all = each_inserted x (ordered cmp xs) all.0 (each_ordered xs all.1)

    module _ (same : (x y : X) → P x → P y → other (f x) (f y) ≡ cmp x y) where
      map_inserted : (x : X) (xs : List X) → P x → AllByRecursion P xs → map f (inserted cmp x xs) ≡ inserted other (f x) (map f xs)
      unfolding inserted
      map_inserted x [] p all = refl
      map_inserted x (y ∷ ys) p all = grind (arith, map_inserted x ys p all.1)

      -- items in order, each of which becomes another that stands to the others as it did
      pub map_ordered : (xs : List X) → AllByRecursion P xs → map f (ordered cmp xs) ≡ ordered other (map f xs)
      unfolding ordered
      map_ordered [] all = refl
      map_ordered (x ∷ xs) all =
          map_inserted x (ordered cmp xs) all.0 (each_ordered xs all.1)
          ∙ ap (inserted other (f x)) (map_ordered xs all.1)

  module _ (same : (x y : X) → other (f x) (f y) ≡ cmp x y) where
    fold_greater : (best : Option X) (xs : List X) → option_map f (fold (greater cmp) best xs) ≡ fold (greater other) (option_map f best) (map f xs)
    fold_greater best [] = refl
    fold_greater best (x ∷ xs) = grind (arith, fold_greater (greater cmp best x) xs)

    -- the greatest of items that become others
    pub map_greatest : (xs : List X) → option_map f (greatest cmp xs) ≡ greatest other (map f xs)
    map_greatest xs = fold_greater None xs

-- ---- what is true of each is true of the greatest

module _ {X : Type 0} (cmp : X → X → Ordering) (P : X → Type 0) where
  each_greater : (best : Option X) (x : X) → IfSome best P → P x → IfSome (greater cmp best x) P
  each_greater best x b p = grind arith

  each_folded : (best : Option X) (xs : List X) → IfSome best P → AllByRecursion P xs → IfSome (fold (greater cmp) best xs) P
  each_folded best [] b all = b
  each_folded best (x ∷ xs) b all = each_folded (greater cmp best x) xs (each_greater best x b all.0) all.1

  pub each_greatest : (xs : List X) → AllByRecursion P xs → IfSome (greatest cmp xs) P
  each_greatest xs all = each_folded None xs tt all
