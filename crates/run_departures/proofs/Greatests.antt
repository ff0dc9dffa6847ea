-- The greatest of lists one after another, and of those that pass a test which all that is not below passes too.
use Rattle.std.proofs.Common.{◌≡◌, Bool, true, false, Option, Some, None, List, [], ◌∷◌, filter, refl, ap, ◌∙◌, arith}
use Rattle.std.specs.Prelude.{if◌then◌else◌, fold}
use Rattle.std.specs.Cmp.{IsTotalOrder}
use Rattle.std.specs.List.{cons_option, filter_map, flat_map}
use Rattle.std.specs.Ordering.{is_gt}
use Rattle.std.specs.declared.cmp.Ordering.{Ordering}
use Rattle.std.proofs.lemmas.Cmp.{upto}
use Rattle.std.proofs.lemmas.List.Sums.{fold-append}
use Rattle.order.specs.Order.{greater, greatest}
use Rattle.order.proofs.Ordered.{not_above_back}

-- what passes, if it is there
abbrev pub passing : {X : Type 0} → (X → Bool) → Option X → Option X
passing p None = None
passing p (Some x) = if p x then Some x else None

module _ {X : Type 0} {cmp : X → X → Ordering} (o : IsTotalOrder cmp) where
  -- the greater of what there was and of another, if there is one
  abbrev with_other : Option X → Option X → Option X
  with_other best None = best
  with_other best (Some x) = greater cmp best x

  -- of three that come one after another
  three : (a x y : X) → greater cmp (greater cmp (Some a) x) y ≡ with_other (Some a) (greater cmp (Some x) y)
  three a x y = grind (arith, not_above_back, upto)

  from_three : (best : Option X) (x : X) (last : Option X) → with_other (greater cmp best x) last ≡ with_other best (with_other (Some x) last)
  from_three best x last = grind (arith, three)

  -- the greatest of what there was and of a list is the greater of it and of the list's greatest
  pub folded : (best : Option X) (xs : List X) → fold (greater cmp) best xs ≡ with_other best (greatest cmp xs)
  folded best [] = refl
  folded best (x ∷ xs) = grind (arith, folded (greater cmp best x) xs, folded (Some x) xs, from_three best x (greatest cmp xs))

  -- lists one after another
  flat_folded : {F : Type 0} (g : F → List X) (best : Option X) (fs : List F) → fold (greater cmp) best (flat_map g fs) ≡ fold (greater cmp) best (filter_map (λ f. greatest cmp (g f)) fs)
  flat_folded g best [] = refl
  flat_folded g best (f ∷ fs) =
      fold-append (greater cmp) best (g f) (flat_map g fs)
      ∙ ap (λ b. fold (greater cmp) b (flat_map g fs)) (folded best (g f))
      ∙ by_option (greatest cmp (g f)) (λ b. flat_folded g b fs)
    where
      by_option : (most : Option X) → ((b : Option X) → fold (greater cmp) b (flat_map g fs) ≡ fold (greater cmp) b (filter_map (λ h. greatest cmp (g h)) fs))
          → fold (greater cmp) (with_other best most) (flat_map g fs) ≡ fold (greater cmp) best (cons_option most (filter_map (λ h. greatest cmp (g h)) fs))
      by_option None rest = rest best
      by_option (Some x) rest = rest (greater cmp best x)

  pub greatest_flat : {F : Type 0} (g : F → List X) (fs : List F) → greatest cmp (flat_map g fs) ≡ greatest cmp (filter_map (λ f. greatest cmp (g f)) fs)
  greatest_flat g fs = flat_folded g None fs

  -- ---- a test that all passes which is not below what passes it

  module _ (p : X → Bool) (upward : (x y : X) → is_gt (cmp x y) ≡ false → p x ≡ true → p y ≡ true) where
    -- the one more passes
    kept_in : (best : Option X) (x : X) → p x ≡ true → passing p (greater cmp best x) ≡ greater cmp (passing p best) x
    kept_in best x goes = grind arith

    -- or it does not
    kept_out : (best : Option X) (x : X) → p x ≡ false → passing p (greater cmp best x) ≡ passing p best
    kept_out best x fails = grind (arith, not_above_back)

    kept_folded : (best : Option X) (xs : List X) → passing p (fold (greater cmp) best xs) ≡ fold (greater cmp) (passing p best) (filter p xs)
    kept_folded best [] = refl
    kept_folded best (x ∷ xs) = grind (arith, kept_folded (greater cmp best x) xs, kept_in best x, kept_out best x)

    -- the greatest of those that pass is the greatest of all, if that passes
    pub greatest_upward : (xs : List X) → passing p (greatest cmp xs) ≡ greatest cmp (filter p xs)
    greatest_upward xs = kept_folded None xs
