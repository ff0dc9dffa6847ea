-- The first of two lists in order are known by the first of the one and all of the other.
use Rattle.std.proofs.Common.{◌≡◌, ℕ, zero, suc, ◌≤◌, Bool, true, false, List, [], ◌∷◌, ◌++◌, filter, take, refl, sym, ap, ◌∙◌, arith}
use Rattle.std.specs.Prelude.{if◌then◌else◌}
use Rattle.std.specs.Cmp.{IsTotalOrder}
use Rattle.std.specs.List.Sorted.{ties}
use Rattle.std.specs.Ordering.{is_gt, is_lt}
use Rattle.std.specs.declared.cmp.Ordering.{Ordering}
use Rattle.std.proofs.lemmas.Cmp.{upto}
use Rattle.std.proofs.lemmas.List.Elements.{filter-append}
use Rattle.order.specs.Order.{inserted, ordered}
use Rattle.order.proofs.Laws.{IsLeast, IsRising, rising_only, rising_ordered, rising_take, kept_ordered}

module _ {X : Type 0} (cmp : X → X → Ordering) where
  -- an item and what comes after it, put between others; where it is taken, the rest is merged with what is left
  abbrev step : X → List X → (List X → List X) → List X → List X
  step s after rest [] = s ∷ after
  step s after rest (y ∷ ys) = if is_gt (cmp s y) then y ∷ step s after rest ys else s ∷ rest (y ∷ ys)

  -- two lists, of which the one that begins lower goes first, and of two that tie the former
  abbrev merged : List X → List X → List X
  merged [] ys = ys
  merged (s ∷ ss) ys = step s ss (merged ss) ys

  take_take : (n k : ℕ) (xs : List X) → n ≤ k → take n (take k xs) ≡ take n xs
  take_take zero k xs few = refl
  take_take (suc n) zero xs few = absurd (omega (arith, few))
  take_take (suc n) (suc k) [] few = refl
  take_take (suc n) (suc k) (x ∷ xs) few = ap (λ ys. x ∷ ys) (take_take n k xs (omega (arith, few)))

  -- the first n need no more than n of the former list
  take_merged : (ss : List X) (n k : ℕ) (ys : List X) → n ≤ k → take n (merged (take k ss) ys) ≡ take n (merged ss ys)
  take_merged [] n zero ys few = refl
  take_merged [] n (suc k) ys few = refl
  take_merged (s ∷ ss) zero zero ys few = refl
  take_merged (s ∷ ss) (suc n) zero ys few = absurd (omega (arith, few))
  take_merged (s ∷ ss) n (suc k) ys few = by_second (λ m zs fewer. take_merged ss m k zs fewer) ys n few where
    by_second : ((m : ℕ) (zs : List X) → m ≤ k → take m (merged (take k ss) zs) ≡ take m (merged ss zs)) → (ys : List X) (n : ℕ) → n ≤ suc k → take n (step s (take k ss) (merged (take k ss)) ys) ≡ take n (step s ss (merged ss) ys)
    by_second later [] zero few = refl
    by_second later [] (suc n) few = ap (λ xs. s ∷ xs) (take_take n k ss (omega (arith, few)))
    by_second later (y ∷ ys) zero few = refl
    by_second later (y ∷ ys) (suc n) few = by_test (is_gt (cmp s y)) (by_second later ys n (omega (arith, few))) where
      by_test : (b : Bool) → take n (step s (take k ss) (merged (take k ss)) ys) ≡ take n (step s ss (merged ss) ys)
          → take (suc n) (if b then y ∷ step s (take k ss) (merged (take k ss)) ys else s ∷ merged (take k ss) (y ∷ ys))
          ≡ take (suc n) (if b then y ∷ step s ss (merged ss) ys else s ∷ merged ss (y ∷ ys))
      by_test true rest = ap (λ xs. y ∷ xs) rest
      by_test false rest = ap (λ xs. s ∷ xs) (later n (y ∷ ys) (omega (arith, few)))

  merged_nil : (ss : List X) → merged ss [] ≡ ss
  merged_nil [] = refl
  merged_nil (s ∷ ss) = refl

module _ {X : Type 0} {cmp : X → X → Ordering} (o : IsTotalOrder cmp) where
  inserted_least : (s : X) (ss : List X) → IsLeast o s ss → inserted cmp s ss ≡ s ∷ ss
  unfolding inserted
  inserted_least s [] least = refl
  inserted_least s (x ∷ xs) least = ap (λ b. if b then x ∷ inserted cmp s xs else s ∷ x ∷ xs) least.0

  -- what is below an item goes before all that the item does not go after
  merged_down : (s y : X) (ss ys : List X) → IsLeast o s ss → is_gt (cmp s y) ≡ true → merged cmp ss (y ∷ ys) ≡ y ∷ merged cmp ss ys
  merged_down s y [] ys least above = refl
  merged_down s y (x ∷ xs) ys least above = ap (λ b. if b then y ∷ step cmp x xs (merged cmp xs) ys else x ∷ merged cmp xs (y ∷ ys)) (by_test (is_gt (cmp x y)) refl) where
    by_test : (b : Bool) → is_gt (cmp x y) ≡ b → b ≡ true
    by_test true e = refl
    by_test false e = let clash : is_gt (cmp s y) ≡ false = upto o s x y least.0 e in cc

  front_stays : (s y : X) (ss ys : List X) → IsLeast o s ss → is_gt (cmp s y) ≡ false → inserted cmp s (merged cmp ss (y ∷ ys)) ≡ s ∷ merged cmp ss (y ∷ ys)
  unfolding inserted
  front_stays s y [] ys least low = ap (λ b. if b then y ∷ inserted cmp s ys else s ∷ y ∷ ys) low
  front_stays s y (x ∷ xs) ys least low = by_test (is_gt (cmp x y)) where
    by_test : (b : Bool) → inserted cmp s (if b then y ∷ step cmp x xs (merged cmp xs) ys else x ∷ merged cmp xs (y ∷ ys))
        ≡ s ∷ (if b then y ∷ step cmp x xs (merged cmp xs) ys else x ∷ merged cmp xs (y ∷ ys))
    by_test true = ap (λ b. if b then y ∷ inserted cmp s (step cmp x xs (merged cmp xs) ys) else s ∷ y ∷ step cmp x xs (merged cmp xs) ys) low
    by_test false = ap (λ b. if b then x ∷ inserted cmp s (merged cmp xs (y ∷ ys)) else s ∷ x ∷ merged cmp xs (y ∷ ys)) least.0

  -- one more item before all of the former list
  step_is : (s : X) (ss ys : List X) → IsLeast o s ss → step cmp s ss (merged cmp ss) ys ≡ inserted cmp s (merged cmp ss ys)
  unfolding inserted
  step_is s ss [] least = sym (ap (inserted cmp s) (merged_nil cmp ss) ∙ inserted_least s ss least)
  step_is s ss (y ∷ ys) least = by_test (is_gt (cmp s y)) refl (step_is s ss ys least) where
    by_test : (b : Bool) → is_gt (cmp s y) ≡ b → step cmp s ss (merged cmp ss) ys ≡ inserted cmp s (merged cmp ss ys)
        → (if b then y ∷ step cmp s ss (merged cmp ss) ys else s ∷ merged cmp ss (y ∷ ys)) ≡ inserted cmp s (merged cmp ss (y ∷ ys))
    by_test true above rest =
        ap (λ xs. y ∷ xs) rest
        ∙ sym (ap (inserted cmp s) (merged_down s y ss ys least above) ∙ ap (λ b. if b then y ∷ inserted cmp s (merged cmp ss ys) else s ∷ y ∷ merged cmp ss ys) above)
    by_test false low rest = sym (front_stays s y ss ys least low)

  merged_is : (ss ys : List X) → IsRising o ss → merged cmp ss (ordered cmp ys) ≡ ordered cmp (ss ++ ys)
  unfolding ordered
  merged_is [] ys up = refl
  merged_is (s ∷ ss) ys up = step_is s ss (ordered cmp ys) up.0 ∙ ap (inserted cmp s) (merged_is ss ys up.1)

  -- of a rising list and others, the first n are the first n of its first n and the others
  first_rising : (n : ℕ) (ss ys : List X) → IsRising o ss → take n (ordered cmp (take n ss ++ ys)) ≡ take n (ordered cmp (ss ++ ys))
  first_rising n ss ys up =
      ap (take n) (sym (merged_is (take n ss) ys (rising_take o n ss up)))
      ∙ take_merged cmp ss n n (ordered cmp ys) (omega arith)
      ∙ ap (take n) (merged_is ss ys up)

  -- putting some of them in order first changes nothing
  ordered_before : (xs ys : List X) → ordered cmp (ordered cmp xs ++ ys) ≡ ordered cmp (xs ++ ys)
  ordered_before xs ys =
      rising_only o (ordered cmp (ordered cmp xs ++ ys)) (ordered cmp (xs ++ ys)) (rising_ordered o (ordered cmp xs ++ ys)) (rising_ordered o (xs ++ ys))
      (λ z. kept_ordered o z (ordered cmp xs ++ ys)
      ∙ filter-append (ties (λ a b. is_lt (cmp a b)) z) (ordered cmp xs) ys
      ∙ ap (λ zs. zs ++ filter (ties (λ a b. is_lt (cmp a b)) z) ys) (kept_ordered o z xs)
      ∙ sym (filter-append (ties (λ a b. is_lt (cmp a b)) z) xs ys)
      ∙ sym (kept_ordered o z (xs ++ ys)))

  -- so the first n of two lists are known by the first n of the one
  pub first_part : (n : ℕ) (xs ys : List X) → take n (ordered cmp (take n (ordered cmp xs) ++ ys)) ≡ take n (ordered cmp (xs ++ ys))
  first_part n xs ys = first_rising n (ordered cmp xs) ys (rising_ordered o xs) ∙ ap (take n) (ordered_before xs ys)
