-- What holds of each element of a list holds after a change of it.
use Rattle.std.proofs.Common.{◌≡◌, ℕ, zero, suc, ◌<◌, List, [], ◌∷◌, ◌++◌, length, take, drop, get_or, set, refl, ap, arith}
use Rattle.std.specs.Prelude.{insert, remove}
use Rattle.std.specs.List.{AllByRecursion}

module _ {X : Type 0} (P : X → Type 0) where
  pub each_back : (n : ℕ) (xs : List X) → AllByRecursion P xs → AllByRecursion P (drop n xs)
  each_back zero xs all = all
  each_back (suc n) [] all = tt
  each_back (suc n) (x ∷ xs) all = each_back n xs all.1

  pub each_front : (n : ℕ) (xs : List X) → AllByRecursion P xs → AllByRecursion P (take n xs)
  each_front zero xs all = tt
  each_front (suc n) [] all = tt
  each_front (suc n) (x ∷ xs) all = (all.0, each_front n xs all.1)

  pub each_at : (i : ℕ) (xs : List X) (d : X) → i < length xs → AllByRecursion P xs → P (get_or xs i d)
  each_at i [] d h all = absurd (omega arith)
  each_at zero (x ∷ xs) d h all = all.0
  each_at (suc i) (x ∷ xs) d h all = each_at i xs d (omega arith) all.1

  pub each_set : (xs : List X) (i : ℕ) (x : X) → AllByRecursion P xs → P x → AllByRecursion P (set xs i x)
  each_set [] i x all h = all
  each_set (y ∷ xs) zero x all h = (h, all.1)
  each_set (y ∷ xs) (suc i) x all h = (all.0, each_set xs i x all.1 h)

  pub each_insert : (xs : List X) (i : ℕ) (x : X) → AllByRecursion P xs → P x → AllByRecursion P (insert xs i x)
  each_insert xs zero x all h = (h, all)
  each_insert [] (suc i) x all h = (h, tt)
  each_insert (y ∷ xs) (suc i) x all h = (all.0, each_insert xs i x all.1 h)

  pub each_push : (xs : List X) (x : X) → AllByRecursion P xs → P x → AllByRecursion P (xs ++ x ∷ [])
  each_push [] x all h = (h, tt)
  each_push (y ∷ xs) x all h = (all.0, each_push xs x all.1 h)

  pub each_before : (xs ys : List X) → AllByRecursion P (xs ++ ys) → AllByRecursion P xs
  each_before [] ys all = tt
  each_before (x ∷ xs) ys all = (all.0, each_before xs ys all.1)

  pub each_behind : (xs ys : List X) → AllByRecursion P (xs ++ ys) → AllByRecursion P ys
  each_behind [] ys all = all
  each_behind (x ∷ xs) ys all = each_behind xs ys all.1

-- one that was changed is taken out
pub remove_set : {X : Type 0} (xs : List X) (i : ℕ) (x : X) → remove (set xs i x) i ≡ remove xs i
remove_set [] i x = refl
remove_set (y ∷ xs) zero x = refl
remove_set (y ∷ xs) (suc i) x = ap (λ ys. y ∷ ys) (remove_set xs i x)
