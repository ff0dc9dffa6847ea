-- What a filter keeps of what another one kept, or of a list that was made of another one.
use Rattle.std.proofs.Common.{◌≡◌, Bool, true, false, ◌&&◌, cond, List, [], ◌∷◌, map, filter, refl, sym, ap, ◌∙◌}
use Rattle.order.proofs.Lists.{filter_same}

-- those of the kept that pass are those that pass both
pub filter_both : {X : Type 0} (p q : X → Bool) (xs : List X) → filter p (filter q xs) ≡ filter (λ x. q x && p x) xs
filter_both p q [] = refl
filter_both p q (x ∷ xs) = by_test (q x) (filter_both p q xs) where
  by_test : (b : Bool) → filter p (filter q xs) ≡ filter (λ y. q y && p y) xs
      → filter p (cond b (x ∷ filter q xs) (filter q xs)) ≡ cond (b && p x) (x ∷ filter (λ y. q y && p y) xs) (filter (λ y. q y && p y) xs)
  by_test true rest = ap (λ ys. cond (p x) (x ∷ ys) ys) rest
  by_test false rest = rest

-- what passes the one passes the other too
pub filter_within : {X : Type 0} (p q : X → Bool) (xs : List X) → ((x : X) → p x ≡ true → q x ≡ true) → filter p (filter q xs) ≡ filter p xs
filter_within p q xs within = filter_both p q xs ∙ filter_same (λ x. q x && p x) p xs (λ x. absorbed (q x) (p x) (within x)) where
  absorbed : (a b : Bool) → (b ≡ true → a ≡ true) → (a && b) ≡ b
  absorbed true b h = refl
  absorbed false true h = h refl
  absorbed false false h = refl

-- a test of what is made of items may come before
pub kept_map : {X Y : Type 0} (f : X → Y) (r : X → Bool) (q : Y → Bool) (xs : List X) → map f (filter r (filter (λ x. q (f x)) xs)) ≡ filter q (map f (filter r xs))
kept_map f r q [] = refl
kept_map {X = X} f r q (x ∷ xs) = by_item (filter (λ y. q (f y)) xs) (q (f x)) refl (kept_map f r q xs) where
  by_kept : (passing : List X) (b : Bool) → q (f x) ≡ true → map f (filter r passing) ≡ filter q (map f (filter r xs)) → map f (cond b (x ∷ filter r passing) (filter r passing)) ≡ filter q (map f (cond b (x ∷ filter r xs) (filter r xs)))
  by_kept passing true e rest =
      ap (λ ys. f x ∷ ys) rest ∙ sym (ap (λ c. cond c (f x ∷ filter q (map f (filter r xs))) (filter q (map f (filter r xs)))) e)
  by_kept passing false e rest = rest

  by_left : (passing : List X) (b : Bool) → q (f x) ≡ false → map f (filter r passing) ≡ filter q (map f (filter r xs)) → map f (filter r passing) ≡ filter q (map f (cond b (x ∷ filter r xs) (filter r xs)))
  by_left passing true e rest = rest ∙ sym (ap (λ c. cond c (f x ∷ filter q (map f (filter r xs))) (filter q (map f (filter r xs)))) e)
  by_left passing false e rest = rest

  by_item : (passing : List X) (c : Bool) → q (f x) ≡ c → map f (filter r passing) ≡ filter q (map f (filter r xs)) → map f (filter r (cond c (x ∷ passing) passing)) ≡ filter q (map f (filter r (x ∷ xs)))
  by_item passing true e rest = by_kept passing (r x) e rest
  by_item passing false e rest = by_left passing (r x) e rest
