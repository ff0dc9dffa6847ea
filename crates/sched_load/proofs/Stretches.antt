-- A stretch of a list whose keys don't fall.
use Rattle.std.proofs.Common.{◌≡◌, ℕ, zero, suc, ◌+◌, ◌-◌, ◌<◌, ◌≤◌, Bool, true, false, ◌==◌, cond, List, [], ◌∷◌, length, take, drop, get_or, filter, refl, sym, ap, ◌∙◌, subst, arith}
use Rattle.std.proofs.lemmas.Bool.Decides.{nat_tests}
use Rattle.std.proofs.lemmas.List.{get_or-drop, length-drop}

-- none of the first elements passes
pub filter_none_front : {X : Type 0} (p : X → Bool) (n : ℕ) (xs : List X) → ((k : ℕ) (d : X) → k < n → k < length xs → p (get_or xs k d) ≡ false) → filter p xs ≡ filter p (drop n xs)
filter_none_front p zero xs h = refl
filter_none_front p (suc n) [] h = refl
filter_none_front p (suc n) (x ∷ xs) h = ap (λ b. cond b (x ∷ filter p xs) (filter p xs)) (h 0 x (omega arith) (omega arith)) ∙ filter_none_front p n xs (λ k d l m. h (suc k) d (omega (arith, l)) (omega (arith, m)))

-- the first elements pass, and no more
pub filter_front : {X : Type 0} (p : X → Bool) (n : ℕ) (xs : List X) → ((k : ℕ) (d : X) → k < n → k < length xs → p (get_or xs k d) ≡ true) → ((k : ℕ) (d : X) → n ≤ k → k < length xs → p (get_or xs k d) ≡ false) → filter p xs ≡ take n xs
filter_front p zero [] h g = refl
filter_front p (suc n) [] h g = refl
filter_front p zero (x ∷ xs) h g = ap (λ b. cond b (x ∷ filter p xs) (filter p xs)) (g 0 x (omega arith) (omega arith)) ∙ filter_front p zero xs (λ k d l m. absurd (omega (arith, l))) (λ k d l m. g (suc k) d (omega arith) (omega (arith, m)))
filter_front p (suc n) (x ∷ xs) h g = ap (λ b. cond b (x ∷ filter p xs) (filter p xs)) (h 0 x (omega arith) (omega arith)) ∙ ap (λ ys. x ∷ ys) (filter_front p n xs (λ k d l m. h (suc k) d (omega (arith, l)) (omega (arith, m))) (λ k d l m. g (suc k) d (omega (arith, l)) (omega (arith, m))))

is_eq : (a b : ℕ) → b ≤ a → a ≤ b → (a == b) ≡ true
is_eq a b h g = grind (arith, nat_tests)

below_not : (a b : ℕ) → a < b → (a == b) ≡ false
below_not a b h = grind (arith, nat_tests)

above_not : (a b : ℕ) → b < a → (a == b) ≡ false
above_not a b h = grind (arith, nat_tests)

module _ {X : Type 0} (key : X → ℕ) (t : ℕ) (xs behind : List X) (start count : ℕ) where
  -- the keys in front of a place are lower, some behind it are no higher, and those behind these are
  pub record IsStretch : Type 0 where
    pub lower : (k : ℕ) (d : X) → k < start → k < length xs → key (get_or xs k d) < t
    pub after : (k : ℕ) (d : X) → start ≤ k → k < length xs → t ≤ key (get_or xs k d)
    pub own : (k : ℕ) (d : X) → k < count → k < length behind → key (get_or behind k d) ≤ t
    pub higher : (k : ℕ) (d : X) → count ≤ k → k < length behind → t < key (get_or behind k d)

  pub stretch_kept : start ≤ length xs → behind ≡ drop start xs → IsStretch → filter (λ x. key x == t) xs ≡ take count behind
  stretch_kept within is h =
      let long : length behind ≡ length xs - start = ap length is ∙ length-drop start xs in
      filter_none_front (λ x. key x == t) start xs (λ k d l m. below_not (key (get_or xs k d)) t (h.lower k d l m))
      ∙ ap (filter (λ x. key x == t)) (sym is)
      ∙ filter_front (λ x. key x == t) count behind
      (λ k d l m. is_eq (key (get_or behind k d)) t (subst (λ x. t ≤ key x) (sym (ap (λ ys. get_or ys k d) is ∙ get_or-drop start xs k d)) (h.after (start + k) d (omega arith) (omega (arith, m, long, within)))) (h.own k d l m))
      (λ k d l m. above_not (key (get_or behind k d)) t (h.higher k d l m))
