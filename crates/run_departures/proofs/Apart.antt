-- Of things with different numbers, what one of them says.
use Rattle.std.proofs.lemmas.Bool.Decides.{nat_tests}
use Rattle.std.proofs.Common.{◌≡◌, ℕ, true, false, cond, nat_eq, Option, Some, List, [], ◌∷◌, refl, append-nil, arith}
use Rattle.std.specs.List.{AllByRecursion, filter_map, flat_map}
use Rattle.std.proofs.lemmas.Bool.{cases_eq, eq-eqb, ne_eqb}
use Rattle.run_departures.proofs.Fusion.{all_given}
use Rattle.run_departures.proofs.Merging.{all_weaker}

eq_back : (a b : ℕ) → nat_eq a b ≡ false → nat_eq b a ≡ false
eq_back a b apart = grind (arith, cases_eq, eq-eqb, ne_eqb, nat_tests)

pub eq_itself : (a : ℕ) → nat_eq a a ≡ true
eq_itself a = eq-eqb a a refl

both_all : {X : Type 0} (P Q R : X → Type 0) → ((x : X) → P x → Q x → R x) → (xs : List X) → AllByRecursion P xs → AllByRecursion Q xs → AllByRecursion R xs
both_all P Q R h [] all more = tt
both_all P Q R h (x ∷ xs) all more = (h x all.0 more.0, both_all P Q R h xs all.1 more.1)

module _ {F : Type 0} (number : F → ℕ) where
  -- no later one has the number of an earlier one
  abbrev pub AreApart : List F → Type 0
  AreApart [] = Unit {0}
  AreApart (f ∷ fs) = AllByRecursion (λ g. nat_eq (number g) (number f) ≡ false) fs × AreApart fs

  -- the rows of that number, and none of others
  abbrev pub of_number : {Z : Type 0} → (F → List Z) → ℕ → F → List Z
  of_number rows n f = cond (nat_eq (number f) n) (rows f) []

  module _ {X Z : Type 0} (key : X → ℕ) (says : F → Option X) (own : (f : F) (x : X) → says f ≡ Some x → key x ≡ number f) (rows : F → List Z) (told : X → List Z) (tells : (f : F) (x : X) → says f ≡ Some x → rows f ≡ told x) where
    others_silent : (n : ℕ) (fs : List F) → AllByRecursion (λ g. nat_eq (number g) n ≡ false) fs → flat_map (of_number rows n) fs ≡ []
    others_silent n [] all = refl
    others_silent n (g ∷ fs) all = grind (arith, others_silent n fs all.1, nat_tests)

    -- one in front with another number
    keyed_apart : (f : F) (fs : List F) → AllByRecursion (λ g. nat_eq (number g) (number f) ≡ false) fs → AllByRecursion (λ x. nat_eq (number f) (key x) ≡ false) (filter_map says fs)
    keyed_apart f fs apart = grind (arith, all_given, all_weaker, eq_back, nat_tests)

    -- what all say under the number of one is what that one says
    pub one_speaks : (fs : List F) → AreApart fs → AllByRecursion (λ x. flat_map (of_number rows (key x)) fs ≡ told x) (filter_map says fs)
    one_speaks [] apart = tt
    one_speaks (f ∷ fs) apart = grind (arith, one_speaks fs apart.1, both_all, keyed_apart f fs apart.0, eq_itself (number f), others_silent (number f) fs apart.0, append-nil (rows f), nat_tests)
