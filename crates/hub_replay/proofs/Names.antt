-- The number of a name.
use Rattle.std.proofs.Common.{◌≡◌, ℕ, ◌+◌, ◌<◌, List, [], ◌∷◌, length, Option, Some, None, Bool, sym, arith, MatchOption}
use Rattle.std.specs.Prelude.{cond, position}
use Rattle.std.specs.List.{position_from}
use Rattle.std.proofs.lemmas.Iterator.Adapters.{position_from-zero}

within_from : {A : Type 0} (test : A → Bool) (here : Bool) (at : ℕ) (x : A) (xs : List A) (k : ℕ)
    → ((j : ℕ) → position_from test (at + 1) xs ≡ Some j → j < at + 1 + length xs) → cond here (Some at) (position_from test (at + 1) xs) ≡ Some k → k < at + length (x ∷ xs)
within_from test here at x xs k rest h = grind arith

position_within : {A : Type 0} (test : A → Bool) (at : ℕ) (xs : List A) (k : ℕ) → position_from test at xs ≡ Some k → k < at + length xs
position_within test at [] k h = cc
position_within test at (x ∷ xs) k h = within_from test (test x) at x xs k (λ j e. position_within test (at + 1) xs j e) h

abbrev pub IsPlace : {A : Type 0} → (A → Bool) → List A → Option ℕ → Type 0
IsPlace test names found = MatchOption found (position test names ≡ None) (λ k. (k < length names) × (position test names ≡ Some k))

is_place : {A : Type 0} (test : A → Bool) (names : List A) (found : Option ℕ) → position test names ≡ found → IsPlace test names found
is_place test names found h = grind (arith, position_within, position_from-zero)

-- the first place where a test passes is a place of the list
pub place_found : {A : Type 0} (test : A → Bool) (names : List A) (found : Option ℕ) → found ≡ position test names → IsPlace test names found
place_found test names found h = is_place test names found (sym h)
