-- Facts of every element of a list, of every two and of every two neighbours, from tests that compute.
use Rattle.std.proofs.lemmas.Bool.Decides.{nat_tests}
use Rattle.std.proofs.Common.{◌≡◌, ℕ, zero, suc, ◌<◌, Bool, true, false, nat_lt, ◌&&◌, Option, Some, None, unwrap_or, List, [], ◌∷◌, slice_get, ℤ, pos, negsuc, sym, ap, ◌∙◌, arith}
use Rattle.std.specs.List.{list_all}
use Rattle.std.proofs.lemmas.Bool.{ltb-true}
use Rattle.std.proofs.lemmas.Int.{ints}
use Rattle.std.proofs.lemmas.Option.{same_Some}
use Rattle.sched_types.specs.Timetable.{IsSmall}

first_part : (a b : Bool) → (a && b) ≡ true → a ≡ true
first_part a b e = grind arith

second_part : (a b : Bool) → (a && b) ≡ true → b ≡ true
second_part a b e = grind arith

-- each element passes
pub all_at : {X : Type 0} (test : X → Bool) (xs : List X) → list_all test xs ≡ true → (i : ℕ) (x : X) → slice_get xs i ≡ Some x → test x ≡ true
all_at test [] e i x at = cc
all_at test (y ∷ ys) e zero x at = ap test (sym (same_Some y x at)) ∙ first_part (test y) (list_all test ys) e
all_at test (y ∷ ys) e (suc i) x at = all_at test ys (second_part (test y) (list_all test ys) e) i x at

-- each element of each list passes
pub nested_at : {X : Type 0} (test : X → Bool) (xss : List (List X)) → list_all (list_all test) xss ≡ true → (k i : ℕ) (x : X) → slice_get (unwrap_or (slice_get xss k) []) i ≡ Some x → test x ≡ true
nested_at test [] e k i x at = cc
nested_at test (xs ∷ xss) e zero i x at = all_at test xs (first_part (list_all test xs) (list_all (list_all test) xss) e) i x at
nested_at test (xs ∷ xss) e (suc k) i x at = nested_at test xss (second_part (list_all test xs) (list_all (list_all test) xss) e) k i x at

-- each element passes with each later one
unfoldable pub all_pairs : {X : Type 0} → (X → X → Bool) → List X → Bool
all_pairs test [] = true
all_pairs test (x ∷ xs) = list_all (test x) xs && all_pairs test xs

pub pairs_at : {X : Type 0} (test : X → X → Bool) (xs : List X) → all_pairs test xs ≡ true → (i j : ℕ) (x y : X) → i < j → slice_get xs i ≡ Some x → slice_get xs j ≡ Some y → test x y ≡ true
unfolding all_pairs
pairs_at test [] e i j x y h at then = cc
pairs_at test (z ∷ zs) e i zero x y h at then = absurd (omega arith)
pairs_at test (z ∷ zs) e zero (suc j) x y h at then = grind (arith, all_at (test z) zs (first_part (list_all (test z) zs) (all_pairs test zs) e) j y, first_part (list_all (test z) zs) (all_pairs test zs) e)
pairs_at test (z ∷ zs) e (suc i) (suc j) x y h at then = grind (arith, pairs_at test zs (second_part (list_all (test z) zs) (all_pairs test zs) e) i j x y (omega arith) at)

pub nested_pairs_at : {X : Type 0} (test : X → X → Bool) (xss : List (List X)) → list_all (all_pairs test) xss ≡ true → (k i j : ℕ) (x y : X) → i < j → slice_get (unwrap_or (slice_get xss k) []) i ≡ Some x → slice_get (unwrap_or (slice_get xss k) []) j ≡ Some y → test x y ≡ true
nested_pairs_at test [] e k i j x y h at then = cc
nested_pairs_at test (xs ∷ xss) e zero i j x y h at then = pairs_at test xs (first_part (all_pairs test xs) (list_all (all_pairs test) xss) e) i j x y h at then
nested_pairs_at test (xs ∷ xss) e (suc k) i j x y h at then = nested_pairs_at test xss (second_part (all_pairs test xs) (list_all (all_pairs test) xss) e) k i j x y h at then

-- a number that may be given is below another
abbrev pub given_below : ℕ → Option ℕ → Bool
given_below n None = true
given_below n (Some m) = nat_lt m n

pub given_below-is : (n m : ℕ) (o : Option ℕ) → given_below n o ≡ true → o ≡ Some m → m < n
given_below-is n m o e given = ltb-true m n (ap (given_below n) (sym given) ∙ e)

-- seconds from the epoch on are small
abbrev pub is_small : ℤ → Bool
is_small (pos n) = nat_lt n 1_000_000_000_000
is_small (negsuc n) = false

pub is_small-is : (seconds : ℤ) → is_small seconds ≡ true → IsSmall seconds
is_small-is seconds e = grind (arith, ints, ltb-true, nat_tests)
