-- Blanks at the end of a value, and tests of fields one after another.
use Rattle.std.proofs.Common.{◌≡◌, ℕ, ◌+◌, ◌-◌, ◌<◌, ◌≤◌, Bool, true, false, ◌||◌, List, [], ◌∷◌, ◌++◌, length, take, drop, reverse, map, get_or, refl, sym, ap, ◌∙◌, arith}
use Rattle.std.specs.List.{list_any}
use Rattle.std.proofs.lemmas.List.{take_more, drop_more, reverse-append, reverse-reverse}
use Rattle.std.proofs.Math.Seq.{take-length}
use Rattle.httparse.specs.Grammar.{is_ows, skip_ows}

-- bytes as those before the last one, and the last
last_split : (xs : List ℕ) → 1 ≤ length xs → take (length xs - 1) xs ++ get_or xs (length xs - 1) 0 ∷ [] ≡ xs
last_split xs h =
    let count : length xs - 1 + 1 ≡ length xs = omega arith in
    sym (take_more xs (length xs - 1) 0 (omega arith)) ∙ ap (λ n. take n xs) count ∙ take-length xs

-- the last byte comes first from behind
from_behind : (xs : List ℕ) → 1 ≤ length xs
    → reverse xs ≡ get_or xs (length xs - 1) 0 ∷ reverse (take (length xs - 1) xs)
from_behind xs h =
    ap reverse (sym (last_split xs h)) ∙ reverse-append (take (length xs - 1) xs) (get_or xs (length xs - 1) 0 ∷ [])

blank_first : (b : ℕ) (xs : List ℕ) → is_ows b ≡ true → skip_ows (b ∷ xs) ≡ skip_ows xs
blank_first b xs e = rw e refl

other_first : (b : ℕ) (xs : List ℕ) → is_ows b ≡ false → skip_ows (b ∷ xs) ≡ b ∷ xs
other_first b xs e = rw e refl

-- a last byte that is blank
pub blank_last : (xs : List ℕ) → 1 ≤ length xs → is_ows (get_or xs (length xs - 1) 0) ≡ true
    → reverse (skip_ows (reverse (take (length xs - 1) xs))) ≡ reverse (skip_ows (reverse xs))
blank_last xs h e =
    ap reverse
    (sym (blank_first (get_or xs (length xs - 1) 0) (reverse (take (length xs - 1) xs)) e) ∙ ap skip_ows (sym (from_behind xs h)))

-- a last byte that isn't
pub other_last : (xs : List ℕ) → 1 ≤ length xs → is_ows (get_or xs (length xs - 1) 0) ≡ false
    → xs ≡ reverse (skip_ows (reverse xs))
other_last xs h e =
    sym (reverse-reverse xs)
    ∙ ap reverse
    (from_behind xs h ∙ sym (other_first (get_or xs (length xs - 1) 0) (reverse (take (length xs - 1) xs)) e)
    ∙ ap skip_ows (sym (from_behind xs h)))

module _ {X Y : Type 0} (test : Y → Bool) (f : X → Y) where
  at_place : (xs : List X) (i : ℕ) (d : X) → i < length xs
      → list_any test (map f (drop i xs)) ≡ (test (f (get_or xs i d)) || list_any test (map f (drop (i + 1) xs)))
  at_place xs i d lt = ap (λ (ys : List X). list_any test (map f ys)) (drop_more xs i d lt)
