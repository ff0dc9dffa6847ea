-- The fields of a record, and the test of text.
use Rattle.std.proofs.Common.{◌≡◌, ℕ, ◌+◌, ◌<◌, zero, suc, Bool, true, false, List, [], ◌∷◌, length, map, take, set, drop, get_or, Some, None, refl, sym, ap, ◌∙◌, add-one}
use Rattle.std.proofs.lemmas.List.{map-append, take_more, take_more_set}
use Rattle.std.specs.Prelude.{unwrap_or, IsUtf8}
use Rattle.std.specs.Str.{is_utf8}
use Rattle.std.specs.List.{position_from}
use Rattle.std.proofs.lemmas.Str.{IsUtf8-from_is_utf8}
use Rattle.std.proofs.Math.Seq.{drop-cons}
use Rattle.csv.specs.Records.{field_at}

-- a field by its place, empty past the end
pub field-default : (fields : List (List ℕ)) (i : ℕ) → get_or fields i [] ≡ unwrap_or (field_at fields i) []
unfolding field_at
field-default [] i = refl
field-default (f ∷ fs) zero = refl
field-default (f ∷ fs) (suc i) = field-default fs i

-- bytes that aren't UTF-8 fail the test
pub is_utf8-none : (bs : List ℕ) → (IsUtf8 bs → ⊥) → is_utf8 bs ≡ false
is_utf8-none bs h = by (is_utf8 bs) refl
  where
    by : (b : Bool) → is_utf8 bs ≡ b → b ≡ false
    by true e = absurd (h (IsUtf8-from_is_utf8 bs e))
    by false e = refl

-- a place without a field
pub field_none : (fields : List (List ℕ)) (i : ℕ) → field_at fields i ≡ None → get_or fields i [] ≡ []
field_none fields i e = field-default fields i ∙ ap (λ o. unwrap_or o []) e

-- the search ends at a field that passes
pub found_here : (p : List ℕ → Bool) (fields : List (List ℕ)) (i : ℕ) → i < length fields → p (get_or fields i []) ≡ true
    → position_from p i (drop i fields) ≡ Some i
found_here p fields i small h = rw (drop-cons fields i [] small, h) refl

-- the search goes on behind a field that doesn't
pub passed_here : (p : List ℕ → Bool) (fields : List (List ℕ)) (i : ℕ) → i < length fields → p (get_or fields i []) ≡ false
    → position_from p (i + 1) (drop (i + 1) fields) ≡ position_from p i (drop i fields)
passed_here p fields i small h = rw (drop-cons fields i [] small, h) (ap (λ n. position_from p (i + 1) (drop n fields)) (add-one i))

-- one more of the values of a list, written behind those so far
pub next_place : {A B : Type 0} (f : A → B) (xs : List A) (ys : List B) (i : ℕ) (y : B) (x : A) → i < length xs → i < length ys
    → y ≡ f (get_or xs i x) → take i ys ≡ map f (take i xs) → take (i + 1) (set ys i y) ≡ map f (take (i + 1) xs)
next_place f xs ys i y x p q e h =
    take_more_set ys i y q ∙ rw (h, e) refl ∙ sym (map-append f (take i xs) (get_or xs i x ∷ [])) ∙ sym (ap (map f) (take_more xs i x p))
