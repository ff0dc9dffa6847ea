-- Blanks at the end.
use Rattle.std.proofs.Common.{◌≡◌, ℕ, ◌+◌, ◌-◌, ◌≤◌, true, false, List, [], ◌∷◌, ◌++◌, length, take, get_or, refl, sym, ap, ◌∙◌, arith}
use Rattle.std.proofs.lemmas.List.{take_more}
use Rattle.std.proofs.Math.Seq.{take-length}
use Rattle.gtfs_rows.specs.Files.{before_trimmed, is_blank, trimmed_end}

-- a blank at the end is dropped
pub trimmed_end-blank : (xs : List ℕ) (b : ℕ) → is_blank b ≡ true → trimmed_end (xs ++ b ∷ []) ≡ trimmed_end xs
trimmed_end-blank [] b e = rw e refl
trimmed_end-blank (x ∷ xs) b e = ap (before_trimmed x) (trimmed_end-blank xs b e)

-- a byte in front of others stays
before-front : (x : ℕ) (xs : List ℕ) (b : ℕ) → before_trimmed x (xs ++ b ∷ []) ≡ x ∷ (xs ++ b ∷ [])
before-front x [] b = refl
before-front x (y ∷ ys) b = refl

-- where the last byte is no blank, all stay
pub trimmed_end-other : (xs : List ℕ) (b : ℕ) → is_blank b ≡ false → trimmed_end (xs ++ b ∷ []) ≡ xs ++ b ∷ []
trimmed_end-other [] b e = rw e refl
trimmed_end-other (x ∷ xs) b e = ap (before_trimmed x) (trimmed_end-other xs b e) ∙ before-front x xs b

-- bytes as those before the last one, and the last
last_split : (xs : List ℕ) → 1 ≤ length xs → take (length xs - 1) xs ++ get_or xs (length xs - 1) 0 ∷ [] ≡ xs
last_split xs h =
    let count : length xs - 1 + 1 ≡ length xs = omega arith in
    sym (take_more xs (length xs - 1) 0 (omega arith)) ∙ ap (λ n. take n xs) count ∙ take-length xs

-- a last byte that is blank
pub blank_last : (xs : List ℕ) → 1 ≤ length xs → is_blank (get_or xs (length xs - 1) 0) ≡ true → trimmed_end (take (length xs - 1) xs) ≡ trimmed_end xs
blank_last xs h e = sym (trimmed_end-blank (take (length xs - 1) xs) (get_or xs (length xs - 1) 0) e) ∙ ap trimmed_end (last_split xs h)

-- a last byte that isn't
pub other_last : (xs : List ℕ) → 1 ≤ length xs → is_blank (get_or xs (length xs - 1) 0) ≡ false → xs ≡ trimmed_end xs
other_last xs h e =
    sym (last_split xs h) ∙ sym (trimmed_end-other (take (length xs - 1) xs) (get_or xs (length xs - 1) 0) e) ∙ ap trimmed_end (last_split xs h)
