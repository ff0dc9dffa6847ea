-- A field without control characters stays as it is, and numbers and words have none.
use Rattle.std.proofs.Common.{◌≡◌, ℕ, suc, ◌+◌, ◌<◌, ◌^◌, ◌%◌, Bool, true, false, List, [], ◌∷◌, ◌++◌, ℤ, pos, negsuc, w64, SFits, refl, ap, ap₂, arith}
use Rattle.std.specs.Prelude.{◌||◌}
use Rattle.std.specs.Char.{is_ascii_control}
use Rattle.std.specs.Fmt.{decimal, signed_decimal}
use Rattle.std.specs.List.{list_any}
use Rattle.std.proofs.lemmas.Bool.Decides.{nat_tests}
use Rattle.std.proofs.lemmas.Fmt.{decimal_by_steps}
use Rattle.text_defs.specs.Cleaned.{clean_byte, cleaned_text}
use Rattle.board_defs.specs.declared.row.RowState.{RowState}
use Rattle.board_defs.specs.declared.row.RowState.TheVariants as state
use Rattle.board_text_defs.specs.BoardText.{state_word}
use Rattle.board_text.specs.Fields.{IsPlain}

plain_byte : (b : ℕ) → is_ascii_control b ≡ false → clean_byte b ≡ b
plain_byte b e = grind (arith, nat_tests)

neither : (a b : Bool) → (a || b) ≡ false → (a ≡ false) × (b ≡ false)
neither true b e = absurd cc
neither false b e = (refl, e)

pub cleaned_plain : (field : List ℕ) → list_any is_ascii_control field ≡ false → cleaned_text field ≡ field
cleaned_plain [] e = refl
cleaned_plain (b ∷ field) e =
    let none = neither (is_ascii_control b) (list_any is_ascii_control field) e in
    ap₂ (λ (x : ℕ) (xs : List ℕ). x ∷ xs) (plain_byte b none.0) (cleaned_plain field none.1)

-- ---- numbers and words

any_append : (p : ℕ → Bool) (xs ys : List ℕ) → list_any p xs ≡ false → list_any p ys ≡ false → list_any p (xs ++ ys) ≡ false
any_append p [] ys e f = f
any_append p (x ∷ xs) ys e f =
    let none = neither (p x) (list_any p xs) e in
    ap₂ (λ a b. a || b) none.0 (any_append p xs ys none.1 f)

digit_plain : (n : ℕ) → n < 10 → is_ascii_control (48 + n) ≡ false
digit_plain n h = grind (arith, nat_tests)

pub plain_decimal : (n : ℕ) → n < 2 ^ 64 → IsPlain (decimal n)
plain_decimal n h =
    decimal_by_steps (λ k ds. IsPlain ds) (λ k l. ap (λ b. b || false) (digit_plain k l))
    (λ k ds l plain. any_append is_ascii_control ds ((48 + k % 10) ∷ []) plain (ap (λ b. b || false) (digit_plain (k % 10) (omega arith)))) n h

pub plain_signed : (z : ℤ) → SFits w64 z → IsPlain (signed_decimal z)
plain_signed (pos n) fits = plain_decimal n (omega (arith, fits.sfits))
plain_signed (negsuc n) fits = plain_decimal (suc n) (omega (arith, fits.sfits))

pub plain_state : (s : RowState) → IsPlain (state_word s)
plain_state state.Scheduled = refl
plain_state state.Live = refl
plain_state state.Skipped = refl
plain_state state.Canceled = refl
plain_state state.Added = refl
