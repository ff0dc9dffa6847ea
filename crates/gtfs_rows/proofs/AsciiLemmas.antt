-- Numbers, dates and times are ASCII, so their fields are text.
use Rattle.std.proofs.Common.{◌≡◌, ℕ, ◌+◌, ◌-◌, ◌*◌, ◌<◌, Bool, true, false, List, [], ◌∷◌, length, take, drop, Option, None, Some, refl, subst, arith, if◌then◌else◌}
use Rattle.std.specs.Prelude.{IsAscii, nat_le, option_and_then, option_map, ◌==◌, ◌&&◌}
use Rattle.std.specs.Char.{is_ascii_digit}
use Rattle.std.specs.Str.{is_utf8}
use Rattle.std.proofs.lemmas.Bool.Decides.{nat_tests}
use Rattle.std.proofs.lemmas.List.{take-append-drop}
use Rattle.std.proofs.lemmas.Str.{IsAscii-append, IsUtf8-from_ascii, is_utf8-from_IsUtf8}
use Rattle.std.proofs.lemmas.Str.Ascii.{IsAscii-cons, IsAscii-nil}
use Rattle.text_defs.specs.Dates.{date_in, day_or_none}
use Rattle.text_defs.specs.Numbers.{digits, digits_after, number as digits_number, within}
use Rattle.text_defs.specs.Times.{clock_of, seconds_of, sixtieth, time_in}
use Rattle.gtfs_rows.specs.Values.{date, number}

digit-small : (b : ℕ) → is_ascii_digit b ≡ true → b < 128
digit-small b h = grind (arith, nat_tests)

-- the test of ASCII bytes
ascii-text : (bytes : List ℕ) → IsAscii bytes → is_utf8 bytes ≡ true
ascii-text bytes h = is_utf8-from_IsUtf8 bytes (IsUtf8-from_ascii bytes h)

after-ascii : (value : ℕ) (bytes : List ℕ) (n : ℕ) → digits_after value bytes ≡ Some n → IsAscii bytes
after-ascii value [] n e = IsAscii-nil
after-ascii value (b ∷ bytes) n e = by (is_ascii_digit b) refl e (after-ascii (value * 10 + (b - 48)) bytes n)
  where
    by : (t : Bool) → is_ascii_digit b ≡ t → (if t then digits_after (value * 10 + (b - 48)) bytes else None) ≡ Some n
        → (digits_after (value * 10 + (b - 48)) bytes ≡ Some n → IsAscii bytes) → IsAscii (b ∷ bytes)
    by true t e rest = IsAscii-cons b bytes (digit-small b t) (rest e)
    by false t e rest = cc

if-some : {A : Type 0} (t : Bool) (o : Option A) (x : A) → (if t then o else None) ≡ Some x → o ≡ Some x
if-some true o x e = e
if-some false o x e = cc

digits-ascii : (low high : ℕ) (bytes : List ℕ) (n : ℕ) → digits low high bytes ≡ Some n → IsAscii bytes
digits-ascii low high bytes n e = after-ascii 0 bytes n (if-some (nat_le low (length bytes) && nat_le (length bytes) high) (digits_after 0 bytes) n e)

then-some : {A B : Type 0} (f : A → Option B) (o : Option A) (y : B) → option_and_then f o ≡ Some y → (x : A) × (o ≡ Some x) × (f x ≡ Some y)
then-some f None y e = cc
then-some f (Some x) y e = (x, refl, e)

-- a number is text
pub number_text : (low high : ℕ) (bytes : List ℕ) (n : ℕ) → number low high bytes ≡ Some n → is_utf8 bytes ≡ true
unfolding number digits_number
number_text low high bytes n e = let some = then-some (within low high) (digits 1 10 bytes) n e in ascii-text bytes (digits-ascii 1 10 bytes some.0 some.1)

-- a date is text
pub date_text : (bytes : List ℕ) (n : ℕ) → date bytes ≡ Some n → is_utf8 bytes ≡ true
unfolding date date_in
date_text bytes n e =
    let day = then-some (within 19000101 29991231) (date_in bytes) n e in
    let some = then-some day_or_none (digits 8 8 bytes) day.0 day.1 in ascii-text bytes (digits-ascii 8 8 bytes some.0 some.1)

sixtieth-ascii : (bytes : List ℕ) (n : ℕ) → sixtieth bytes ≡ Some n → IsAscii bytes
sixtieth-ascii bytes n e = let some = then-some (within 0 59) (digits 2 2 bytes) n e in digits-ascii 2 2 bytes some.0 some.1

map-some : {A B : Type 0} (f : A → B) (o : Option A) (y : B) → option_map f o ≡ Some y → (x : A) × (o ≡ Some x)
map-some f None y e = cc
map-some f (Some x) y e = (x, refl)

clock-ascii : (hours : List ℕ) (behind : List ℕ) (n : ℕ) → clock_of hours behind ≡ Some n → IsAscii hours × IsAscii behind
clock-ascii hours [] n e = cc
clock-ascii hours (p ∷ []) n e = cc
clock-ascii hours (p ∷ a ∷ []) n e = cc
clock-ascii hours (p ∷ a ∷ b ∷ []) n e = cc
clock-ascii hours (p ∷ a ∷ b ∷ q ∷ []) n e = cc
clock-ascii hours (p ∷ a ∷ b ∷ q ∷ c ∷ []) n e = cc
clock-ascii hours (p ∷ a ∷ b ∷ q ∷ c ∷ d ∷ x ∷ more) n e = cc
clock-ascii hours (p ∷ a ∷ b ∷ q ∷ c ∷ d ∷ []) n e = by ((p == 58) && (q == 58)) refl e
  where
    by : (t : Bool) → ((p == 58) && (q == 58)) ≡ t → (if t then seconds_of (digits 1 3 hours) (sixtieth (a ∷ b ∷ [])) (sixtieth (c ∷ d ∷ [])) else None) ≡ Some n
        → IsAscii hours × IsAscii (p ∷ a ∷ b ∷ q ∷ c ∷ d ∷ [])
    by false t e = cc
    by true t e =
        let p_small : p < 128 = grind (arith, nat_tests) in
        let q_small : q < 128 = grind (arith, nat_tests) in
        let h = then-some (λ h. option_and_then (λ m. option_map (λ s. h * 3600 + m * 60 + s) (sixtieth (c ∷ d ∷ []))) (sixtieth (a ∷ b ∷ []))) (digits 1 3 hours) n e in
        let m = then-some (λ m. option_map (λ s. h.0 * 3600 + m * 60 + s) (sixtieth (c ∷ d ∷ []))) (sixtieth (a ∷ b ∷ [])) n h.2 in
        let s = map-some (λ s. h.0 * 3600 + m.0 * 60 + s) (sixtieth (c ∷ d ∷ [])) n m.2 in (
          digits-ascii 1 3 hours h.0 h.1,
          IsAscii-append (p ∷ []) (a ∷ b ∷ q ∷ c ∷ d ∷ []) (IsAscii-cons p [] p_small IsAscii-nil)
              (IsAscii-append (a ∷ b ∷ []) (q ∷ c ∷ d ∷ []) (sixtieth-ascii (a ∷ b ∷ []) m.0 m.1) (IsAscii-cons q (c ∷ d ∷ []) q_small (sixtieth-ascii (c ∷ d ∷ []) s.0 s.1))),
        )

-- a time is text
pub time_text : (bytes : List ℕ) (n : ℕ) → time_in bytes ≡ Some n → is_utf8 bytes ≡ true
unfolding time_in
time_text bytes n e =
    let parts = clock-ascii (take (length bytes - 6) bytes) (drop (length bytes - 6) bytes) n e in
    ascii-text bytes (subst IsAscii (take-append-drop (length bytes - 6) bytes) (IsAscii-append (take (length bytes - 6) bytes) (drop (length bytes - 6) bytes) parts.0 parts.1))

-- an empty cell is text
pub empty_text : is_utf8 [] ≡ true
empty_text = ascii-text [] IsAscii-nil
