-- Numbers of up to 20 digits, by those of up to 19.
use Rattle.std.proofs.Common.{◌≡◌, ◌≢◌, ◌∙◌, sym, ℕ, zero, suc, ◌+◌, ◌-◌, ◌*◌, ◌^◌, ◌<◌, ◌≤◌, ◌&&◌, Bool, true, false, cond, refl, ap, List, [], ◌∷◌, length, Option, Some, None, arith, nat_le}
use Rattle.std.proofs.Math.Nat.{add-mul, mul_assoc, mul-le-mul_left, mul-le-mul_right, pow-succ', pow-le-pow_right}
use Rattle.std.proofs.lemmas.Bool.Decides.{nat_tests}
use Rattle.std.specs.Prelude.{IfSome}
use Rattle.std.specs.Char.{is_ascii_digit}
use Rattle.std.specs.Option.{option_and_then, option_map}
use Rattle.text_defs.specs.Numbers.{digits_after, number, within}
use Rattle.long_numbers.specs.Width.{last_number}

-- fewer than 20 digits are at most 19
pub few_digits : (low high : ℕ) (bytes : List ℕ) → length bytes < 20 → number 19 low high bytes ≡ number 20 low high bytes
unfolding number
few_digits low high bytes few =
    let most : nat_le (length bytes) 19 ≡ nat_le (length bytes) 20 = grind (arith, nat_tests) in
    ap (λ b. option_and_then (within low high) (cond (nat_le 1 (length bytes) && b) (digits_after 0 bytes) None)) most

-- a 0 in front of some digits adds nothing
pub zero_in_front : (low high : ℕ) (bytes : List ℕ) → 1 ≤ length bytes → number 19 low high bytes ≡ number 20 low high (48 ∷ bytes)
unfolding number
zero_in_front low high bytes some =
    let same : (nat_le 1 (length bytes) && nat_le (length bytes) 19) ≡ (nat_le 1 (length (48 ∷ bytes)) && nat_le (length (48 ∷ bytes)) 20) = grind (arith, nat_tests) in
    ap (λ b. option_and_then (within low high) (cond b (digits_after 0 bytes) None)) same

-- each digit makes the number ten times as large
one_more : (value digit p : ℕ) → value * (10 * p) ≤ (value * 10 + digit) * p
one_more value digit p =
    let parts : (value * 10 + digit) * p ≡ value * 10 * p + digit * p = add-mul (value * 10) digit p in
    let same : value * 10 * p ≡ value * (10 * p) = mul_assoc value 10 p in
    omega (arith, parts, same)

grows : (value : ℕ) (bytes : List ℕ) → IfSome (digits_after value bytes) (λ n. value * 10 ^ length bytes ≤ n)
grows value [] = omega arith
grows value (b ∷ bytes) = go (is_ascii_digit b) (larger (digits_after (value * 10 + (b - 48)) bytes) (grows (value * 10 + (b - 48)) bytes))
  where
    larger : (found : Option ℕ) → IfSome found (λ n. (value * 10 + (b - 48)) * 10 ^ length bytes ≤ n) → IfSome found (λ n. value * 10 ^ suc (length bytes) ≤ n)
    larger None h = tt
    larger (Some n) h =
        let step = one_more value (b - 48) (10 ^ length bytes) in
        let power : 10 ^ suc (length bytes) ≡ 10 * 10 ^ length bytes = pow-succ' 10 (length bytes) in
        rw power (omega (arith, step, h))

    go : (is_digit : Bool) → IfSome (digits_after (value * 10 + (b - 48)) bytes) (λ n. value * 10 ^ suc (length bytes) ≤ n)
        → IfSome (cond is_digit (digits_after (value * 10 + (b - 48)) bytes) None) (λ n. value * 10 ^ suc (length bytes) ≤ n)
    go true h = h
    go false h = tt

larger_some : (found : Option ℕ) (least more : ℕ) → more < least → IfSome found (λ n. least ≤ n) → IfSome found (λ n. more < n)
larger_some None least more h known = tt
larger_some (Some n) least more h known = omega (arith, h, known)

outside : (low high : ℕ) (found : Option ℕ) → IfSome found (λ n. high < n) → option_and_then (within low high) found ≡ None
outside low high None h = refl
outside low high (Some n) h = grind (arith, nat_tests)

at_least : (least value limit power : ℕ) → least ≤ value → limit ≤ power → least * limit ≤ value * power
at_least least value limit power some wide =
    let more : least * power ≤ value * power = mul-le-mul_right power some in
    let wider : least * limit ≤ least * power = mul-le-mul_left least wide in
    omega (arith, more, wider)

-- 19 digits behind one that is large write too large a number
too_large : (low high least byte : ℕ) (bytes : List ℕ) → high < least * 10_000_000_000_000_000_000 → (is_ascii_digit byte ≡ true → least ≤ byte - 48) → 19 ≤ length bytes
    → number 20 low high (byte ∷ bytes) ≡ None
unfolding number
too_large low high least byte bytes below other long =
    outside low high _ (counted (nat_le 1 (length (byte ∷ bytes)) && nat_le (length (byte ∷ bytes)) 20))
  where
    large : (is_digit : Bool) → is_ascii_digit byte ≡ is_digit → IfSome (cond is_digit (digits_after (0 * 10 + (byte - 48)) bytes) None) (λ n. high < n)
    large false e = tt
    large true e =
        let is_least = other e in
        let digit : least ≤ 0 * 10 + (byte - 48) = omega (arith, is_least) in
        let ten : zero < 10 = omega arith in
        let wide : 10_000_000_000_000_000_000 ≤ 10 ^ length bytes = pow-le-pow_right {n = 10} ten {i = 19} {j = length bytes} long in
        let all = at_least least (0 * 10 + (byte - 48)) 10_000_000_000_000_000_000 (10 ^ length bytes) digit wide in
        larger_some (digits_after (0 * 10 + (byte - 48)) bytes) ((0 * 10 + (byte - 48)) * 10 ^ length bytes) high (omega (arith, all, below)) (grows (0 * 10 + (byte - 48)) bytes)

    counted : (b : Bool) → IfSome (cond b (digits_after 0 (byte ∷ bytes)) None) (λ n. high < n)
    counted true = large (is_ascii_digit byte) refl
    counted false = tt

-- ---- numbers of 64 bits

-- 19 digits behind one that is neither 0 nor 1 write no such number
pub past_one : (byte : ℕ) (bytes : List ℕ) → byte ≢ 48 → byte ≢ 49 → 19 ≤ length bytes → number 20 0 last_number (byte ∷ bytes) ≡ None
past_one byte bytes no_zero no_one long = too_large 0 last_number 2 byte bytes (omega arith) (λ e. grind (arith, nat_tests)) long

-- what is in front of digits counts by their number
shifted : (value more : ℕ) (bytes : List ℕ) → digits_after (value + more) bytes ≡ option_map (λ n. value * 10 ^ length bytes + n) (digits_after more bytes)
shifted value more [] = ap Some (omega arith)
shifted value more (b ∷ bytes) = go (is_ascii_digit b) (whole (shifted (value * 10) (more * 10 + (b - 48)) bytes))
  where
    whole : digits_after (value * 10 + (more * 10 + (b - 48))) bytes ≡ option_map (λ n. value * 10 * 10 ^ length bytes + n) (digits_after (more * 10 + (b - 48)) bytes)
        → digits_after ((value + more) * 10 + (b - 48)) bytes ≡ option_map (λ n. value * 10 ^ suc (length bytes) + n) (digits_after (more * 10 + (b - 48)) bytes)
    whole rest =
        let front : (value + more) * 10 + (b - 48) ≡ value * 10 + (more * 10 + (b - 48)) = omega arith in
        let power : value * 10 * 10 ^ length bytes ≡ value * 10 ^ suc (length bytes) = mul_assoc value 10 (10 ^ length bytes) ∙ ap (λ p. value * p) (sym (pow-succ' 10 (length bytes))) in
        ap (λ v. digits_after v bytes) front ∙ rest
        ∙ ap (λ p. option_map (λ n. p + n) (digits_after (more * 10 + (b - 48)) bytes)) power

    go : (is_digit : Bool) → digits_after ((value + more) * 10 + (b - 48)) bytes ≡ option_map (λ n. value * 10 ^ suc (length bytes) + n) (digits_after (more * 10 + (b - 48)) bytes)
        → cond is_digit (digits_after ((value + more) * 10 + (b - 48)) bytes) None ≡ option_map (λ n. value * 10 ^ suc (length bytes) + n) (cond is_digit (digits_after (more * 10 + (b - 48)) bytes) None)
    go true same = same
    go false same = refl

-- the number behind the digit 1
abbrev pub behind_one : ℕ → ℕ
behind_one n = 10_000_000_000_000_000_000 + n

fits_behind : (n : ℕ) → within 0 last_number (behind_one n) ≡ option_map behind_one (within 0 (last_number - 10_000_000_000_000_000_000) n)
fits_behind n =
    let same : (nat_le 0 (behind_one n) && nat_le (behind_one n) last_number) ≡ (nat_le 0 n && nat_le n (last_number - 10_000_000_000_000_000_000)) = grind (arith, nat_tests) in
    ap (λ b. cond b (Some (behind_one n)) None) same ∙ go (nat_le 0 n && nat_le n (last_number - 10_000_000_000_000_000_000))
  where
    go : (b : Bool) → cond b (Some (behind_one n)) None ≡ option_map behind_one (cond b (Some n) None)
    go true = refl
    go false = refl

each_behind : (found : Option ℕ) → option_map behind_one (option_and_then (within 0 (last_number - 10_000_000_000_000_000_000)) found) ≡ option_and_then (within 0 last_number) (option_map behind_one found)
each_behind None = refl
each_behind (Some n) = sym (fits_behind n)

-- the number of 64 bits that 19 digits write behind the digit 1
pub one_in_front : (bytes : List ℕ) → 19 ≤ length bytes
    → option_map behind_one (number 19 0 (last_number - 10_000_000_000_000_000_000) bytes) ≡ number 20 0 last_number (49 ∷ bytes)
unfolding number
one_in_front bytes long =
    let same : (nat_le 1 (length bytes) && nat_le (length bytes) 19) ≡ (nat_le 1 (length (49 ∷ bytes)) && nat_le (length (49 ∷ bytes)) 20) = grind (arith, nat_tests) in
    go (nat_le 1 (length bytes) && nat_le (length bytes) 19) refl ∙ ap (λ b. option_and_then (within 0 last_number) (cond b (digits_after 1 bytes) None)) same
  where
    go : (b : Bool) → (nat_le 1 (length bytes) && nat_le (length bytes) 19) ≡ b
        → option_map behind_one (option_and_then (within 0 (last_number - 10_000_000_000_000_000_000)) (cond b (digits_after 0 bytes) None)) ≡ option_and_then (within 0 last_number) (cond b (digits_after 1 bytes) None)
    go false e = refl
    go true e =
        let count : length bytes ≡ 19 = grind (arith, nat_tests) in
        let moved : digits_after 1 bytes ≡ option_map behind_one (digits_after 0 bytes) = shifted 1 0 bytes ∙ ap (λ k. option_map (λ n. 1 * 10 ^ k + n) (digits_after 0 bytes)) count in
        each_behind (digits_after 0 bytes) ∙ ap (option_and_then (within 0 last_number)) (sym moved)

-- ---- narrower ranges

within_all : (low high n : ℕ) → high ≤ last_number → option_and_then (within low high) (within 0 last_number n) ≡ within low high n
within_all low high n fits = by (nat_le 0 n && nat_le n last_number) refl
  where
    by : (t : Bool) → (nat_le 0 n && nat_le n last_number) ≡ t → option_and_then (within low high) (cond t (Some n) None) ≡ within low high n
    by true e = refl
    by false e = sym (ap (λ b. cond b (Some n) None) above)
      where
        above : (nat_le low n && nat_le n high) ≡ false
        above = grind (arith, nat_tests)

each_within : (low high : ℕ) (found : Option ℕ) → high ≤ last_number
    → option_and_then (within low high) (option_and_then (within 0 last_number) found) ≡ option_and_then (within low high) found
each_within low high None fits = refl
each_within low high (Some n) fits = within_all low high n fits

-- a number of a range is one of 64 bits that is in it
pub in_range : (low high : ℕ) (bytes : List ℕ) → high ≤ last_number → option_and_then (within low high) (number 20 0 last_number bytes) ≡ number 20 low high bytes
unfolding number
in_range low high bytes fits = each_within low high _ fits
