-- Numbers written in decimal digits, of which the first may be 0.
use Rattle.std.specs.Prelude.{ℕ, ◌+◌, ◌-◌, ◌*◌, ◌&&◌, nat_le, if◌then◌else◌, List, [], ◌∷◌, length, Option, Some, None}
use Rattle.std.specs.Char.{is_ascii_digit}
use Rattle.std.specs.Option.{option_and_then}

-- the number that decimal digits write behind those of the number `value`; none where a byte is no
-- digit
abbrev pub digits_after : ℕ → List ℕ → Option ℕ
digits_after value [] = Some value
digits_after value (b ∷ bytes) =
    if is_ascii_digit b then digits_after (value * 10 + (b - 48)) bytes else None

-- the number that `low` to `high` decimal digits write
abbrev pub digits : ℕ → ℕ → List ℕ → Option ℕ
digits low high bytes =
    if nat_le low (length bytes) && nat_le (length bytes) high then digits_after 0 bytes else None

-- a value of a range, its ends included
abbrev pub within : ℕ → ℕ → ℕ → Option ℕ
within low high value = if nat_le low value && nat_le value high then Some value else None

-- a number of 1 to `most` decimal digits from `low` to `high`
unfoldable pub number : ℕ → ℕ → ℕ → List ℕ → Option ℕ
number most low high bytes = option_and_then (within low high) (digits 1 most bytes)
