-- How wide a number of 64 bits is.
use Rattle.std.specs.Prelude.{ℕ}

-- the most decimal digits that it takes
abbrev pub most_digits : ℕ
most_digits = 20

-- the greatest such number
abbrev pub last_number : ℕ
last_number = 18446744073709551615
