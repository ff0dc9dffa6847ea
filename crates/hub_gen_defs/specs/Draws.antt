-- The numbers that a seed gives, one after another.
use Rattle.std.specs.Prelude.{ℕ, zero, suc, ◌+◌, ◌*◌, ◌/◌, ◌%◌, ◌^◌}

-- the state behind another one: a linear congruence modulo 2^64, with the constants of Knuth's MMIX
unfoldable pub state_behind : ℕ → ℕ
state_behind state = (state * 6364136223846793005 + 1442695040888963407) % 2 ^ 64

-- the state after so many draws; at first it is the seed
unfoldable pub state_after : ℕ → ℕ → ℕ
state_after seed zero = seed
state_after seed (suc draws) = state_behind (state_after seed draws)

-- what is drawn where that state comes about: its upper 31 bits
abbrev pub drawn_at : ℕ → ℕ
drawn_at state = state / 2 ^ 33

-- what is drawn behind so many draws
abbrev pub draw : ℕ → ℕ → ℕ
draw seed draws = drawn_at (state_behind (state_after seed draws))
