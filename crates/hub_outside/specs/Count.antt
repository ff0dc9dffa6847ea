-- Counts of 64 bits, which rise by one and stay at their last value.
use Rattle.std.specs.Prelude.{◌≡◌, ℕ, ◌+◌, ◌-◌, ◌^◌, ◌≤◌, min}

-- the last value of a count
abbrev pub last_count : ℕ
last_count = 2 ^ 64 - 1

-- a count after one more: it stays at its last value once it is there
abbrev pub one_more : ℕ → ℕ
one_more n = min (n + 1) last_count

-- a count of faults rose between two moments; one that did not stands at its last value at both
abbrev pub Rose : ℕ → ℕ → Type 0
Rose before after = (before ≤ after) × (before ≡ after → before ≡ last_count)
