-- Moments in seconds since 1 January 1970 at UTC, as POSIX counts them.
use Rattle.std.specs.Prelude.{ℕ, Bool, false, ◌&&◌, nat_le, ℤ, pos, negsuc}

-- the last second of the year 9999
abbrev pub last_moment : ℕ
last_moment = 253_402_300_799

-- a stamp that is there: 0 stands for an absent one
abbrev pub is_stamp : ℕ → Bool
is_stamp n = nat_le 1 n && nat_le n last_moment

-- the same of a time that may be negative
abbrev pub is_instant : ℤ → Bool
is_instant (pos n) = is_stamp n
is_instant (negsuc n) = false
