-- What writing leaves of the bytes before it.
use Rattle.std.specs.Prelude.{◌≡◌, ℕ, ◌+◌, ◌*◌, List, ◌++◌, length}
use Rattle.pb_wire_defs.specs.Writing.{varint}

-- the new bytes begin with the old ones
pub record StartsWith (old new : List ℕ) : Type 0 where
  pub more : List ℕ
  pub whole : new ≡ old ++ more

-- behind the old bytes stand the tag of a run of bytes and, at this place, the bytes that are kept
-- for its length
pub record IsOpened (number : ℕ) (room : List ℕ) (place : ℕ) (old new : List ℕ) : Type 0 where
  pub begins : place ≡ length (old ++ varint (number * 8 + 2))
  pub whole : new ≡ old ++ varint (number * 8 + 2) ++ room
