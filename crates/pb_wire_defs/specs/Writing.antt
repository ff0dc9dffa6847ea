-- The spelling that a writer chooses: the shortest varints (Protocol Buffers, "Encoding").
use Rattle.std.specs.Prelude.{ℕ, zero, suc, ◌+◌, ◌/◌, ◌%◌, List, [], ◌∷◌, ◌++◌, length, nat_lt, if◌then◌else◌}
use Rattle.std.specs.Int.{w32, w64, to_le_bytes}
use Rattle.pb_wire_defs.specs.Field.{Payload, tag_of}
use Rattle.pb_wire_defs.specs.Field.Payload.{Varint, Eight, Span, Four, Group}

-- a field to be written
pub record Written : Type 0 where
  pub number : ℕ
  pub payload : Payload

-- the groups of a number, at most this many of them
unfoldable pub groups : ℕ → ℕ → List ℕ
groups zero n = []
groups (suc most) n = if nat_lt n 128 then n ∷ [] else (n % 128 + 128) ∷ groups most (n / 128)

-- the shortest varint of a number below 2 ^ 64
unfoldable pub varint : ℕ → List ℕ
varint n = groups 10 n

-- the bytes of a payload behind its tag; a writer makes no groups of its own
unfoldable pub payload_bytes : Payload → List ℕ
payload_bytes (Varint n) = varint n
payload_bytes (Eight n) = to_le_bytes w64 n
payload_bytes (Span content) = varint (length content) ++ content
payload_bytes (Four n) = to_le_bytes w32 n
payload_bytes Group = []

-- the bytes of a field: its tag and its payload
unfoldable pub field_bytes : Written → List ℕ
field_bytes w = varint (tag_of w.number w.payload) ++ payload_bytes w.payload
