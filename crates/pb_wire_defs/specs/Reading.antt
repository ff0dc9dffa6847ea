-- The fields of a byte list from the left, or the first fault (Protocol Buffers, "Encoding").
use Rattle.std.specs.Prelude.{ℕ, zero, suc, ◌+◌, ◌-◌, ◌*◌, ◌/◌, ◌%◌, ◌^◌, List, [], ◌∷◌, length, take, drop, Result, Ok, Err, nat_lt, nat_le, ◌==◌, ◌||◌, if◌then◌else◌}
use Rattle.std.specs.Int.{Width, w32, w64, byte_len, from_le_bytes}
use Rattle.pb_wire_defs.specs.Field.{Payload, Field, Fault, deepest_group}
use Rattle.pb_wire_defs.specs.Field.Payload.{Varint, Eight, Span, Four, Group}
use Rattle.pb_wire_defs.specs.Field.Fault.{Cut, Overlong, BadTag, BadGroup}
use Rattle.answer_defs.specs.Steps.{◌>>=◌}

-- the groups in front, at most this many, with the bytes behind them
unfoldable pub groups_at : ℕ → List ℕ → Result (ℕ × List ℕ) Fault
groups_at zero bytes = Err Overlong
groups_at (suc most) [] = Err Cut
groups_at (suc most) (b ∷ bs) = if nat_lt b 128 then Ok (b, bs)
    else (groups_at most bs >>= λ high. Ok (b % 128 + 128 * high.0, high.1))

-- the varint in front
unfoldable pub varint_at : List ℕ → Result (ℕ × List ℕ) Fault
varint_at bytes = groups_at 10 bytes >>= λ found. Ok (found.0 % 2 ^ 64, found.1)

-- a number of four or eight bytes in front, the lowest byte first
abbrev pub fixed_at : Width → (ℕ → Payload) → List ℕ → Result (Payload × List ℕ) Fault
fixed_at w payload bytes = if nat_lt (length bytes) (byte_len w) then Err Cut
    else Ok (payload (from_le_bytes w (take (byte_len w) bytes)), drop (byte_len w) bytes)

-- as many bytes as the varint in front says
unfoldable pub span_at : List ℕ → Result (List ℕ × List ℕ) Fault
span_at bytes = do
  size ← varint_at bytes
  if nat_lt (length size.1) size.0 then Err Cut else Ok (take size.0 size.1, drop size.0 size.1)

-- the tag in front: below 2 ^ 32, with a number of at least 1 and a wire type of at most 5
unfoldable pub tag_at : List ℕ → Result (ℕ × List ℕ) Fault
tag_at bytes = do
  tag ← varint_at bytes
  if nat_le (2 ^ 32) tag.0 || nat_lt tag.0 8 || nat_lt 5 (tag.0 % 8) then Err BadTag else Ok tag

-- the payload that a wire type asks for, where `group` says what is behind a group of a number; the
-- end of a group begins no field
unfoldable pub payload_at : (ℕ → List ℕ → Result (List ℕ) Fault) → ℕ → ℕ → List ℕ
    → Result (Payload × List ℕ) Fault
payload_at group number wire_type bytes =
    if wire_type == 0 then (varint_at bytes >>= λ found. Ok (Varint found.0, found.1))
    else if wire_type == 1 then fixed_at w64 Eight bytes
    else if wire_type == 2 then (span_at bytes >>= λ found. Ok (Span found.0, found.1))
    else if wire_type == 3 then (group number bytes >>= λ rest. Ok (Group, rest))
    else if wire_type == 5 then fixed_at w32 Four bytes
    else Err BadGroup

-- the field in front, where `group` says what is behind a group
unfoldable pub field_with : (ℕ → List ℕ → Result (List ℕ) Fault) → List ℕ
    → Result (Field × List ℕ) Fault
field_with group bytes = do
  tag ← tag_at bytes
  payload ← payload_at group (tag.0 / 8) (tag.0 % 8) tag.1
  Ok (
    record {
      number = tag.0 / 8;
      payload = payload.0;
      raw = take (length bytes - length payload.1) bytes;
    },
    payload.1,
  )

-- what is behind the end tag of a number: in front of it are at most this many fields, which
-- `field` reads
unfoldable pub behind_end : (List ℕ → Result (Field × List ℕ) Fault) → ℕ → ℕ → List ℕ
    → Result (List ℕ) Fault
behind_end field zero number bytes = Err Cut
behind_end field (suc most) number bytes = do
  tag ← tag_at bytes
  if tag.0 % 8 == 4 then (if tag.0 / 8 == number then Ok tag.1 else Err BadGroup)
      else (field bytes >>= λ first. behind_end field most number first.1)

-- what is behind a group of a number, from behind its start tag on; this many levels of groups may
-- be open
unfoldable pub group_at : ℕ → ℕ → List ℕ → Result (List ℕ) Fault
group_at zero number bytes = Err BadGroup
group_at (suc deeper) number bytes = behind_end (field_with (group_at deeper)) (suc (length bytes))
    number bytes

-- the field in front
unfoldable pub field_at : List ℕ → Result (Field × List ℕ) Fault
field_at bytes = field_with (group_at deepest_group) bytes

-- at most this many fields, up to the end
unfoldable pub fields_within : ℕ → List ℕ → Result (List Field) Fault
fields_within most [] = Ok []
fields_within zero (b ∷ bs) = Err Cut
fields_within (suc most) (b ∷ bs) = do
  first ← field_at (b ∷ bs)
  others ← fields_within most first.1
  Ok (first.0 ∷ others)

-- all fields of the bytes; each takes a byte at least, so there are no more of them than bytes
unfoldable pub fields_of : List ℕ → Result (List Field) Fault
fields_of bytes = fields_within (length bytes) bytes
