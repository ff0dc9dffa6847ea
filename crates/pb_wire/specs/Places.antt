-- Fields that are read as places, seen over their bytes as the fields of the wire.
use Rattle.std.specs.Prelude.{◌≡◌, ℕ, ◌+◌, ◌-◌, ◌<◌, ◌≤◌, List, [], ◌∷◌, length, map, slice_range, Result, Ok}
use Rattle.pb_wire_defs.specs.Field as wire
use Rattle.pb_wire_defs.specs.Field.Payload.{Varint, Eight, Span, Four, Group}
use Rattle.answer_defs.specs.Steps.{◌>>=◌}
use Rattle.pb_wire.specs.declared.field.Payload.{Payload}
use Rattle.pb_wire.specs.declared.field.Payload.TheVariants as placed
use Rattle.pb_wire.specs.declared.field.Field.{Field}

-- a payload, with the bytes that stand at its places
abbrev pub payload_in : List ℕ → Payload → wire.Payload
payload_in bytes (placed.Varint n) = Varint n
payload_in bytes (placed.Eight n) = Eight n
payload_in bytes (placed.Span from to) = Span (slice_range bytes from to)
payload_in bytes (placed.Four n) = Four n
payload_in bytes placed.Group = Group

-- a field, with the bytes that stand at its places
abbrev pub field_in : List ℕ → Field → wire.Field
field_in bytes field = record {
  number = field.number;
  payload = payload_in bytes field.payload;
  raw = slice_range bytes field.start field.end;
}

-- fields, with the bytes that stand at their places
abbrev pub fields_in : List ℕ → List Field → List wire.Field
fields_in bytes fields = map (field_in bytes) fields

-- the places of a payload lie between these; a run of bytes ends where its field ends
abbrev pub LiesBetween : ℕ → ℕ → Payload → Type 0
LiesBetween start end (placed.Varint n) = Unit {0}
LiesBetween start end (placed.Eight n) = Unit {0}
LiesBetween start end (placed.Span from to) = (start ≤ from) × (from ≤ to) × (to ≡ end)
LiesBetween start end (placed.Four n) = Unit {0}
LiesBetween start end placed.Group = Unit {0}

-- the places of a field lie in bytes of this length
pub record LiesWithin (limit : ℕ) (field : Field) : Type 0 where
  pub taken : field.start < field.end
  pub ended : field.end ≤ limit
  pub carried : LiesBetween field.start field.end field.payload

-- from a place on the fields stand one after another, each beginning where the one before it ends,
-- up to the limit
abbrev pub AreInRow : ℕ → ℕ → List Field → Type 0
AreInRow at limit [] = at ≡ limit
AreInRow at limit (f ∷ fs) = (f.start ≡ at) × AreInRow f.end limit fs

-- a run of bytes is no longer than this
abbrev pub FitsIn : wire.Payload → ℕ → Type 0
FitsIn (Varint n) size = Unit {0}
FitsIn (Eight n) size = Unit {0}
FitsIn (Span content) size = length content ≤ size
FitsIn (Four n) size = Unit {0}
FitsIn Group size = Unit {0}

-- a payload by its places; a run of bytes stands at the end of its field
abbrev pub payload_place : ℕ → wire.Payload → Payload
payload_place end (Varint n) = placed.Varint n
payload_place end (Eight n) = placed.Eight n
payload_place end (Span content) = placed.Span (end - length content) end
payload_place end (Four n) = placed.Four n
payload_place end Group = placed.Group

-- a field by its places, where it starts at this place
abbrev pub place : ℕ → wire.Field → Field
place start field = record {
  number = field.number;
  payload = payload_place (start + length field.raw) field.payload;
  start = start;
  end = start + length field.raw;
}

-- fields by their places, one behind another from this place on
unfoldable pub places : ℕ → List wire.Field → List Field
places at [] = []
places at (f ∷ fs) = place at f ∷ places (at + length f.raw) fs

-- the fields that reading gives, by their places
abbrev pub placed_fields : Result (List wire.Field) wire.Fault → Result (List Field) wire.Fault
placed_fields told = told >>= λ fields. Ok (places 0 fields)
