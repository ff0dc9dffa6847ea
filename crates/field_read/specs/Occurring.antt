-- What occurs under the numbers of a message's fields.
use Rattle.std.specs.Prelude.{◌≡◌, ℕ, ◌<◌, List, [], ◌∷◌, Some, Ok, Err, length, min, slice_index_or, ⊤}
use Rattle.std.specs.List.{last_or}
use Rattle.pb_wire_defs.specs.Field.{Payload, Field}
use Rattle.pb_wire_defs.specs.Reading.{fields_of}
use Rattle.feed_defs.specs.Rows.{occurrences_of}
use Rattle.pb_wire.specs.Parts.{payload_seen}
use Rattle.field_read.specs.declared.slots.Occurs.{Occurs}
use Rattle.field_read.specs.declared.slots.Occurs.TheVariants.{Never, Once, Several}
use Rattle.field_read.specs.declared.slots.Slot.{Slot}
use Rattle.field_read.specs.declared.slots.Slots.{Slots}

-- the fields of bytes that are fields
unfoldable pub told_fields : List ℕ → List Field
told_fields bytes = elim (fields_of bytes) [
  | Ok fields ↦ fields
  | Err fault ↦ []
]

-- the bytes are fields
abbrev pub IsWhole : List ℕ → Type 0
IsWhole bytes = fields_of bytes ≡ Ok (told_fields bytes)

-- what the fields of a number carry, in order
abbrev pub payloads_under : ℕ → List Field → List Payload
payloads_under n fields = occurrences_of (λ payload. Some payload) n fields

-- a slot has the number of the payloads, up to the greatest that it can hold, and the last of them
pub record IsNoted (slot : Slot) (payloads : List Payload) : Type 0 where
  pub count : slot.count ≡ min (length payloads) 4294967295
  pub last : last_or (Some (payload_seen slot.last)) payloads ≡ Some (payload_seen slot.last)

-- each slot has what occurs under its number
pub record AreNoted (slots : Slots) (fields : List Field) : Type 0 where
  pub all : length slots.slots ≡ 12
  pub each : (n : ℕ) (any : Slot) → n < 12
      → IsNoted (slice_index_or slots.slots n any) (payloads_under n fields)

-- what an answer says of a list, seen so
abbrev pub Tells : {A B : Type 0} → (A → B) → Occurs A → List B → Type 0
Tells view Never xs = xs ≡ []
Tells view (Once x) xs = xs ≡ view x ∷ []
Tells view Several xs = ⊤
