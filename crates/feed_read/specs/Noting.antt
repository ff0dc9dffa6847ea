-- What is known once each field of a message's bytes was looked at, and once a message was read.
use Rattle.std.specs.Prelude.{◌≡◌, ℕ, List, [], ◌∷◌, ◌++◌, Bool, Option, Some, None, Result, Ok}
use Rattle.std.specs.Global.{Vec}
use Rattle.rt_types.specs.declared.fault.Kind.{Kind}
use Rattle.pb_wire_defs.specs.Field.{Field}
use Rattle.pb_wire_defs.specs.Spelling.{HasFields}
use Rattle.feed_defs.specs.Rows.{Fault, fields_in, fields_of_all, unknown_bytes_of}
use Rattle.field_read.specs.declared.slots.Slots.{Slots}
use Rattle.field_read.specs.Occurring.{AreNoted, told_fields}

-- the bytes spell fields, the slots note them, and these are the bytes of those that aren't known
pub record Notes (is_known : Field → Bool) (bytes : List ℕ) (slots : Slots) (unknown : List ℕ)
    : Type 0 where
  pub spelled : HasFields bytes (told_fields bytes)
  pub noted : AreNoted slots (told_fields bytes)
  pub unknown_is : unknown ≡ unknown_bytes_of is_known (told_fields bytes)

-- payloads as one run of bytes with their fields, where there is any
abbrev pub Joins : Kind → List (List ℕ) → Option (Vec ℕ) → Type 0
Joins kind payloads None = payloads ≡ []
Joins kind payloads (Some bytes) = (payloads ≡ [] → ⊥)
    × (fields_in kind bytes.items ≡ fields_of_all kind payloads)

-- a message is read, and it is the last of the new items
pub record Appends {M : Type 0} (told : Result M Fault) (old new : List M) : Type 0 where
  pub message : M
  pub read : told ≡ Ok message
  pub appended : new ≡ old ++ message ∷ []
