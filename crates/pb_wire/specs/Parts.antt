-- Fields that are read as borrows, seen as the fields of the wire, and what reading them gives.
use Rattle.std.specs.Prelude.{◌≡◌, Option, Some, None, Result, Ok, Err}
use Rattle.pb_wire_defs.specs.Field as wire
use Rattle.pb_wire_defs.specs.Field.Payload.{Varint, Eight, Span, Four, Group}
use Rattle.pb_wire_defs.specs.Field.Fault.{Cut, Overlong, BadTag, BadGroup}
use Rattle.pb_wire.specs.declared.fault.WireFault.{WireFault}
use Rattle.pb_wire.specs.declared.fault.WireFault.TheVariants as named
use Rattle.pb_wire.specs.declared.part.PartPayload.{PartPayload}
use Rattle.pb_wire.specs.declared.part.PartPayload.TheVariants as carried
use Rattle.pb_wire.specs.declared.part.Part.{Part}

-- a payload without where it lies in memory
abbrev pub payload_seen : PartPayload → wire.Payload
payload_seen (carried.Varint n) = Varint n
payload_seen (carried.Eight n) = Eight n
payload_seen (carried.Span bytes) = Span bytes.now
payload_seen (carried.Four n) = Four n
payload_seen carried.Group = Group

-- a field without where it lies in memory
abbrev pub part_seen : Part → wire.Field
part_seen part = record {
  number = part.number;
  payload = payload_seen part.payload;
  raw = part.raw.now;
}

-- the fault of the wire that a fault names; out of memory names none
abbrev pub cause_of : WireFault → Option wire.Fault
cause_of named.Cut = Some Cut
cause_of named.Varint = Some Overlong
cause_of named.Tag = Some BadTag
cause_of named.Group = Some BadGroup
cause_of named.NoMemory = None

-- the first fault that reading meets is the one named, which is not out of memory
abbrev pub IsFault : {A : Type 0} → Result A wire.Fault → WireFault → Type 0
IsFault told named.Cut = told ≡ Err Cut
IsFault told named.Varint = told ≡ Err Overlong
IsFault told named.Tag = told ≡ Err BadTag
IsFault told named.Group = told ≡ Err BadGroup
IsFault told named.NoMemory = ⊥

-- what a function that needs no memory finds in front of bytes, seen so, is what is told; else it
-- names the fault
abbrev pub Finds : {X Y : Type 0} → (X → Y) → Result X WireFault → Result Y wire.Fault → Type 0
Finds view (Ok x) told = told ≡ Ok (view x)
Finds view (Err fault) told = IsFault told fault
