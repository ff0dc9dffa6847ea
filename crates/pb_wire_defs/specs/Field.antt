-- The fields of a message, and what hinders reading one (Protocol Buffers, "Encoding", "Message
-- Structure").
use Rattle.std.specs.Prelude.{ℕ, List, ◌*◌, ◌+◌}

-- what a field carries: a varint (wire type 0), eight bytes (1), a run of bytes (2), a group of
-- fields (3, up to an end tag of wire type 4), four bytes (5)
pub data Payload : Type 0 where
  Varint : ℕ → Payload
  Eight : ℕ → Payload
  Span : List ℕ → Payload
  Four : ℕ → Payload
  Group : Payload

-- a field: its number, what it carries, and all its bytes, tag included
pub record Field : Type 0 where
  pub number : ℕ
  pub payload : Payload
  pub raw : List ℕ

-- why no field can be read: the bytes end within it, a varint goes past ten bytes, its tag names no
-- field, or a group ends that isn't the one that is open, or begins too deep
pub data Fault : Type 0 where
  Cut : Fault
  Overlong : Fault
  BadTag : Fault
  BadGroup : Fault

-- the wire type that a payload has in its tag
abbrev pub wire_type : Payload → ℕ
wire_type (Varint n) = 0
wire_type (Eight n) = 1
wire_type (Span bytes) = 2
wire_type (Four n) = 5
wire_type Group = 3

-- the value of a tag
abbrev pub tag_of : ℕ → Payload → ℕ
tag_of number payload = number * 8 + wire_type payload

-- the value of the tag that ends a group of that number
abbrev pub end_tag_of : ℕ → ℕ
end_tag_of number = number * 8 + 4

-- how deep groups may nest: a group at the outer level has depth 1. Protocol Buffers sets no limit
-- of its own.
abbrev pub deepest_group : ℕ
deepest_group = 64
