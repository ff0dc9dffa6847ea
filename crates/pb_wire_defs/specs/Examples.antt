-- The encoding guide's own examples, computed.
use Rattle.std.specs.Prelude.{◌≡◌, ℕ, zero, suc, List, [], ◌∷◌, Bool, true, false, Result, Ok, Err, refl}
use Rattle.pb_wire_defs.specs.Field.{Field, Fault}
use Rattle.pb_wire_defs.specs.Field.Payload.{Varint, Span, Group}
use Rattle.pb_wire_defs.specs.Field.Fault.{Cut, Overlong, BadTag, BadGroup}
use Rattle.pb_wire_defs.specs.Reading.{groups_at, varint_at, span_at, tag_at, payload_at, field_with, behind_end, group_at, field_at, fields_within, fields_of}
use Rattle.pb_wire_defs.specs.Writing.{groups, varint, payload_bytes, field_bytes}

-- field 1 with the value 150 is 08 96 01
pub field_150 : fields_of (0x08 ∷ 0x96 ∷ 0x01 ∷ [])
    ≡ Ok (record { number = 1; payload = Varint 150; raw = 0x08 ∷ 0x96 ∷ 0x01 ∷ [] } ∷ [])
unfolding fields_of fields_within field_at field_with group_at behind_end payload_at tag_at span_at
    varint_at groups_at
field_150 = refl

pub written_150 : field_bytes (record { number = 1; payload = Varint 150 }) ≡ 0x08 ∷ 0x96 ∷ 0x01
    ∷ []
unfolding field_bytes payload_bytes varint groups
written_150 = refl

-- field 2 with the text "testing" is 12 07 and the text
pub field_testing : fields_of (0x12 ∷ 0x07 ∷ 0x74 ∷ 0x65 ∷ 0x73 ∷ 0x74 ∷ 0x69 ∷ 0x6e ∷ 0x67 ∷ [])
    ≡ Ok (record {
      number = 2;
      payload = Span (0x74 ∷ 0x65 ∷ 0x73 ∷ 0x74 ∷ 0x69 ∷ 0x6e ∷ 0x67
          ∷ []);
      raw = 0x12 ∷ 0x07 ∷ 0x74 ∷ 0x65 ∷ 0x73 ∷ 0x74 ∷ 0x69 ∷ 0x6e ∷ 0x67 ∷ [];
    } ∷ [])
unfolding fields_of fields_within field_at field_with group_at behind_end payload_at tag_at span_at
    varint_at groups_at
field_testing = refl

-- a length that runs past the end
pub cut_span : fields_of (0x12 ∷ 0x07 ∷ 0x74 ∷ []) ≡ Err Cut
unfolding fields_of fields_within field_at field_with group_at behind_end payload_at tag_at span_at
    varint_at groups_at
cut_span = refl

-- the number 0 names no field
pub zero_tag : fields_of (0x00 ∷ 0x01 ∷ []) ≡ Err BadTag
unfolding fields_of fields_within field_at field_with group_at behind_end payload_at tag_at span_at
    varint_at groups_at
zero_tag = refl

-- eleven bytes are no varint
pub overlong : varint_at (0x80 ∷ 0x80 ∷ 0x80 ∷ 0x80 ∷ 0x80 ∷ 0x80 ∷ 0x80 ∷ 0x80 ∷ 0x80 ∷ 0x80
    ∷ 0x00 ∷ []) ≡ Err Overlong
unfolding varint_at groups_at
overlong = refl

-- a group of the number 9 with a varint in it
pub group_of_one : fields_of (0x4b ∷ 0x08 ∷ 0x01 ∷ 0x4c ∷ [])
    ≡ Ok (record { number = 9; payload = Group; raw = 0x4b ∷ 0x08 ∷ 0x01 ∷ 0x4c ∷ [] } ∷ [])
unfolding fields_of fields_within field_at field_with group_at behind_end payload_at tag_at span_at
    varint_at groups_at
group_of_one = refl

-- a group whose end has another number, an end without a start, and a group without an end
pub wrong_end : fields_of (0x4b ∷ 0x54 ∷ []) ≡ Err BadGroup
unfolding fields_of fields_within field_at field_with group_at behind_end payload_at tag_at span_at
    varint_at groups_at
wrong_end = refl

pub lone_end : fields_of (0x4c ∷ []) ≡ Err BadGroup
unfolding fields_of fields_within field_at field_with group_at behind_end payload_at tag_at span_at
    varint_at groups_at
lone_end = refl

pub no_end : fields_of (0x4b ∷ 0x08 ∷ 0x01 ∷ []) ≡ Err Cut
unfolding fields_of fields_within field_at field_with group_at behind_end payload_at tag_at span_at
    varint_at groups_at
no_end = refl

-- the wire types 6 and 7 name no field, and the number 0 none where it would end a group too
pub sixth_type : fields_of (0x0e ∷ 0x01 ∷ []) ≡ Err BadTag
unfolding fields_of fields_within field_at field_with group_at behind_end payload_at tag_at span_at
    varint_at groups_at
sixth_type = refl

pub end_of_zero : fields_of (0x4b ∷ 0x04 ∷ []) ≡ Err BadTag
unfolding fields_of fields_within field_at field_with group_at behind_end payload_at tag_at span_at
    varint_at groups_at
end_of_zero = refl

-- groups 64 deep, and a group at depth 65
abbrev starts : ℕ → List ℕ → List ℕ
starts zero bytes = bytes
starts (suc more) bytes = 0x4b ∷ starts more bytes

abbrev ends : ℕ → List ℕ
ends zero = []
ends (suc more) = 0x4c ∷ ends more

abbrev is_read : Result (List Field) Fault → Bool
is_read (Ok fields) = true
is_read (Err w) = false

pub deepest : is_read (fields_of (starts 64 (ends 64))) ≡ true
unfolding fields_of fields_within field_at field_with group_at behind_end payload_at tag_at span_at
    varint_at groups_at
deepest = refl

pub too_deep : fields_of (starts 65 (ends 65)) ≡ Err BadGroup
unfolding fields_of fields_within field_at field_with group_at behind_end payload_at tag_at span_at
    varint_at groups_at
too_deep = refl
