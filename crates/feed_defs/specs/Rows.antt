-- How a message is made of fields: reading with its first fault, and writing, said once for all
-- messages. A row of a message's table is a word, as `required 1 text`, and `⊕` puts rows under one
-- another.
use Rattle.std.specs.Prelude.{ℕ, ℤ, ◌+◌, ◌%◌, ◌^◌, List, [], ◌∷◌, ◌++◌, Option, Some, None, Result, Ok, Err, Bool, not, is_some, min, filter, ◌==◌, ◌||◌, if◌then◌else◌}
use Rattle.std.specs.Int.{w32, w64, cast_signed, cast_unsigned}
use Rattle.std.specs.List.{filter_map, flat_map, last_or}
use Rattle.std.specs.Option.{option_and_then}
use Rattle.std.specs.Str.{is_utf8}
use Rattle.rt_types.specs.declared.fault.Kind.{Kind}
use Rattle.rt_types.specs.declared.fault.What.{What}
use Rattle.rt_types.specs.declared.fault.What.TheVariants as what
use Rattle.rt_types.specs.declared.vehicle.Degrees.{Degrees}
use Rattle.answer_defs.specs.Steps.{◌>>=◌}
use Rattle.pb_wire_defs.specs.Field.{Payload, Field, Fault as WireFault}
use Rattle.pb_wire_defs.specs.Field.Payload.{Varint, Eight, Span, Four, Group}
use Rattle.pb_wire_defs.specs.Field.Fault.{Cut, Overlong, BadTag, BadGroup}
use Rattle.pb_wire_defs.specs.Reading.{fields_of}
use Rattle.pb_wire_defs.specs.Writing.{Written, field_bytes}

-- what is wrong first: in which entity (0: in the header or outside of all), what, in which message
-- and field
pub record Fault : Type 0 where
  pub entity : ℕ
  pub what : What
  pub kind : Kind
  pub field : ℕ

-- a fault within one message
abbrev pub fault : What → Kind → ℕ → Fault
fault w kind n = record { entity = 0; what = w; kind = kind; field = n }

-- what a fault of the wire is called
abbrev pub wire_what : WireFault → What
wire_what Cut = what.Cut
wire_what Overlong = what.Varint
wire_what BadTag = what.Tag
wire_what BadGroup = what.Group

-- the fields of a message's bytes, or its wire fault, which belongs to no field
abbrev pub fields_in : Kind → List ℕ → Result (List Field) Fault
fields_in kind bytes = elim (fields_of bytes) [
  | Ok fields ↦ Ok fields
  | Err w ↦ Err
      (fault (wire_what w) kind 0)
]

-- what kinds of payload say
abbrev pub varint_in : Payload → Option ℕ
varint_in (Varint n) = Some n
varint_in (Eight n) = None
varint_in (Span bytes) = None
varint_in (Four n) = None
varint_in Group = None

abbrev pub span_in : Payload → Option (List ℕ)
span_in (Varint n) = None
span_in (Eight n) = None
span_in (Span bytes) = Some bytes
span_in (Four n) = None
span_in Group = None

abbrev pub four_in : Payload → Option ℕ
four_in (Varint n) = None
four_in (Eight n) = None
four_in (Span bytes) = None
four_in (Four n) = Some n
four_in Group = None

-- what a field says under a number, where it has that number and its payload says something
abbrev pub value_under : {A : Type 0} → (Payload → Option A) → ℕ → Field → Option A
value_under says n field = if field.number == n then says field.payload else None

-- all that is said under a number, in order
unfoldable pub occurrences_of : {A : Type 0} → (Payload → Option A) → ℕ → List Field → List A
occurrences_of says n fields = filter_map (value_under says n) fields

-- the last that is said under a number, which counts for a singular scalar or text
unfoldable pub last_of : {A : Type 0} → (Payload → Option A) → ℕ → List Field → Option A
last_of says n fields = last_or None (filter_map (value_under says n) fields)

-- the fields that aren't known, as their bytes in order
unfoldable pub unknown_bytes_of : (Field → Bool) → List Field → List ℕ
unknown_bytes_of is_known fields = flat_map (λ field. field.raw)
    (filter (λ field. not (is_known field)) fields)

-- a message: which fields it knows, its value from its fields, and its known fields as they are
-- written
pub record Message (M : Type 0) : Type 0 where
  pub kind : Kind
  pub is_known : Field → Bool
  pub of_fields : List Field → Result M Fault
  pub fields : M → List Written
  pub unknown : M → List ℕ

-- the field lists of these payloads, one after another, each of which must read by itself
unfoldable pub fields_of_all : Kind → List (List ℕ) → Result (List Field) Fault
fields_of_all kind [] = Ok []
fields_of_all kind (bytes ∷ more) = do
  first ← fields_in kind bytes
  rest ← fields_of_all kind more
  Ok (first ++ rest)

-- the message of these payloads: its fields are theirs (Protocol Buffers, "Encoding", "Last One
-- Wins")
unfoldable pub value : {M : Type 0} → Message M → List (List ℕ) → Result M Fault
value m payloads = fields_of_all m.kind payloads >>= m.of_fields

-- the bytes of a message: its known fields by rising number, and then the others
unfoldable pub message_bytes : {M : Type 0} → Message M → M → List ℕ
message_bytes m x = flat_map field_bytes (m.fields x) ++ m.unknown x

-- a kind of field with a value in A: whether it takes a field, its value among the fields, how it
-- is written
pub record FieldKind (A : Type 0) : Type 0 where
  pub takes : ℕ → Field → Bool
  pub read : Kind → ℕ → List Field → Result (Option A) Fault
  pub write : A → Payload

-- a number, of which the last occurrence counts
abbrev pub scalar : {A : Type 0} → (Payload → Option A) → (A → Payload) → FieldKind A
scalar says write = record {
  takes = λ n field. is_some (value_under says n field);
  read = λ kind n fields. Ok (last_of says n fields);
  write = write;
}

abbrev pub u64 : FieldKind ℕ
u64 = scalar varint_in Varint

-- the low 32 bits of the varint
abbrev pub u32_in : Payload → Option ℕ
u32_in payload = option_and_then (λ n. Some (n % 2 ^ 32)) (varint_in payload)

abbrev pub u32 : FieldKind ℕ
u32 = scalar u32_in Varint

-- signed numbers are two's complement of 64 bits on the wire, so a negative one takes ten bytes
abbrev pub signed_payload : ℤ → Payload
signed_payload z = Varint (cast_unsigned w64 z)

-- the low 32 bits of the varint, as a signed number
abbrev pub i32_in : Payload → Option ℤ
i32_in payload = option_and_then (λ n. Some (cast_signed w32 (n % 2 ^ 32))) (varint_in payload)

abbrev pub i32 : FieldKind ℤ
i32 = scalar i32_in signed_payload

abbrev pub i64_in : Payload → Option ℤ
i64_in payload = option_and_then (λ n. Some (cast_signed w64 n)) (varint_in payload)

abbrev pub i64 : FieldKind ℤ
i64 = scalar i64_in signed_payload

-- true where the varint isn't 0
abbrev pub bool_in : Payload → Option Bool
bool_in payload = option_and_then (λ n. Some (not (n == 0))) (varint_in payload)

abbrev pub bool_payload : Bool → Payload
bool_payload b = Varint (if b then 1 else 0)

abbrev pub bool : FieldKind Bool
bool = scalar bool_in bool_payload

-- degrees, as the four bytes of a float, of which only the bits are known
abbrev pub degrees_in : Payload → Option Degrees
degrees_in payload = option_and_then (λ n. Some (record { bits = n })) (four_in payload)

abbrev pub degrees_payload : Degrees → Payload
degrees_payload x = Four x.bits

abbrev pub degrees : FieldKind Degrees
degrees = scalar degrees_in degrees_payload

-- an enum, by the low 32 bits of its number; a number that names no value is an unknown field
abbrev pub choice : {A : Type 0} → (ℕ → Option A) → (A → ℕ) → FieldKind A
choice named number = scalar (λ payload. option_and_then (λ n. named (n % 2 ^ 32))
    (varint_in payload)) (λ x. Varint (number x))

-- a text must be UTF-8
abbrev pub as_text : Kind → ℕ → Option (List ℕ) → Result (Option (List ℕ)) Fault
as_text kind n None = Ok None
as_text kind n (Some bytes) = if is_utf8 bytes then Ok (Some bytes)
    else Err (fault what.NotText kind n)

abbrev pub text : FieldKind (List ℕ)
text = record {
  takes = λ n field. is_some (value_under span_in n field);
  read = λ kind n fields. as_text kind n (last_of span_in n fields);
  write = Span;
}

-- a singular message is made of all its occurrences together
unfoldable pub merged_message : {M : Type 0} → Message M → List (List ℕ) → Result (Option M) Fault
merged_message m [] = Ok None
merged_message m (bytes ∷ more) = do
  x ← value m (bytes ∷ more)
  Ok (Some x)

abbrev pub embedded : {M : Type 0} → Message M → FieldKind M
embedded m = record {
  takes = λ n field. is_some (value_under span_in n field);
  read = λ kind n fields. merged_message m (occurrences_of span_in n fields);
  write = λ x. Span (message_bytes m x);
}

-- the messages of a repeated field, each of its own payload
unfoldable pub values : {M : Type 0} → Message M → List (List ℕ) → Result (List M) Fault
values m [] = Ok []
values m (bytes ∷ more) = do
  x ← value m (bytes ∷ [])
  xs ← values m more
  Ok (x ∷ xs)

-- the same, where a fault tells the number of its message, counted from `before + 1` up to
-- 4294967295
abbrev pub with_entity_number : {M : Type 0} → ℕ → Result M Fault → Result M Fault
with_entity_number k (Ok x) = Ok x
with_entity_number k (Err f) = Err (record f { entity = k })

unfoldable pub numbered_values : {M : Type 0} → Message M → ℕ → List (List ℕ)
    → Result (List M) Fault
numbered_values m before [] = Ok []
numbered_values m before (bytes ∷ more) = do
  x ← with_entity_number (min (before + 1) 4294967295) (value m (bytes ∷ []))
  xs ← numbered_values m (before + 1) more
  Ok (x ∷ xs)

-- rows of a message's table with values in V. The outer fault of `read` is the first in what is
-- there, by rising number; the inner one is the first among what is missing, which is judged after
-- that.
pub record Rows (V : Type 0) : Type 0 where
  pub is_known : Field → Bool
  pub read : Kind → List Field → Result (Result V Fault) Fault
  pub write : V → List Written

abbrev pub write_if : {A : Type 0} → ℕ → (A → Payload) → Option A → List Written
write_if n write None = []
write_if n write (Some x) = record { number = n; payload = write x } ∷ []

abbrev pub optional : {A : Type 0} → ℕ → FieldKind A → Rows (Option A)
optional n kind = record {
  is_known = kind.takes n;
  read = λ name fields. kind.read name n fields >>= λ x. Ok (Ok x);
  write = write_if n kind.write;
}

-- a required field, or that it is missing
abbrev pub required_value : {A : Type 0} → Kind → ℕ → Option A → Result A Fault
required_value name n None = Err (fault what.Missing name n)
required_value name n (Some x) = Ok x

abbrev pub required : {A : Type 0} → ℕ → FieldKind A → Rows A
required n kind = record {
  is_known = kind.takes n;
  read = λ name fields. kind.read name n fields >>= λ x. Ok (required_value name n x);
  write = λ x. record { number = n; payload = kind.write x } ∷ [];
}

abbrev pub write_all : {M : Type 0} → ℕ → Message M → List M → List Written
write_all n m [] = []
write_all n m (x ∷ xs) = record { number = n; payload = Span (message_bytes m x) }
    ∷ write_all n m xs

abbrev pub repeated : {M : Type 0} → ℕ → Message M → Rows (List M)
repeated n m = record {
  is_known = λ field. is_some (value_under span_in n field);
  read = λ name fields. values m (occurrences_of span_in n fields) >>= λ xs. Ok (Ok xs);
  write = write_all n m;
}

abbrev pub numbered : {M : Type 0} → ℕ → Message M → Rows (List M)
numbered n m = record {
  is_known = λ field. is_some (value_under span_in n field);
  read = λ name fields. numbered_values m 0 (occurrences_of span_in n fields) >>= λ xs. Ok (Ok xs);
  write = write_all n m;
}

-- both are there, or the first that is missing
abbrev pub both : {A B : Type 0} → Result A Fault → Result B Fault → Result (A × B) Fault
both (Err e) y = Err e
both (Ok x) (Err e) = Err e
both (Ok x) (Ok y) = Ok (x, y)

infixr 6 ◌⊕◌
abbrev pub ◌⊕◌ : {A B : Type 0} → Rows A → Rows B → Rows (A × B)
a ⊕ b = record {
  is_known = λ field. a.is_known field || b.is_known field;
  read = λ name fields. a.read name fields >>= λ x. b.read name fields >>= λ y. Ok (both x y);
  write = λ (x, y). a.write x ++ b.write y;
}

-- the table of a message, with the struct that holds its values
pub record Shape (M V : Type 0) : Type 0 where
  pub kind : Kind
  pub rows : Rows V
  pub make : V → List ℕ → M
  pub values : M → V
  pub unknown : M → List ℕ

abbrev pub message : {M V : Type 0} → Shape M V → Message M
message shape = record {
  kind = shape.kind;
  is_known = shape.rows.is_known;
  of_fields = λ fields. shape.rows.read shape.kind fields >>= λ found. found
      >>= λ v. Ok (shape.make v (unknown_bytes_of shape.rows.is_known fields));
  fields = λ m. shape.rows.write (shape.values m);
  unknown = shape.unknown;
}
