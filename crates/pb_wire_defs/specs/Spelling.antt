-- Which bytes spell a varint, a field and a list of fields, as a grammar (Protocol Buffers,
-- "Encoding").
use Rattle.std.specs.Prelude.{◌≡◌, ℕ, zero, suc, ◌+◌, ◌*◌, ◌%◌, ◌^◌, ◌<◌, ◌≤◌, List, [], ◌∷◌, ◌++◌, length, slice_index}
use Rattle.std.specs.List.{flat_map, AllByRecursion}
use Rattle.std.specs.Int.{w32, w64, to_le_bytes}
use Rattle.pb_wire_defs.specs.Field.{Payload, Field, tag_of, end_tag_of, deepest_group}
use Rattle.pb_wire_defs.specs.Field.Payload.{Varint, Eight, Span, Four, Group}

-- numbers that are bytes
abbrev pub AreBytes : List ℕ → Type 0
AreBytes bytes = (i : ℕ) → slice_index bytes i < 256

-- seven bits a byte, the lowest first, and the high bit on each byte but the last
abbrev pub IsGroups : List ℕ → ℕ → Type 0
IsGroups [] n = ⊥
IsGroups (b ∷ []) n = (b < 128) × (n ≡ b)
IsGroups (b ∷ c ∷ bs) n = (128 ≤ b) × (b < 256) × (high : ℕ) × (n + 128 ≡ b + 128 * high)
    × IsGroups (c ∷ bs) high

-- one to ten bytes, whose groups count modulo 2 ^ 64
pub record IsVarint (spelling : List ℕ) (value : ℕ) : Type 0 where
  pub sum : ℕ
  pub groups : IsGroups spelling sum
  pub short : length spelling ≤ 10
  pub modulo : value ≡ sum % 2 ^ 64

-- the bytes of a payload behind its tag, where `group` says which bytes those of a group are
abbrev pub IsPayload : (ℕ → List ℕ → Type 0) → ℕ → List ℕ → Payload → Type 0
IsPayload group number bytes (Varint n) = IsVarint bytes n
IsPayload group number bytes (Eight n) = (n < 2 ^ 64) × (bytes ≡ to_le_bytes w64 n)
IsPayload group number bytes (Span content) = (size : List ℕ) × IsVarint size (length content)
    × (bytes ≡ size ++ content)
IsPayload group number bytes (Four n) = (n < 2 ^ 32) × (bytes ≡ to_le_bytes w32 n)
IsPayload group number bytes Group = group number bytes

-- a tag below 2 ^ 32 with a number of at least 1, and the payload that its wire type asks for
pub record IsFieldWith (group : ℕ → List ℕ → Type 0) (field : Field) : Type 0 where
  pub tag : List ℕ
  pub rest : List ℕ
  pub whole : field.raw ≡ tag ++ rest
  pub tagged : IsVarint tag (tag_of field.number field.payload)
  pub numbered : 1 ≤ field.number
  pub small : tag_of field.number field.payload < 2 ^ 32
  pub carries : IsPayload group field.number rest field.payload

-- fields, and an end tag of that number behind them
pub record IsEnded (IsOne : Field → Type 0) (number : ℕ) (bytes : List ℕ) : Type 0 where
  pub fields : List Field
  pub ending : List ℕ
  pub each : AllByRecursion IsOne fields
  pub tagged : IsVarint ending (end_tag_of number)
  pub whole : bytes ≡ flat_map (λ field. field.raw) fields ++ ending

-- the bytes of a group of that number behind its start tag, in which this many levels of groups are
-- open at most
abbrev pub IsGroup : ℕ → ℕ → List ℕ → Type 0
IsGroup zero number bytes = ⊥
IsGroup (suc deeper) number bytes = IsEnded (IsFieldWith (IsGroup deeper)) number bytes

-- a field, with groups that nest up to the limit
abbrev pub IsField : Field → Type 0
IsField field = IsFieldWith (IsGroup deepest_group) field

-- bytes that are the spellings of these fields, one after another
pub record HasFields (bytes : List ℕ) (fields : List Field) : Type 0 where
  pub each : AllByRecursion IsField fields
  pub whole : bytes ≡ flat_map (λ field. field.raw) fields
