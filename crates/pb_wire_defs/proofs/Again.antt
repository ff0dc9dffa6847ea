-- What is written reads back, with the fields that were read before behind it.
use Rattle.std.specs.Prelude.{map, filter}
use Rattle.std.proofs.Common.{◌≡◌, ℕ, zero, suc, ◌+◌, ◌*◌, ◌/◌, ◌%◌, ◌^◌, ◌<◌, ◌≤◌, Bool, cond, List, [], ◌∷◌, ◌++◌, length, Ok, refl, sym, subst, append_assoc, arith}
use Rattle.std.specs.List.{flat_map, AllByRecursion}
use Rattle.std.proofs.Math.Nat.{pow-suc, mod-eq_of_lt}
use Rattle.std.proofs.lemmas.Bool.{cases_lt, lt-ltb, le-ltb}
use Rattle.std.proofs.lemmas.List.Concat.{flat_map-cons}
use Rattle.pb_wire_defs.specs.Field.{Payload, Field, deepest_group}
use Rattle.pb_wire_defs.specs.Field.Payload.{Varint, Eight, Span, Four, Group}
use Rattle.pb_wire_defs.specs.Spelling.{IsGroups, IsVarint, IsPayload, IsGroup, IsField}
use Rattle.pb_wire_defs.specs.Reading.{fields_of}
use Rattle.pb_wire_defs.specs.Writing.{Written, groups, varint, payload_bytes, field_bytes}
use Rattle.pb_wire_defs.proofs.Bytes.{AreBytes, AreBytes-front, AreBytes-behind}
use Rattle.pb_wire_defs.proofs.Numbers.{IsShort, varint_below}
use Rattle.pb_wire_defs.proofs.Found.{fields_found, fields_only, wire_type_below}

-- ---- the shortest varint

pub last_group : (most n : ℕ) → n < 128 → groups (suc most) n ≡ n ∷ []
unfolding groups
last_group most n lt = rw (lt-ltb n 128 lt) refl

pub more_groups : (most n : ℕ) → 128 ≤ n → groups (suc most) n ≡ (n % 128 + 128) ∷ groups most (n / 128)
unfolding groups
more_groups most n le = rw (le-ltb n 128 le) refl

put_before : (n b high : ℕ) (spelling : List ℕ) → IsGroups spelling high → 128 ≤ b → b < 256 → n + 128 ≡ b + 128 * high → IsGroups (b ∷ spelling) n
put_before n b high spelling h le lt e = grind (arith)

pub quotient_below : (n bound : ℕ) → n < bound * 128 → n / 128 < bound
quotient_below n bound lt = omega arith

groups_spell : (most n : ℕ) → n < 128 ^ suc most → IsShort (suc most) n (groups (suc most) n)
groups_spell zero n lt = grind (arith, last_group)
groups_spell (suc most) n lt =
    grind (arith, cases_lt, last_group, quotient_below, pow-suc, more_groups, put_before, groups_spell most (n / 128) (quotient_below n (128 ^ suc most) (rw pow-suc at lt)))

-- the writer's varint spells its number
pub varint_spells : (n : ℕ) → n < 2 ^ 64 → IsVarint (varint n) n
unfolding varint
varint_spells n lt =
    let h : IsShort 10 n (groups 10 n) = groups_spell 9 n (omega arith) in
    record { sum = n; groups = h.0; short = h.1; modulo = sym (mod-eq_of_lt lt) }

groups_shortest : (most n sum : ℕ) (spelling : List ℕ) → IsGroups spelling sum → n ≤ sum → length (groups most n) ≤ length spelling
groups_shortest most n sum [] h le = absurd h
groups_shortest zero n sum (b ∷ bs) h le = unfold groups in omega arith
groups_shortest (suc most) n sum (b ∷ []) h le = rw (last_group most n (omega (arith, h.0, h.1))) (omega arith)
groups_shortest (suc most) n sum (b ∷ c ∷ bs) (low, below, high, is, spelt) le =
    grind (arith, cases_lt, last_group, more_groups, groups_shortest most (n / 128) high (c ∷ bs) spelt (omega arith))

-- no spelling of a number is shorter than the writer's
pub varint_shortest : (n : ℕ) (spelling : List ℕ) → IsVarint spelling n → length (varint n) ≤ length spelling
unfolding varint
varint_shortest n spelling h = grind (arith, groups_shortest)

-- ---- what can be written

-- a payload that a writer spells: in range, and no group
abbrev pub IsInRange : Payload → Type 0
IsInRange (Varint n) = n < 2 ^ 64
IsInRange (Eight n) = n < 2 ^ 64
IsInRange (Span content) = length content < 2 ^ 64
IsInRange (Four n) = n < 2 ^ 32
IsInRange Group = ⊥

-- a field that has a spelling
pub record IsSpellable (w : Written) : Type 0 where
  pub low : 1 ≤ w.number
  pub high : w.number ≤ 536870911
  pub fits : IsInRange w.payload

-- a written field, as it is read
abbrev pub as_field : Written → Field
as_field w = record { number = w.number; payload = w.payload; raw = field_bytes w }

payload_spelled : (group : ℕ → List ℕ → Type 0) (number : ℕ) (payload : Payload) → IsInRange payload → IsPayload group number (payload_bytes payload) payload
unfolding payload_bytes
payload_spelled group number (Varint n) fits = varint_spells n fits
payload_spelled group number (Eight n) fits = (fits, refl)
payload_spelled group number (Span content) fits = (varint (length content), varint_spells (length content) fits, refl)
payload_spelled group number (Four n) fits = (fits, refl)
payload_spelled group number Group fits = absurd fits

-- what is written spells the field
pub spelled_is_field : (w : Written) → IsSpellable w → IsField (as_field w)
unfolding field_bytes
spelled_is_field w h = grind (arith, wire_type_below, varint_spells, payload_spelled)

written_are_fields : (ws : List Written) (fields : List Field) → AllByRecursion IsSpellable ws → AllByRecursion IsField fields → AllByRecursion IsField (map as_field ws ++ fields)
written_are_fields [] fields each rest = rest
written_are_fields (w ∷ ws) fields each rest = (spelled_is_field w each.0, written_are_fields ws fields each.1 rest)

written_whole : (ws : List Written) (fields : List Field) → flat_map field_bytes ws ++ flat_map (λ field. field.raw) fields ≡ flat_map (λ field. field.raw) (map as_field ws ++ fields)
written_whole [] fields = refl
written_whole (w ∷ ws) fields = grind (arith, flat_map-cons, append_assoc, written_whole ws fields)

-- written fields, and behind them fields that stood in bytes, read back
pub found_again : (ws : List Written) (fields : List Field) → AllByRecursion IsSpellable ws → AllByRecursion IsField fields → fields_of (flat_map field_bytes ws ++ flat_map (λ field. field.raw) fields) ≡ Ok (map as_field ws ++ fields)
found_again ws fields each rest = grind (arith, fields_only, written_are_fields, written_whole)

kept_or_not : {X : Type 0} (P : X → Type 0) (x : X) (b : Bool) (xs : List X) → P x → AllByRecursion P xs → AllByRecursion P (cond b (x ∷ xs) xs)
kept_or_not P x b xs here each = grind (arith)

-- what holds of each holds of each that passes a test
pub AllByRecursion-filter : {X : Type 0} (P : X → Type 0) (p : X → Bool) (xs : List X) → AllByRecursion P xs → AllByRecursion P (filter p xs)
AllByRecursion-filter P p [] each = tt
AllByRecursion-filter P p (x ∷ xs) each =
    kept_or_not P x (p x) (filter p xs) each.0 (AllByRecursion-filter P p xs each.1)

-- ---- what was read

-- the bytes that a payload carries are bytes
abbrev pub CarriesBytes : Payload → Type 0
CarriesBytes (Varint n) = Unit {0}
CarriesBytes (Eight n) = Unit {0}
CarriesBytes (Span content) = AreBytes content
CarriesBytes (Four n) = Unit {0}
CarriesBytes Group = Unit {0}

-- a payload in the range that reading gives
abbrev pub WasInRange : Payload → Type 0
WasInRange (Varint n) = n < 2 ^ 64
WasInRange (Eight n) = n < 2 ^ 64
WasInRange (Span content) = length content < 2 ^ 64
WasInRange (Four n) = n < 2 ^ 32
WasInRange Group = Unit {0}

-- a field as reading bytes gives it
pub record WasRead (field : Field) : Type 0 where
  pub low : 1 ≤ field.number
  pub high : field.number ≤ 536870911
  pub fits : WasInRange field.payload
  pub carried : CarriesBytes field.payload
  pub is : IsField field

payload_in_range : (group : ℕ → List ℕ → Type 0) (number : ℕ) (payload : Payload) (spelling : List ℕ) → IsPayload group number spelling payload → WasInRange payload
payload_in_range group number payload spelling h = grind (arith, varint_below)

payload_carries : (group : ℕ → List ℕ → Type 0) (number : ℕ) (payload : Payload) (spelling : List ℕ) → IsPayload group number spelling payload → AreBytes spelling → CarriesBytes payload
payload_carries group number (Varint n) spelling h fits = tt
payload_carries group number (Eight n) spelling h fits = tt
payload_carries group number (Span content) spelling (size, sized, is) fits = AreBytes-behind size content (subst AreBytes is fits)
payload_carries group number (Four n) spelling h fits = tt
payload_carries group number Group spelling h fits = tt

field_was_read : (field : Field) → IsField field → AreBytes field.raw → WasRead field
field_was_read field h fits =
    record { low = h.numbered; high = omega (arith, h.small); fits = payload_in_range (IsGroup deepest_group) field.number field.payload h.rest h.carries; carried = payload_carries (IsGroup deepest_group) field.number field.payload h.rest h.carries (AreBytes-behind h.tag h.rest (subst AreBytes h.whole fits)); is = h }

all_were_read : (fields : List Field) → AllByRecursion IsField fields → AreBytes (flat_map (λ field. field.raw) fields) → AllByRecursion WasRead fields
all_were_read [] each fits = tt
all_were_read (f ∷ fs) each fits =
    let split : AreBytes (f.raw ++ flat_map (λ field. field.raw) fs) = subst AreBytes (flat_map-cons (λ field. field.raw) f fs) fits in
    (field_was_read f each.0 (AreBytes-front f.raw (flat_map (λ field. field.raw) fs) split), all_were_read fs each.1 (AreBytes-behind f.raw (flat_map (λ field. field.raw) fs) split))

-- each field that bytes give is in range
pub were_read : (bytes : List ℕ) (fields : List Field) → AreBytes bytes → fields_of bytes ≡ Ok fields → AllByRecursion WasRead fields
were_read bytes fields fits e = grind (arith, fields_found, all_were_read)

-- what was read is in range for a writer, but for groups
pub range_of_read : (payload : Payload) → WasInRange payload → (payload ≡ Group → ⊥) → IsInRange payload
range_of_read payload fits other = grind (arith)

-- a field that was read and is no group can be written
pub read_is_spellable : (field : Field) → WasRead field → (field.payload ≡ Group → ⊥) → IsSpellable (record { number = field.number; payload = field.payload })
read_is_spellable field h other = record { low = h.low; high = h.high; fits = range_of_read field.payload h.fits other }
