-- Tags: a varint that passes three tests.
use Rattle.std.proofs.Common.{◌≡◌, ℕ, ◌-◌, ◌/◌, ◌%◌, ◌^◌, ◌<◌, ◌≤◌, Bool, false, ltb, leb, ◌||◌, List, length, take, Result, Ok, arith}
use Rattle.std.proofs.lemmas.Bool.{ltb-false, cases_lt, le-leb, lt-leb, le-ltb}
use Rattle.pb_wire_defs.specs.Field.{Payload, Field, Fault}
use Rattle.pb_wire_defs.specs.Reading.{varint_at, tag_at, payload_at, field_with}
use Rattle.answer_defs.proofs.Steps.{ok_is, bind_ok, guard_ok}

-- a varint that is a tag
pub record IsTagAt (bytes : List ℕ) (tag : ℕ × List ℕ) : Type 0 where
  pub read : varint_at bytes ≡ Ok tag
  pub small : tag.0 < 2 ^ 32
  pub numbered : 8 ≤ tag.0
  pub typed : tag.0 % 8 ≤ 5

abbrev is_no_tag : ℕ → Bool
is_no_tag tag = leb (2 ^ 32) tag || ltb tag 8 || ltb 5 (tag % 8)

or_false : (a b c : Bool) → (a || b || c) ≡ false → (a ≡ false) × (b ≡ false) × (c ≡ false)
or_false a b c e = grind (arith)

leb_above : (a b : ℕ) → leb a b ≡ false → b < a
leb_above a b e = grind (arith, cases_lt, le-leb)

pub tag_found : (bytes : List ℕ) (tag : ℕ × List ℕ) → tag_at bytes ≡ Ok tag → IsTagAt bytes tag
unfolding tag_at
tag_found bytes tag e = grind (arith, bind_ok, guard_ok, or_false, leb_above, ltb-false, ok_is)

pub tag_again : (bytes : List ℕ) (tag : ℕ × List ℕ) → IsTagAt bytes tag → tag_at bytes ≡ Ok tag
unfolding tag_at
tag_again bytes tag h = grind (arith, lt-leb, le-ltb)

-- a field that was read: its tag, its payload, and what they make
pub record FieldSteps (group : ℕ → List ℕ → Result (List ℕ) Fault) (bytes : List ℕ) (x : Field × List ℕ) : Type 0 where
  pub tag : ℕ × List ℕ
  pub payload : Payload × List ℕ
  pub tagged : tag_at bytes ≡ Ok tag
  pub carried : payload_at group (tag.0 / 8) (tag.0 % 8) tag.1 ≡ Ok payload
  pub made : (record { number = tag.0 / 8; payload = payload.0; raw = take (length bytes - length payload.1) bytes }, payload.1) ≡ x

pub field_steps : (group : ℕ → List ℕ → Result (List ℕ) Fault) (bytes : List ℕ) (x : Field × List ℕ) → field_with group bytes ≡ Ok x → FieldSteps group bytes x
unfolding field_with
field_steps group bytes x e = grind (arith, bind_ok, ok_is)
