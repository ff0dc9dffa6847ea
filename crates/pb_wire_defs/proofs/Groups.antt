-- Groups, one field at a time, with no count of the fields.
use Rattle.std.proofs.Common.{◌≡◌, ℕ, zero, suc, ◌-◌, ◌/◌, ◌%◌, ◌<◌, false, eqb, cond, List, length, take, Result, Ok, Err, refl, sym, ap, ◌∙◌, arith, inl, inr}
use Rattle.std.proofs.lemmas.Bool.{eqb-true, eq-eqb, cases_Bool}
use Rattle.pb_wire_defs.specs.Field.{Payload, Field, Fault}
use Rattle.pb_wire_defs.specs.Field.Payload.{Group}
use Rattle.pb_wire_defs.specs.Field.Fault.{BadGroup}
use Rattle.answer_defs.specs.Steps.{◌>>=◌}
use Rattle.pb_wire_defs.specs.Reading.{tag_at, payload_at, field_with, behind_end, group_at}
use Rattle.answer_defs.proofs.Steps.{bind_same_at, bind_bind}
use Rattle.pb_wire_defs.proofs.Tags.{field_steps}
use Rattle.pb_wire_defs.proofs.Shorter.{LeavesLess, field_with_shorter, group_shorter}

-- ---- payloads

-- what is behind groups matters to groups alone
pub payload_at-plain : (group other : ℕ → List ℕ → Result (List ℕ) Fault) (number any wire_type : ℕ) (bytes : List ℕ) → eqb wire_type 3 ≡ false → payload_at group number wire_type bytes ≡ payload_at other any wire_type bytes
unfolding payload_at
payload_at-plain group other number any wire_type bytes plain = rw plain refl

pub payload_at-group : (group : ℕ → List ℕ → Result (List ℕ) Fault) (number wire_type : ℕ) (bytes : List ℕ) → wire_type ≡ 3 → payload_at group number wire_type bytes ≡ (group number bytes >>= λ rest. Ok (Group, rest))
unfolding payload_at
payload_at-group group number wire_type bytes is = rw is refl

-- the end of a group begins no field
pub payload_at-end : (group : ℕ → List ℕ → Result (List ℕ) Fault) (number wire_type : ℕ) (bytes : List ℕ) → wire_type ≡ 4 → payload_at group number wire_type bytes ≡ Err BadGroup
unfolding payload_at
payload_at-end group number wire_type bytes is = rw is refl

-- behind a tag a field goes on with its payload
pub field_with-tag : (group : ℕ → List ℕ → Result (List ℕ) Fault) (bytes : List ℕ) (tag : ℕ × List ℕ) → tag_at bytes ≡ Ok tag → field_with group bytes ≡ (payload_at group (tag.0 / 8) (tag.0 % 8) tag.1 >>= λ payload. Ok (record { number = tag.0 / 8; payload = payload.0; raw = take (length bytes - length payload.1) bytes }, payload.1))
unfolding field_with
field_with-tag group bytes tag e = rw e refl

-- ---- the fields up to an end

-- what stands where a group's fields stand: its end, or a field and then `behind` it
abbrev pub end_or_field : (List ℕ → Result (Field × List ℕ) Fault) → (List ℕ → Result (List ℕ) Fault) → ℕ → List ℕ → Result (List ℕ) Fault
end_or_field field behind number bytes = tag_at bytes >>= λ tag. cond (eqb (tag.0 % 8) 4) (cond (eqb (tag.0 / 8) number) (Ok tag.1) (Err BadGroup)) (field bytes >>= λ first. behind first.1)

pub end_or_field-same : (field : List ℕ → Result (Field × List ℕ) Fault) (behind other : List ℕ → Result (List ℕ) Fault) (number : ℕ) (bytes : List ℕ) → ((first : Field × List ℕ) → field bytes ≡ Ok first → behind first.1 ≡ other first.1) → end_or_field field behind number bytes ≡ end_or_field field other number bytes
end_or_field-same field behind other number bytes same = grind (arith, bind_same_at)

module _ (group : ℕ → List ℕ → Result (List ℕ) Fault) (leaves : LeavesLess group) where
  -- enough fuel is as good as more
  pub behind_end-enough : (most more number : ℕ) (bytes : List ℕ) → length bytes < most → length bytes < more → behind_end (field_with group) most number bytes ≡ behind_end (field_with group) more number bytes
  unfolding behind_end
  behind_end-enough zero more number bytes h k = absurd (omega arith)
  behind_end-enough (suc most) zero number bytes h k = absurd (omega arith)
  behind_end-enough (suc most) (suc more) number bytes h k =
      end_or_field-same (field_with group) (behind_end (field_with group) most number) (behind_end (field_with group) more number) number bytes (λ first e. let shorter : length first.1 < length bytes = field_with_shorter group leaves bytes first e in behind_end-enough most more number first.1 (omega arith) (omega arith))

module _ (deeper number : ℕ) (bytes : List ℕ) where
  pub group_at-step : group_at (suc deeper) number bytes ≡ end_or_field (field_with (group_at deeper)) (group_at (suc deeper) number) number bytes
  unfolding group_at behind_end
  group_at-step =
      end_or_field-same (field_with (group_at deeper)) (behind_end (field_with (group_at deeper)) (length bytes) number) (group_at (suc deeper) number) number bytes (λ first e. let shorter : length first.1 < length bytes = field_with_shorter (group_at deeper) (group_shorter deeper) bytes first e in behind_end-enough (group_at deeper) (group_shorter deeper) (length bytes) (suc (length first.1)) number first.1 (omega arith) (omega arith))

  -- no tag in front
  pub group_at-no_tag : (fault : Fault) → tag_at bytes ≡ Err fault → group_at (suc deeper) number bytes ≡ Err fault
  group_at-no_tag fault e = rw (group_at-step, e) refl

  module _ (tag : ℕ × List ℕ) (tagged : tag_at bytes ≡ Ok tag) where
    -- the group's own end
    pub group_at-end : tag.0 % 8 ≡ 4 → tag.0 / 8 ≡ number → group_at (suc deeper) number bytes ≡ Ok tag.1
    group_at-end typed is = grind (arith, eq-eqb, group_at-step)

    -- the end of another group
    pub group_at-other_end : tag.0 % 8 ≡ 4 → eqb (tag.0 / 8) number ≡ false → group_at (suc deeper) number bytes ≡ Err BadGroup
    group_at-other_end typed other = rw (group_at-step, tagged, typed, other) refl

    -- a field of a wire type
    pub group_at-payload : eqb (tag.0 % 8) 4 ≡ false → group_at (suc deeper) number bytes ≡ (payload_at (group_at deeper) (tag.0 / 8) (tag.0 % 8) tag.1 >>= λ payload. group_at (suc deeper) number payload.1)
    group_at-payload field =
        rw (group_at-step, tagged, field, field_with-tag (group_at deeper) bytes tag tagged) (bind_bind (payload_at (group_at deeper) (tag.0 / 8) (tag.0 % 8) tag.1) (λ payload. Ok (record { number = tag.0 / 8; payload = payload.0; raw = take (length bytes - length payload.1) bytes }, payload.1)) (λ first. group_at (suc deeper) number first.1))

    -- a payload, and then the fields behind it
    pub group_at-payload_ok : (payload : Payload × List ℕ) → eqb (tag.0 % 8) 4 ≡ false → payload_at (group_at deeper) (tag.0 / 8) (tag.0 % 8) tag.1 ≡ Ok payload → group_at (suc deeper) number bytes ≡ group_at (suc deeper) number payload.1
    group_at-payload_ok payload field e = rw (group_at-payload field, e) refl

    -- no payload behind the tag
    pub group_at-fault : (fault : Fault) → eqb (tag.0 % 8) 4 ≡ false → payload_at (group_at deeper) (tag.0 / 8) (tag.0 % 8) tag.1 ≡ Err fault → group_at (suc deeper) number bytes ≡ Err fault
    group_at-fault fault field e = rw (group_at-payload field, e) refl

    -- a group in front, and then the fields behind it
    pub group_at-group : tag.0 % 8 ≡ 3 → group_at (suc deeper) number bytes ≡ (group_at deeper (tag.0 / 8) tag.1 >>= λ rest. group_at (suc deeper) number rest)
    group_at-group typed = grind (arith, group_at-payload, payload_at-group, bind_bind)

  -- a field, and then the fields behind it
  pub group_at-field : (first : Field × List ℕ) → field_with (group_at deeper) bytes ≡ Ok first → group_at (suc deeper) number bytes ≡ group_at (suc deeper) number first.1
  group_at-field first e =
      let s = field_steps (group_at deeper) bytes first e in
      let field : eqb (s.tag.0 % 8) 4 ≡ false = not_end (s.tag.0 / 8) (s.tag.0 % 8) s.tag.1 s.payload s.carried in
      group_at-payload_ok s.tag s.tagged s.payload field s.carried ∙ ap (λ (x : Field × List ℕ). group_at (suc deeper) number x.1) s.made
    where
      not_end : (n wire_type : ℕ) (rest : List ℕ) (payload : Payload × List ℕ) → payload_at (group_at deeper) n wire_type rest ≡ Ok payload → eqb wire_type 4 ≡ false
      not_end n wire_type rest payload carried =
          elim (cases_Bool (eqb wire_type 4)) [
            | inl is ↦ let bad : Err BadGroup ≡ Ok payload = sym (payload_at-end (group_at deeper) n wire_type rest (eqb-true wire_type 4 is)) ∙ carried in absurd cc
            | inr is ↦ is
          ]

-- no level of groups may be open
pub group_at-too_deep : (number : ℕ) (bytes : List ℕ) → group_at 0 number bytes ≡ Err BadGroup
unfolding group_at
group_at-too_deep number bytes = refl
