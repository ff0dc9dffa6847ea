-- What is read of bytes is what they spell, and what they spell is read.
use Rattle.std.proofs.Common.{◌≡◌, ℕ, zero, suc, ◌-◌, ◌/◌, ◌%◌, ◌^◌, ◌<◌, ◌≤◌, false, cond, ltb, eqb, List, [], ◌∷◌, ◌++◌, length, take, drop, Result, Ok, Err, refl, sym, ap, subst, ◌∙◌, append_assoc, arith, inl, inr}
use Rattle.std.specs.List.{flat_map, AllByRecursion}
use Rattle.std.specs.Int.{w32, w64}
use Rattle.std.proofs.lemmas.Bool.{ltb-false, le-ltb, eqb-true}
use Rattle.std.proofs.lemmas.List.{take_at, drop_at, take-append-drop, length-append, length-take}
use Rattle.std.proofs.lemmas.List.Concat.{flat_map-cons}
use Rattle.pb_wire_defs.specs.Field.{Payload, Field, Fault, wire_type, tag_of, end_tag_of, deepest_group}
use Rattle.pb_wire_defs.specs.Field.Payload.{Varint, Eight, Span, Four, Group}
use Rattle.pb_wire_defs.specs.Field.Fault.{Cut, BadGroup}
use Rattle.answer_defs.specs.Steps.{◌>>=◌}
use Rattle.pb_wire_defs.specs.Spelling.{IsVarint, IsPayload, IsFieldWith, IsEnded, IsGroup, IsField, HasFields}
use Rattle.pb_wire_defs.specs.Reading.{varint_at, span_at, tag_at, payload_at, field_with, behind_end, group_at, field_at, fields_within, fields_of}
use Rattle.answer_defs.proofs.Steps.{ok_is, bind_ok, chosen, guard_ok, bind_same_at, bind_bind, bind_given}
use Rattle.pb_wire_defs.proofs.Bytes.{AreBytes, AreBytes-rest, AreBytes-behind, Takes, take-before}
use Rattle.pb_wire_defs.proofs.Numbers.{varint_found, varint_again, varint_long, fixed_found, fixed_again, IsFixed, wide32, wide64}
use Rattle.pb_wire_defs.proofs.Tags.{tag_found, tag_again, field_steps}
use Rattle.pb_wire_defs.proofs.Shorter.{field_shorter}
use Rattle.pb_wire_defs.proofs.Groups.{field_with-tag, group_at-end, group_at-field}

-- ---- a run of bytes

pub span_found : (IsOne : ℕ → List ℕ → Type 0) (number : ℕ) (bytes : List ℕ) (x : List ℕ × List ℕ) → AreBytes bytes → span_at bytes ≡ Ok x → Takes (λ spelling. IsPayload IsOne number spelling (Span x.0)) bytes x.1
unfolding span_at
span_found IsOne number bytes x fits e =
    let a = bind_ok (varint_at bytes) (λ size. cond (ltb (length size.1) size.0) (Err Cut) (Ok (take size.0 size.1, drop size.0 size.1))) x e in
    let size = a.0 in
    let t = varint_found bytes size fits a.1 in
    let g = guard_ok (ltb (length size.1) size.0) Cut (Ok (take size.0 size.1, drop size.0 size.1)) x a.2 in
    let long : size.0 ≤ length size.1 = ltb-false _ _ g.0 in
    let len : size.0 ≡ length (take size.0 size.1) = omega (arith, length-take size.0 size.1) in
    let sized : IsVarint t.taken (length (take size.0 size.1)) = subst (λ (n : ℕ). IsVarint t.taken n) len t.is in
    let whole : bytes ≡ (t.taken ++ take size.0 size.1) ++ drop size.0 size.1 = t.whole ∙ ap (λ (r : List ℕ). t.taken ++ r) (sym (take-append-drop size.0 size.1)) ∙ sym (append_assoc t.taken (take size.0 size.1) (drop size.0 size.1)) in
    subst (λ (y : List ℕ × List ℕ). Takes (λ spelling. IsPayload IsOne number spelling (Span y.0)) bytes y.1) (ok_is (take size.0 size.1, drop size.0 size.1) x g.1) (record { taken = t.taken ++ take size.0 size.1; is = (t.taken, sized, refl); whole = whole })

pub span_again : (IsOne : ℕ → List ℕ → Type 0) (number : ℕ) (spelling content rest : List ℕ) → IsPayload IsOne number spelling (Span content) → span_at (spelling ++ rest) ≡ Ok (content, rest)
unfolding span_at
span_again IsOne number spelling content rest (size, sized, whole) =
    let regrouped : spelling ++ rest ≡ size ++ (content ++ rest) = rw whole (append_assoc size content rest) in
    let long : ltb (length (content ++ rest)) (length content) ≡ false = le-ltb _ _ (omega (arith, length-append content rest)) in
    rw (regrouped, varint_again size (content ++ rest) (length content) sized, long, take_at content rest (length content) refl, drop_at content rest (length content) refl) refl

-- ---- payloads

-- what is read behind the start of a group is what the grammar says of groups
pub record Agrees (group : ℕ → List ℕ → Result (List ℕ) Fault) (IsOne : ℕ → List ℕ → Type 0) : Type 0 where
  pub found : (number : ℕ) (bytes rest : List ℕ) → AreBytes bytes → group number bytes ≡ Ok rest → Takes (IsOne number) bytes rest
  pub again : (number : ℕ) (spelling rest : List ℕ) → 1 ≤ number → number < 2 ^ 29 → IsOne number spelling → group number (spelling ++ rest) ≡ Ok rest

-- a payload of this wire type, and its bytes
abbrev pub IsOfType : (ℕ → List ℕ → Type 0) → ℕ → ℕ → Payload → List ℕ → Type 0
IsOfType IsOne number kind payload spelling = IsPayload IsOne number spelling payload × (wire_type payload ≡ kind)

eight_is : (IsOne : ℕ → List ℕ → Type 0) (number : ℕ) (payload : Payload) (spelling : List ℕ) → IsFixed w64 (2 ^ 64) Eight payload spelling → IsOfType IsOne number 1 payload spelling
eight_is IsOne number payload spelling h4 = grind (arith)

four_is : (IsOne : ℕ → List ℕ → Type 0) (number : ℕ) (payload : Payload) (spelling : List ℕ) → IsFixed w32 (2 ^ 32) Four payload spelling → IsOfType IsOne number 5 payload spelling
four_is IsOne number payload spelling h4 = grind (arith)

-- a wire type takes three bits, and is never that of an end
pub wire_type_below : (payload : Payload) → wire_type payload < 8
wire_type_below payload = grind (arith)

wire_type_at_most : (payload : Payload) → wire_type payload ≤ 5
wire_type_at_most payload = grind (arith)

module _ (group : ℕ → List ℕ → Result (List ℕ) Fault) (IsOne : ℕ → List ℕ → Type 0) (agrees : Agrees group IsOne) where
  pub payload_found : (number kind : ℕ) (bytes : List ℕ) (x : Payload × List ℕ) → AreBytes bytes → payload_at group number kind bytes ≡ Ok x → Takes (IsOfType IsOne number kind x.0) bytes x.1
  unfolding payload_at
  payload_found number kind bytes x fits e =
      elim (chosen (eqb kind 0) _ _ (Ok x) e) [
        | inl h ↦
            let a = bind_ok (varint_at bytes) (λ found. Ok (Varint found.0, found.1)) x h.1 in
            let t = varint_found bytes a.0 fits a.1 in
            let kind_is : 0 ≡ kind = sym (eqb-true kind 0 h.0) in
            subst (λ (y : Payload × List ℕ). Takes (IsOfType IsOne number kind y.0) bytes y.1) (ok_is (Varint a.0.0, a.0.1) x a.2) (record { taken = t.taken; is = (t.is, kind_is); whole = t.whole })
        | inr h ↦
            elim (chosen (eqb kind 1) _ _ (Ok x) h.1) [
              | inl i ↦
                  let t = fixed_found w64 (2 ^ 64) wide64 Eight bytes x fits i.1 in
                  subst (λ (k : ℕ). Takes (IsOfType IsOne number k x.0) bytes x.1) (sym (eqb-true kind 1 i.0)) (record { taken = t.taken; is = eight_is IsOne number x.0 t.taken t.is; whole = t.whole })
              | inr i ↦
                  elim (chosen (eqb kind 2) _ _ (Ok x) i.1) [
                    | inl j ↦
                        let a = bind_ok (span_at bytes) (λ found. Ok (Span found.0, found.1)) x j.1 in
                        let t = span_found IsOne number bytes a.0 fits a.1 in
                        let kind_is : 2 ≡ kind = sym (eqb-true kind 2 j.0) in
                        subst (λ (y : Payload × List ℕ). Takes (IsOfType IsOne number kind y.0) bytes y.1) (ok_is (Span a.0.0, a.0.1) x a.2) (record { taken = t.taken; is = (t.is, kind_is); whole = t.whole })
                    | inr j ↦
                        elim (chosen (eqb kind 3) _ _ (Ok x) j.1) [
                          | inl k ↦
                              let a = bind_ok (group number bytes) (λ rest. Ok (Group, rest)) x k.1 in
                              let t = agrees.found number bytes a.0 fits a.1 in
                              let kind_is : 3 ≡ kind = sym (eqb-true kind 3 k.0) in
                              subst (λ (y : Payload × List ℕ). Takes (IsOfType IsOne number kind y.0) bytes y.1) (ok_is (Group, a.0) x a.2) (record { taken = t.taken; is = (t.is, kind_is); whole = t.whole })
                          | inr k ↦
                              elim (chosen (eqb kind 5) _ _ (Ok x) k.1) [
                                | inl l ↦
                                    let t = fixed_found w32 (2 ^ 32) wide32 Four bytes x fits l.1 in
                                    subst (λ (n : ℕ). Takes (IsOfType IsOne number n x.0) bytes x.1) (sym (eqb-true kind 5 l.0)) (record { taken = t.taken; is = four_is IsOne number x.0 t.taken t.is; whole = t.whole })
                                | inr l ↦ let never : Err BadGroup ≡ Ok x = l.1 in absurd cc
                              ]
                        ]
                  ]
            ]
      ]

  pub payload_again : (number : ℕ) (payload : Payload) (spelling rest : List ℕ) → 1 ≤ number → number < 2 ^ 29 → IsPayload IsOne number spelling payload → payload_at group number (wire_type payload) (spelling ++ rest) ≡ Ok (payload, rest)
  unfolding payload_at
  payload_again number (Varint n) spelling rest low high h = rw (varint_again spelling rest n h) refl
  payload_again number (Eight n) spelling rest low high h = rw h.1 (fixed_again w64 (2 ^ 64) wide64 Eight n rest h.0)
  payload_again number (Span content) spelling rest low high h = rw (span_again IsOne number spelling content rest h) refl
  payload_again number (Four n) spelling rest low high h = rw h.1 (fixed_again w32 (2 ^ 32) wide32 Four n rest h.0)
  payload_again number Group spelling rest low high h = rw (agrees.again number spelling rest low high h) refl

  -- ---- a field

  pub field_with_found : (bytes : List ℕ) (x : Field × List ℕ) → AreBytes bytes → field_with group bytes ≡ Ok x → IsFieldWith IsOne x.0 × (bytes ≡ x.0.raw ++ x.1)
  field_with_found bytes x fits e =
      let s = field_steps group bytes x e in
      let tag = s.tag in
      let payload = s.payload in
      let is_tag = tag_found bytes tag s.tagged in
      let first = varint_found bytes tag fits is_tag.read in
      let second = payload_found (tag.0 / 8) (tag.0 % 8) tag.1 payload (AreBytes-rest _ bytes tag.1 first fits) s.carried in
      let whole : bytes ≡ (first.taken ++ second.taken) ++ payload.1 = first.whole ∙ ap (λ (r : List ℕ). first.taken ++ r) second.whole ∙ sym (append_assoc first.taken second.taken payload.1) in
      let raw = take (length bytes - length payload.1) bytes in
      let raw_is : raw ≡ first.taken ++ second.taken = take-before bytes (first.taken ++ second.taken) payload.1 whole in
      let tag_is : tag.0 ≡ tag_of (tag.0 / 8) payload.0 = rw second.is.1 (omega arith) in
      let tagged : IsVarint first.taken (tag_of (tag.0 / 8) payload.0) = subst (λ (n : ℕ). IsVarint first.taken n) tag_is first.is in
      let low : 1 ≤ tag.0 / 8 = omega (arith, is_tag.numbered) in
      let small : tag_of (tag.0 / 8) payload.0 < 2 ^ 32 = subst (λ (n : ℕ). n < 2 ^ 32) tag_is is_tag.small in
      let made : Field × List ℕ = (record { number = tag.0 / 8; payload = payload.0; raw = raw }, payload.1) in
      let is : IsFieldWith IsOne made.0 = record { tag = first.taken; rest = second.taken; whole = raw_is; tagged = tagged; numbered = low; small = small; carries = second.is.0 } in
      let split : bytes ≡ made.0.raw ++ made.1 = whole ∙ ap (λ (r : List ℕ). r ++ payload.1) (sym raw_is) in
      subst (λ (y : Field × List ℕ). IsFieldWith IsOne y.0 × (bytes ≡ y.0.raw ++ y.1)) s.made (is, split)

  pub field_with_again : (field : Field) (rest : List ℕ) → IsFieldWith IsOne field → field_with group (field.raw ++ rest) ≡ Ok (field, rest)
  field_with_again field rest h =
      let regrouped : field.raw ++ rest ≡ h.tag ++ (h.rest ++ rest) = ap (λ (r : List ℕ). r ++ rest) h.whole ∙ append_assoc h.tag h.rest rest in
      let tag = tag_of field.number field.payload in
      let below : wire_type field.payload ≤ 5 = wire_type_at_most field.payload in
      let kind_is : tag % 8 ≡ wire_type field.payload = omega arith in
      let number_is : tag / 8 ≡ field.number = omega arith in
      let high : field.number < 2 ^ 29 = omega (arith, h.small) in
      let read : varint_at (field.raw ++ rest) ≡ Ok (tag, h.rest ++ rest) = rw regrouped (varint_again h.tag (h.rest ++ rest) tag h.tagged) in
      let tagged : tag_at (field.raw ++ rest) ≡ Ok (tag, h.rest ++ rest) = tag_again (field.raw ++ rest) (tag, h.rest ++ rest) (record { read = read; small = h.small; numbered = omega (arith, h.numbered); typed = omega arith }) in
      let carried : payload_at group (tag / 8) (tag % 8) (h.rest ++ rest) ≡ Ok (field.payload, rest) = rw (number_is, kind_is) (payload_again field.number field.payload h.rest rest h.numbered high h.carries) in
      let raw_is : take (length (field.raw ++ rest) - length rest) (field.raw ++ rest) ≡ field.raw = take-before (field.raw ++ rest) field.raw rest refl in
      rw (field_with-tag group (field.raw ++ rest) (tag, h.rest ++ rest) tagged, carried, number_is, raw_is) refl

  -- ---- the fields up to an end

  pub behind_end_found : (most number : ℕ) (bytes rest : List ℕ) → AreBytes bytes → behind_end (field_with group) most number bytes ≡ Ok rest → Takes (IsEnded (IsFieldWith IsOne) number) bytes rest
  unfolding behind_end
  behind_end_found zero number bytes rest fits e = absurd cc
  behind_end_found (suc most) number bytes rest fits e =
      let a = bind_ok (tag_at bytes) (λ tag. cond (eqb (tag.0 % 8) 4) (cond (eqb (tag.0 / 8) number) (Ok tag.1) (Err BadGroup)) (field_with group bytes >>= λ first. behind_end (field_with group) most number first.1)) rest e in
      let tag = a.0 in
      elim (chosen (eqb (tag.0 % 8) 4) _ _ (Ok rest) a.2) [
        | inl h ↦
            elim (chosen (eqb (tag.0 / 8) number) _ _ (Ok rest) h.1) [
              | inl i ↦
                  let t = varint_found bytes tag fits (tag_found bytes tag a.1).read in
                  let typed : tag.0 % 8 ≡ 4 = eqb-true (tag.0 % 8) 4 h.0 in
                  let own : tag.0 / 8 ≡ number = eqb-true (tag.0 / 8) number i.0 in
                  let tag_is : tag.0 ≡ end_tag_of number = omega arith in
                  let ended : IsEnded (IsFieldWith IsOne) number t.taken = record { fields = []; ending = t.taken; each = tt; tagged = subst (λ (n : ℕ). IsVarint t.taken n) tag_is t.is; whole = refl } in
                  subst (λ (r : List ℕ). Takes (IsEnded (IsFieldWith IsOne) number) bytes r) (ok_is tag.1 rest i.1) (record { taken = t.taken; is = ended; whole = t.whole })
              | inr i ↦ let never : Err BadGroup ≡ Ok rest = i.1 in absurd cc
            ]
        | inr h ↦
            let f = bind_ok (field_with group bytes) (λ first. behind_end (field_with group) most number first.1) rest h.1 in
            let first = field_with_found bytes f.0 fits f.1 in
            let behind = behind_end_found most number f.0.1 rest (AreBytes-behind f.0.0.raw f.0.1 (subst AreBytes first.1 fits)) f.2 in
            one_more f.0.0 behind.taken first.0 behind.is bytes rest (first.1 ∙ ap (λ (r : List ℕ). f.0.0.raw ++ r) behind.whole)
      ]
    where
      one_more : (field : Field) (spelling : List ℕ) → IsFieldWith IsOne field → IsEnded (IsFieldWith IsOne) number spelling → (bytes rest : List ℕ) → bytes ≡ field.raw ++ (spelling ++ rest) → Takes (IsEnded (IsFieldWith IsOne) number) bytes rest
      one_more field spelling here ended bytes rest whole =
          let ended_whole : field.raw ++ spelling ≡ flat_map (λ field. field.raw) (field ∷ ended.fields) ++ ended.ending = ap (λ (r : List ℕ). field.raw ++ r) ended.whole ∙ sym (append_assoc field.raw (flat_map (λ field. field.raw) ended.fields) ended.ending) ∙ ap (λ (r : List ℕ). r ++ ended.ending) (sym (flat_map-cons (λ field. field.raw) field ended.fields)) in
          record { taken = field.raw ++ spelling; is = record { fields = field ∷ ended.fields; ending = ended.ending; each = (here, ended.each); tagged = ended.tagged; whole = ended_whole }; whole = whole ∙ sym (append_assoc field.raw spelling rest) }

-- ---- groups

-- an end tag is read as the tag that it is
end_tag_again : (number : ℕ) (ending rest : List ℕ) → 1 ≤ number → number < 2 ^ 29 → IsVarint ending (end_tag_of number) → tag_at (ending ++ rest) ≡ Ok (end_tag_of number, rest)
end_tag_again number ending rest low high tagged =
    tag_again (ending ++ rest) (end_tag_of number, rest) (record { read = varint_again ending rest (end_tag_of number) tagged; small = omega arith; numbered = omega arith; typed = omega arith })

group_again : (deeper number : ℕ) (fields : List Field) (ending rest : List ℕ) → Agrees (group_at deeper) (IsGroup deeper) → 1 ≤ number → number < 2 ^ 29 → AllByRecursion (IsFieldWith (IsGroup deeper)) fields → IsVarint ending (end_tag_of number) → group_at (suc deeper) number ((flat_map (λ field. field.raw) fields ++ ending) ++ rest) ≡ Ok rest
group_again deeper number [] ending rest agrees low high each tagged =
    group_at-end deeper number (ending ++ rest) (end_tag_of number, rest) (end_tag_again number ending rest low high tagged) (omega arith) (omega arith)
group_again deeper number (f ∷ fs) ending rest agrees low high each tagged =
    let behind = (flat_map (λ field. field.raw) fs ++ ending) ++ rest in
    let whole : (flat_map (λ field. field.raw) (f ∷ fs) ++ ending) ++ rest ≡ f.raw ++ behind = rw (flat_map-cons (λ field. field.raw) f fs) (simp append_assoc) in
    let first : field_with (group_at deeper) (f.raw ++ behind) ≡ Ok (f, behind) = field_with_again (group_at deeper) (IsGroup deeper) agrees f behind each.0 in
    rw whole (group_at-field deeper number (f.raw ++ behind) (f, behind) first ∙ group_again deeper number fs ending rest agrees low high each.1 tagged)

-- at each level, what is read behind the start of a group is what the grammar says of groups
pub group_agrees : (levels : ℕ) → Agrees (group_at levels) (IsGroup levels)
unfolding group_at
group_agrees zero = grind (arith)
group_agrees (suc deeper) =
    let below = group_agrees deeper in
    record {
      found = λ number bytes rest fits e. behind_end_found (group_at deeper) (IsGroup deeper) below (suc (length bytes)) number bytes rest fits e;
      again = λ number spelling rest low high h. rw h.whole (group_again deeper number h.fields h.ending rest below low high h.each h.tagged);
    }

-- ---- fields

pub field_found : (bytes : List ℕ) (x : Field × List ℕ) → AreBytes bytes → field_at bytes ≡ Ok x → IsField x.0 × (bytes ≡ x.0.raw ++ x.1)
unfolding field_at
field_found bytes x fits e =
    field_with_found (group_at deepest_group) (IsGroup deepest_group) (group_agrees deepest_group) bytes x fits e

pub field_again : (field : Field) (rest : List ℕ) → IsField field → field_at (field.raw ++ rest) ≡ Ok (field, rest)
unfolding field_at
field_again field rest h =
    field_with_again (group_at deepest_group) (IsGroup deepest_group) (group_agrees deepest_group) field rest h

pub field_long : (field : Field) → IsField field → 1 ≤ length field.raw
field_long field h =
    omega (arith, varint_long h.tag _ h.tagged, length-append h.tag h.rest, ap length h.whole)

-- ---- lists of fields

-- enough fuel is as good as more
within_enough : (most more : ℕ) (bytes : List ℕ) → length bytes ≤ most → length bytes ≤ more → fields_within most bytes ≡ fields_within more bytes
unfolding fields_within
within_enough most more [] h k = refl
within_enough zero more (b ∷ bs) h k = absurd (omega arith)
within_enough (suc most) zero (b ∷ bs) h k = absurd (omega arith)
within_enough (suc most) (suc more) (b ∷ bs) h k =
    bind_same_at (field_at (b ∷ bs)) (λ first. fields_within most first.1 >>= λ others. Ok (first.0 ∷ others)) (λ first. fields_within more first.1 >>= λ others. Ok (first.0 ∷ others)) (λ first e. let shorter : length first.1 < length (b ∷ bs) = field_shorter (b ∷ bs) first e in ap (λ (r : Result (List Field) Fault). r >>= λ others. Ok (first.0 ∷ others)) (within_enough most more first.1 (omega arith) (omega arith)))

pub fields_of-nil : fields_of [] ≡ Ok []
unfolding fields_of fields_within
fields_of-nil = refl

-- the fields of bytes are the field in front and those behind it
pub fields_of-cons : (b : ℕ) (bs : List ℕ) → fields_of (b ∷ bs) ≡ (field_at (b ∷ bs) >>= λ first. fields_of first.1 >>= λ others. Ok (first.0 ∷ others))
unfolding fields_of fields_within
fields_of-cons b bs =
    bind_same_at (field_at (b ∷ bs)) (λ first. fields_within (length bs) first.1 >>= λ others. Ok (first.0 ∷ others)) (λ first. fields_within (length first.1) first.1 >>= λ others. Ok (first.0 ∷ others)) (λ first e. let shorter : length first.1 < length (b ∷ bs) = field_shorter (b ∷ bs) first e in ap (λ (r : Result (List Field) Fault). r >>= λ others. Ok (first.0 ∷ others)) (within_enough (length bs) (length first.1) first.1 (omega arith) (omega arith)))

-- a field, and then the fields behind it
pub fields_of-field : (bytes : List ℕ) (x : Field × List ℕ) → field_at bytes ≡ Ok x → fields_of bytes ≡ (fields_of x.1 >>= λ others. Ok (x.0 ∷ others))
fields_of-field [] x e = let shorter : length x.1 < 0 = field_shorter [] x e in absurd (omega arith)
fields_of-field (b ∷ bs) x e = rw (fields_of-cons b bs, e) refl

-- no field, and so no fields
pub fields_of-fault : (b : ℕ) (bs : List ℕ) (fault : Fault) → field_at (b ∷ bs) ≡ Err fault → fields_of (b ∷ bs) ≡ Err fault
fields_of-fault b bs fault e = rw (fields_of-cons b bs, e) refl

within_found : (most : ℕ) (bytes : List ℕ) (fields : List Field) → AreBytes bytes → fields_within most bytes ≡ Ok fields → HasFields bytes fields
unfolding fields_within
within_found most [] fields fits e = grind (arith, ok_is)
within_found zero (b ∷ bs) fields fits e = absurd cc
within_found (suc most) (b ∷ bs) fields fits e =
    let a = bind_ok (field_at (b ∷ bs)) (λ first. fields_within most first.1 >>= λ others. Ok (first.0 ∷ others)) fields e in
    let o = bind_ok (fields_within most a.0.1) (λ others. Ok (a.0.0 ∷ others)) fields a.2 in
    let first = field_found (b ∷ bs) a.0 fits a.1 in
    let behind : AreBytes a.0.1 = AreBytes-behind a.0.0.raw a.0.1 (subst AreBytes first.1 fits) in
    let others = within_found most a.0.1 o.0 behind o.1 in
    let whole : b ∷ bs ≡ flat_map (λ field. field.raw) (a.0.0 ∷ o.0) = first.1 ∙ ap (λ (r : List ℕ). a.0.0.raw ++ r) others.whole ∙ sym (flat_map-cons (λ field. field.raw) a.0.0 o.0) in
    subst (λ (fs : List Field). HasFields (b ∷ bs) fs) (ok_is (a.0.0 ∷ o.0) fields o.2) (record { each = (first.0, others.each); whole = whole })

-- what is read is spelled so
pub fields_found : (bytes : List ℕ) (fields : List Field) → AreBytes bytes → fields_of bytes ≡ Ok fields → HasFields bytes fields
unfolding fields_of
fields_found bytes fields fits e = within_found (length bytes) bytes fields fits e

spelled_again : (fields : List Field) → AllByRecursion IsField fields → fields_of (flat_map (λ field. field.raw) fields) ≡ Ok fields
spelled_again [] each = fields_of-nil
spelled_again (f ∷ fs) each =
    let rest = flat_map (λ field. field.raw) fs in
    let whole : flat_map (λ field. field.raw) (f ∷ fs) ≡ f.raw ++ rest = flat_map-cons (λ field. field.raw) f fs in
    rw (whole, fields_of-field (f.raw ++ rest) (f, rest) (field_again f rest each.0), spelled_again fs each.1) refl

-- what is spelled so is read
pub fields_only : (bytes : List ℕ) (fields : List Field) → HasFields bytes fields → fields_of bytes ≡ Ok fields
fields_only bytes fields h = rw h.whole (spelled_again fields h.each)

-- bytes spell one list of fields at most
pub one_list : (bytes : List ℕ) (fields others : List Field) → HasFields bytes fields → HasFields bytes others → fields ≡ others
one_list bytes fields others h k = ok_is fields others (sym (fields_only bytes fields h) ∙ fields_only bytes others k)

-- behind fields that are spelled, reading goes on
behind_spelled : (back : List ℕ) (fields : List Field) → AllByRecursion IsField fields → fields_of (flat_map (λ field. field.raw) fields ++ back) ≡ (fields_of back >>= λ others. Ok (fields ++ others))
behind_spelled back [] each = sym (bind_given (fields_of back))
behind_spelled back (f ∷ fs) each =
    let front = flat_map (λ field. field.raw) fs in
    let whole : flat_map (λ field. field.raw) (f ∷ fs) ++ back ≡ f.raw ++ (front ++ back) = ap (λ (r : List ℕ). r ++ back) (flat_map-cons (λ field. field.raw) f fs) ∙ append_assoc f.raw front back in
    rw (whole, fields_of-field (f.raw ++ (front ++ back)) (f, front ++ back) (field_again f (front ++ back) each.0), behind_spelled back fs each.1) (bind_bind (fields_of back) (λ others. Ok (fs ++ others)) (λ others. Ok (f ∷ others)))

pub fields_of-append : (front back : List ℕ) (fields : List Field) → HasFields front fields → fields_of (front ++ back) ≡ (fields_of back >>= λ others. Ok (fields ++ others))
fields_of-append front back fields h = rw h.whole (behind_spelled back fields h.each)
