-- What a reader leaves is shorter than what it was given, whatever the numbers are.
use Rattle.std.proofs.Common.{◌≡◌, ℕ, zero, suc, ◌+◌, ◌*◌, ◌/◌, ◌%◌, ◌<◌, ◌≤◌, ltb, eqb, List, [], ◌∷◌, length, Result, Ok, Err, sym, ap, subst, cond, arith, inl, inr}
use Rattle.std.specs.Int.{Width, w32, w64}
use Rattle.std.proofs.lemmas.List.{length-drop}
use Rattle.pb_wire_defs.specs.Field.{Payload, Field, Fault, deepest_group}
use Rattle.pb_wire_defs.specs.Field.Payload.{Varint, Eight, Span, Four, Group}
use Rattle.pb_wire_defs.specs.Field.Fault.{BadGroup}
use Rattle.answer_defs.specs.Steps.{◌>>=◌}
use Rattle.pb_wire_defs.specs.Reading.{groups_at, varint_at, fixed_at, span_at, tag_at, payload_at, field_with, behind_end, group_at, field_at}
use Rattle.answer_defs.proofs.Steps.{ok_is, bind_ok, chosen, guard_ok}
use Rattle.pb_wire_defs.proofs.Tags.{tag_found, field_steps}

pub groups_shorter : (most : ℕ) (bytes : List ℕ) (x : ℕ × List ℕ) → groups_at most bytes ≡ Ok x → length x.1 < length bytes
unfolding groups_at
groups_shorter zero bytes x e = absurd cc
groups_shorter (suc most) [] x e = absurd cc
groups_shorter (suc most) (b ∷ bs) x e =
    elim (chosen (ltb b 128) (Ok (b, bs)) (groups_at most bs >>= λ high. Ok (b % 128 + 128 * high.0, high.1)) (Ok x) e) [
      | inl h ↦ subst (λ (y : ℕ × List ℕ). length y.1 < length (b ∷ bs)) (ok_is (b, bs) x h.1) (omega arith)
      | inr h ↦
          let a = bind_ok (groups_at most bs) (λ high. Ok (b % 128 + 128 * high.0, high.1)) x h.1 in
          let t : length a.0.1 < length bs = groups_shorter most bs a.0 a.1 in
          subst (λ (y : ℕ × List ℕ). length y.1 < length (b ∷ bs)) (ok_is (b % 128 + 128 * a.0.0, a.0.1) x a.2) (omega arith)
    ]

pub varint_shorter : (bytes : List ℕ) (x : ℕ × List ℕ) → varint_at bytes ≡ Ok x → length x.1 < length bytes
unfolding varint_at
varint_shorter bytes x e = grind (arith, bind_ok, ok_is, groups_shorter)

pub fixed_shorter : (w : Width) (carry : ℕ → Payload) (bytes : List ℕ) (x : Payload × List ℕ) → fixed_at w carry bytes ≡ Ok x → length x.1 ≤ length bytes
fixed_shorter w carry bytes x e = grind (arith, guard_ok, ok_is, length-drop)

pub span_shorter : (bytes : List ℕ) (x : List ℕ × List ℕ) → span_at bytes ≡ Ok x → length x.1 ≤ length bytes
unfolding span_at
span_shorter bytes x e = grind (arith, bind_ok, guard_ok, varint_shorter, ok_is, length-drop)

pub tag_shorter : (bytes : List ℕ) (tag : ℕ × List ℕ) → tag_at bytes ≡ Ok tag → length tag.1 < length bytes
tag_shorter bytes tag e = varint_shorter bytes tag (tag_found bytes tag e).read

-- what is behind a group is shorter than what is behind its start
pub record LeavesLess (group : ℕ → List ℕ → Result (List ℕ) Fault) : Type 0 where
  pub less : (number : ℕ) (bytes rest : List ℕ) → group number bytes ≡ Ok rest → length rest < length bytes

module _ (group : ℕ → List ℕ → Result (List ℕ) Fault) (leaves : LeavesLess group) where
  pub payload_shorter : (number wire_type : ℕ) (bytes : List ℕ) (x : Payload × List ℕ) → payload_at group number wire_type bytes ≡ Ok x → length x.1 ≤ length bytes
  unfolding payload_at
  payload_shorter number wire_type bytes x e =
      elim (chosen (eqb wire_type 0) _ _ (Ok x) e) [
        | inl h ↦
            let a = bind_ok (varint_at bytes) (λ found. Ok (Varint found.0, found.1)) x h.1 in
            let t : length a.0.1 < length bytes = varint_shorter bytes a.0 a.1 in
            subst (λ (y : Payload × List ℕ). length y.1 ≤ length bytes) (ok_is (Varint a.0.0, a.0.1) x a.2) (omega arith)
        | inr h ↦
            elim (chosen (eqb wire_type 1) _ _ (Ok x) h.1) [
              | inl i ↦ fixed_shorter w64 Eight bytes x i.1
              | inr i ↦
                  elim (chosen (eqb wire_type 2) _ _ (Ok x) i.1) [
                    | inl j ↦
                        let a = bind_ok (span_at bytes) (λ found. Ok (Span found.0, found.1)) x j.1 in
                        subst (λ (y : Payload × List ℕ). length y.1 ≤ length bytes) (ok_is (Span a.0.0, a.0.1) x a.2) (span_shorter bytes a.0 a.1)
                    | inr j ↦
                        elim (chosen (eqb wire_type 3) _ _ (Ok x) j.1) [
                          | inl k ↦
                              let a = bind_ok (group number bytes) (λ rest. Ok (Group, rest)) x k.1 in
                              let t : length a.0 < length bytes = leaves.less number bytes a.0 a.1 in
                              subst (λ (y : Payload × List ℕ). length y.1 ≤ length bytes) (ok_is (Group, a.0) x a.2) (omega arith)
                          | inr k ↦
                              elim (chosen (eqb wire_type 5) _ _ (Ok x) k.1) [
                                | inl l ↦ fixed_shorter w32 Four bytes x l.1
                                | inr l ↦ let never : Err BadGroup ≡ Ok x = l.1 in absurd cc
                              ]
                        ]
                  ]
            ]
      ]

  pub field_with_shorter : (bytes : List ℕ) (x : Field × List ℕ) → field_with group bytes ≡ Ok x → length x.1 < length bytes
  field_with_shorter bytes x e =
      let s = field_steps group bytes x e in
      let first : length s.tag.1 < length bytes = tag_shorter bytes s.tag s.tagged in
      let second : length s.payload.1 ≤ length s.tag.1 = payload_shorter (s.tag.0 / 8) (s.tag.0 % 8) s.tag.1 s.payload s.carried in
      let rest_is : length x.1 ≡ length s.payload.1 = ap (λ (y : Field × List ℕ). length y.1) (sym s.made) in
      omega arith

  pub behind_end_shorter : (most number : ℕ) (bytes rest : List ℕ) → behind_end (field_with group) most number bytes ≡ Ok rest → length rest < length bytes
  unfolding behind_end
  behind_end_shorter zero number bytes rest e = absurd cc
  behind_end_shorter (suc most) number bytes rest e =
      let a = bind_ok (tag_at bytes) (λ tag. cond (eqb (tag.0 % 8) 4) (cond (eqb (tag.0 / 8) number) (Ok tag.1) (Err BadGroup)) (field_with group bytes >>= λ first. behind_end (field_with group) most number first.1)) rest e in
      let tag = a.0 in
      let first : length tag.1 < length bytes = tag_shorter bytes tag a.1 in
      elim (chosen (eqb (tag.0 % 8) 4) _ _ (Ok rest) a.2) [
        | inl h ↦
            elim (chosen (eqb (tag.0 / 8) number) _ _ (Ok rest) h.1) [
              | inl i ↦ subst (λ (r : List ℕ). length r < length bytes) (ok_is tag.1 rest i.1) first
              | inr i ↦ let never : Err BadGroup ≡ Ok rest = i.1 in absurd cc
            ]
        | inr h ↦
            let f = bind_ok (field_with group bytes) (λ first. behind_end (field_with group) most number first.1) rest h.1 in
            let here : length f.0.1 < length bytes = field_with_shorter bytes f.0 f.1 in
            let behind : length rest < length f.0.1 = behind_end_shorter most number f.0.1 rest f.2 in
            omega arith
      ]

pub group_shorter : (levels : ℕ) → LeavesLess (group_at levels)
unfolding group_at
group_shorter zero = record { less = λ number bytes rest e. absurd cc }
group_shorter (suc deeper) = record { less = λ number bytes rest e. behind_end_shorter (group_at deeper) (group_shorter deeper) (suc (length bytes)) number bytes rest e }

pub field_shorter : (bytes : List ℕ) (x : Field × List ℕ) → field_at bytes ≡ Ok x → length x.1 < length bytes
unfolding field_at
field_shorter bytes x e = field_with_shorter (group_at deepest_group) (group_shorter deepest_group) bytes x e
