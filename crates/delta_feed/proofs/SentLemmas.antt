-- Two entities are written as the same fields just where they have the same bytes.
use Rattle.std.proofs.Common.{◌≡◌, ℕ, ◌^◌, ◌<◌, List, [], ◌++◌, length, drop, take, Bool, true, false, Ok, refl, sym, ap, ◌∙◌, append-nil, length-append, lit≤, arith}
use Rattle.std.specs.Prelude.{if◌then◌else◌}
use Rattle.std.specs.Bool.{Decides}
use Rattle.std.specs.Str.{bytes_eq}
use Rattle.std.proofs.Math.Seq.{take-append_seam, drop-append_seam}
use Rattle.std.proofs.lemmas.Bool.Decides.{same_from_decides}
use Rattle.std.proofs.lemmas.Slice.Eq.{bytes_eq-Decides}
use Rattle.rt_types.specs.declared.message.Entity.{Entity}
use Rattle.answer_defs.proofs.Steps.{ok_is}
use Rattle.pb_wire_defs.specs.Field.{Payload, Field}
use Rattle.pb_wire_defs.specs.Field.Payload.{Varint, Eight, Span, Four, Group}
use Rattle.pb_wire_defs.specs.Reading.{field_at}
use Rattle.pb_wire_defs.specs.Writing.{Written, payload_bytes, field_bytes, varint}
use Rattle.pb_wire_defs.proofs.Again.{as_field, spelled_is_field}
use Rattle.pb_wire_defs.proofs.Found.{field_again}
use Rattle.feed_defs.specs.Rows.{message_bytes}
use Rattle.feed_defs.specs.Table.{entity}
use Rattle.feed_write.specs.Entities.{entity_field}
use Rattle.delta_defs.specs.Changes.{is_same}
use Rattle.delta_feed.specs.Sent.{IsShort}

abbrev of_bytes : List ℕ → Written
of_bytes bytes = record { number = 2; payload = Span bytes }

abbrev content : Payload → List ℕ
content (Varint n) = []
content (Eight n) = []
content (Span bytes) = bytes
content (Four n) = []
content Group = []

content_short : (bytes : List ℕ) → length (field_bytes (of_bytes bytes)) < 2 ^ 64 → length bytes < 2 ^ 64
unfolding field_bytes payload_bytes
content_short bytes small =
    omega (arith, small, length-append (varint 18) (varint (length bytes) ++ bytes), length-append (varint (length bytes)) bytes)

read_back : (bytes : List ℕ) → length bytes < 2 ^ 64 → field_at (field_bytes (of_bytes bytes)) ≡ Ok (as_field (of_bytes bytes), [])
read_back bytes small =
    ap field_at (sym (append-nil (field_bytes (of_bytes bytes))))
    ∙ field_again (as_field (of_bytes bytes)) [] (spelled_is_field (of_bytes bytes) (record { low = lit≤ tt; high = lit≤ tt; fits = small }))

-- a field of bytes tells the bytes
one_field : (a b : List ℕ) → length a < 2 ^ 64 → length b < 2 ^ 64 → field_bytes (of_bytes a) ≡ field_bytes (of_bytes b) → a ≡ b
one_field a b short small e =
    ap (λ (x : Field × List ℕ). content x.0.payload) (ok_is (as_field (of_bytes a), []) (as_field (of_bytes b), []) (sym (read_back a short) ∙ ap field_at e ∙ read_back b small))

pub same_fields : (a b : Entity) → length (entity_field a) < 2 ^ 64 → length (entity_field b) < 2 ^ 64 → bytes_eq (entity_field b) (entity_field a) ≡ is_same a b
unfolding entity_field
same_fields a b short small =
    same_from_decides (bytes_eq (entity_field b) (entity_field a)) (is_same a b) decided (bytes_eq-Decides (message_bytes entity a) (message_bytes entity b))
  where
    told : Decides (bytes_eq (entity_field b) (entity_field a)) (entity_field b ≡ entity_field a)
    told = bytes_eq-Decides (entity_field b) (entity_field a)

    decided : Decides (bytes_eq (entity_field b) (entity_field a)) (message_bytes entity a ≡ message_bytes entity b)
    decided = (
      (λ t. one_field (message_bytes entity a) (message_bytes entity b) (content_short (message_bytes entity a) short) (content_short (message_bytes entity b) small) (sym (told.0 t))),
      (λ e. told.1 (ap (λ bytes. field_bytes (of_bytes bytes)) (sym e))),
    )

-- what was written goes again where the entity had the same bytes
pub taken_back : (a b : Entity) (before written cleared old bytes after : List ℕ) (start : ℕ) → start ≡ length before → written ≡ before ++ entity_field b → cleared ≡ [] → old ≡ cleared ++ entity_field a → bytes ≡ old
    → length written < 2 ^ 64 → length old < 2 ^ 64 → after ≡ (if bytes_eq (drop start written) bytes then take start written else written)
    → after ≡ before ++ (if is_same a b then [] else entity_field b)
taken_back a b before written cleared old bytes after start at is none held same small short answer =
    let own : old ≡ entity_field a = held ∙ ap (λ bs. bs ++ entity_field a) none in
    answer
    ∙ (λ i. if bytes_eq (drop (at i) (is i)) ((same ∙ own) i) then take (at i) (is i) else is i)
    ∙ (λ i. if bytes_eq (drop-append_seam before (entity_field b) i) (entity_field a) then take-append_seam before (entity_field b) i else before ++ entity_field b)
    ∙ ap (λ t. if t then before else before ++ entity_field b) (same_fields a b (omega (arith, ap length own, short)) (omega (arith, ap length is, length-append before (entity_field b), small)))
    ∙ by_same (is_same a b)
  where
    by_same : (t : Bool) → (if t then before else before ++ entity_field b) ≡ before ++ (if t then [] else entity_field b)
    by_same true = sym (append-nil before)
    by_same false = refl

-- what was written whole is short
pub written_short : (e : Entity) (before written : List ℕ) → written ≡ before ++ entity_field e → length written < 2 ^ 64 → IsShort e
unfolding entity_field
written_short e before written is small =
    content_short (message_bytes entity e) (omega (arith, ap length is, length-append before (field_bytes (of_bytes (message_bytes entity e))), small))
