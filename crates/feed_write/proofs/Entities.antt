-- An entity is its id and what stands behind it, and a message grows entity by entity.
use Rattle.std.proofs.Common.{◌≡◌, ℕ, List, [], ◌∷◌, ◌++◌, refl, sym, ap, ◌∙◌, append_assoc, append-nil, codes}
use Rattle.std.specs.Prelude.{Result, Ok, Err, OnOk}
use Rattle.std.specs.List.{flat_map}
use Rattle.rt_types.specs.declared.message.Entity.{Entity}
use Rattle.rt_types.specs.declared.message.Header.{Header}
use Rattle.pb_wire_defs.specs.Field.Payload.{Span}
use Rattle.pb_wire_defs.specs.Writing.{field_bytes}
use Rattle.feed_defs.specs.Combined.{entity_under_feed}
use Rattle.feed_defs.specs.Rows.{message_bytes, write_all}
use Rattle.feed_defs.specs.Table.{header, entity, write}
use Rattle.feed_write.specs.Entities.{entity_field, content_fields, content_bytes}

entity_bytes : (m : Entity) → message_bytes entity m ≡ field_bytes (record { number = 1; payload = Span m.id }) ++ content_bytes m
unfolding message_bytes content_bytes
entity_bytes m = append_assoc (field_bytes (record { number = 1; payload = Span m.id })) (flat_map field_bytes (content_fields m)) m.unknown

pub entity_then : {A E : Type 0} (r : Result A E) (old mid new : List ℕ) (m : Entity) → mid ≡ old ++ field_bytes (record { number = 1; payload = Span m.id }) → OnOk r (new ≡ mid ++ content_bytes m) → OnOk r (new ≡ old ++ message_bytes entity m)
entity_then (Ok x) old mid new m here behind =
    behind ∙ ap (λ bs. bs ++ content_bytes m) here
    ∙ append_assoc old (field_bytes (record { number = 1; payload = Span m.id })) (content_bytes m)
    ∙ ap (λ bs. old ++ bs) (sym (entity_bytes m))
entity_then (Err e) old mid new m here behind = tt

-- the same under the name of its feed, of which the pieces were written one behind another
named_bytes : (feed : List ℕ) (m : Entity) → field_bytes (record { number = 1; payload = Span (feed ++ (codes ":" ++ m.id)) }) ++ content_bytes m ≡ message_bytes entity (entity_under_feed feed m)
unfolding content_bytes
named_bytes feed m =
    ap (λ id. field_bytes (record { number = 1; payload = Span id }) ++ content_bytes m) (sym (append_assoc feed (codes ":") m.id))
    ∙ sym (entity_bytes (entity_under_feed feed m))

pub under_feed : {A E : Type 0} (r : Result A E) (feed id : List ℕ) (m : Entity) (old named all : List ℕ) → id ≡ m.id
    → named ≡ old ++ field_bytes (record { number = 1; payload = Span (feed ++ (codes ":" ++ id)) }) → OnOk r (all ≡ named ++ content_bytes m)
    → OnOk r (all ≡ old ++ message_bytes entity (entity_under_feed feed m))
under_feed (Ok x) feed id m old named all is front behind =
    behind ∙ ap (λ bs. bs ++ content_bytes m) (front ∙ ap (λ x. old ++ own x) is) ∙ append_assoc old (own m.id) (content_bytes m) ∙ ap (λ bs. old ++ bs) (named_bytes feed m)
  where
    own : List ℕ → List ℕ
    own x = field_bytes (record { number = 1; payload = Span (feed ++ (codes ":" ++ x)) })
under_feed (Err e) feed id m old named all is front behind = tt

all_fields : (entities : List Entity) → flat_map field_bytes (write_all 2 entity entities) ≡ flat_map entity_field entities
unfolding entity_field
all_fields [] = refl
all_fields (m ∷ entities) = ap (λ bs. field_bytes (record { number = 2; payload = Span (message_bytes entity m) }) ++ bs) (all_fields entities)

-- a message without unknown fields is its header, and then its entities one by one
pub message_grows : (head : Header) (entities : List Entity) →
    write (record { header = head; entity = entities; unknown = [] }) ≡ write (record { header = head; entity = []; unknown = [] }) ++ flat_map entity_field entities
unfolding write message_bytes
message_grows head entities =
    let first = field_bytes (record { number = 1; payload = Span (message_bytes header head) }) in
    append-nil (first ++ flat_map field_bytes (write_all 2 entity entities))
    ∙ ap (λ bs. first ++ bs) (all_fields entities)
    ∙ ap (λ bs. bs ++ flat_map entity_field entities) (sym (append-nil (first ++ []) ∙ append-nil first))
