-- A message is read again from the bytes that are written of it, where its entities are each.
use Rattle.std.proofs.Common.{◌≡◌, ℕ, ◌+◌, ◌^◌, ◌<◌, Bool, true, List, [], ◌∷◌, length, refl, ◌∙◌, ap, subst, lit<, lit≤, codes}
use Rattle.std.specs.Prelude.{Option, Some, None, Ok, map, min}
use Rattle.std.specs.List.{flat_map, AllByRecursion}
use Rattle.std.specs.Str.{is_utf8, chars}
use lib.Utf8.{encode}
use Rattle.rt_types.specs.declared.alert.Alert.{Alert}
use Rattle.rt_types.specs.declared.enums.Incrementality.{Incrementality}
use Rattle.rt_types.specs.declared.enums.Incrementality.TheVariants.{FullDataset, Differential}
use Rattle.rt_types.specs.declared.fault.Kind.{Kind}
use Rattle.rt_types.specs.declared.message.Entity.{Entity}
use Rattle.rt_types.specs.declared.message.FeedMessage.{FeedMessage}
use Rattle.rt_types.specs.declared.message.Header.{Header}
use Rattle.rt_types.specs.declared.trip_update.TripUpdate.{TripUpdate}
use Rattle.rt_types.specs.declared.vehicle.Vehicle.{Vehicle}
use Rattle.answer_defs.specs.Steps.{◌>>=◌}
use Rattle.answer_defs.proofs.Steps.{bind_ok, ok_is}
use Rattle.pb_wire_defs.specs.Field.Payload.{Span}
use Rattle.pb_wire_defs.specs.Writing.{field_bytes}
use Rattle.pb_wire_defs.proofs.Bytes.{AreBytes}
use Rattle.pb_wire_defs.proofs.Again.{as_field}
use Rattle.feed_defs.specs.Rows.{span_in, occurrences_of, last_of, unknown_bytes_of, fields_of_all, merged_message, value, message_bytes, numbered_values, with_entity_number, text, embedded, required, numbered, write_all}
use Rattle.feed_defs.specs.Combined.{gone}
use Rattle.feed_defs.specs.Enums.{incrementality_number}
use Rattle.feed_defs.specs.Table.{header_shape, header, entity_shape, entity, feed_shape, feed, read, write}
use Rattle.feed_defs.proofs.FieldKinds.{embedded_lawful, text_lawful, text_is, text_again, last_own, span_fits, occurring_own, occurring_none, occurring_bytes, merged_again}
use Rattle.feed_defs.proofs.RowLaws.{IsLawful, short_payload, needed_is, list_is, both_is, joined_back, placed_is, write_all_fits, write_all_occurring, required_lawful, numbered_lawful, joined_lawful}
use Rattle.feed_defs.proofs.Rereading.{made_again, joined_were_read, header_law, header_rereads, told_rows, told_law, entity_law, entity_rereads}

-- ---- entities

-- that an entity is read from the bytes that are written of it
abbrev pub ReadsAgain : Entity → Type 0
ReadsAgain e = length (message_bytes entity e) < 2 ^ 64 → value entity (message_bytes entity e ∷ []) ≡ Ok e

numbered_each : (before : ℕ) (es : List Entity) → AllByRecursion ReadsAgain es → length (flat_map field_bytes (write_all 2 entity es)) < 2 ^ 64 → numbered_values entity before (map (λ e. message_bytes entity e) es) ≡ Ok es
unfolding numbered_values
numbered_each before [] each small = refl
numbered_each before (e ∷ es) each small =
    let short = short_payload (record { number = 2; payload = Span (message_bytes entity e) }) (write_all 2 entity es) small in
    rw (each.0 (span_fits (message_bytes entity e) short.0), numbered_each (before + 1) es each.1 short.1) refl

-- ---- a message of version 2.0, of either kind

abbrev pub header_with : Incrementality → ℕ → Header
header_with kind stamp = record { version = codes "2.0"; incrementality = Some kind; timestamp = Some stamp; unknown = [] }

abbrev pub message_with : Incrementality → ℕ → List Entity → FeedMessage
message_with kind stamp es = record { header = header_with kind stamp; entity = es; unknown = [] }

kind_small : (kind : Incrementality) → incrementality_number kind < 2 ^ 64
kind_small FullDataset = lit< tt
kind_small Differential = lit< tt

header_back : (kind : Incrementality) (stamp : ℕ) → header_shape.rows.read header_shape.kind (map as_field (header_shape.rows.write (codes "2.0", (Some kind, Some stamp)))) ≡ Ok (Ok (codes "2.0", (Some kind, Some stamp)))
unfolding last_of is_utf8 chars encode
header_back FullDataset stamp = refl
header_back Differential stamp = refl

header_again : (kind : Incrementality) (stamp : ℕ) → stamp < 2 ^ 64 → length (message_bytes header (header_with kind stamp)) < 2 ^ 64 → value header (message_bytes header (header_with kind stamp) ∷ []) ≡ Ok (header_with kind stamp)
unfolding unknown_bytes_of
header_again kind stamp low small =
    made_again header_shape 1 3 header_law (lit≤ tt) (lit≤ tt) (λ v unknown. (refl, refl)) [] (codes "2.0", (Some kind, Some stamp)) tt
    (λ short. (lit< tt, (kind_small kind, (low, tt)))) (λ short. header_back kind stamp) small

feed_first : IsLawful 1 1 (required 1 (embedded header))
feed_first = required_lawful (embedded_lawful 1 header header_rereads)

feed_second : IsLawful 2 2 (numbered 2 entity)
feed_second = numbered_lawful 2 entity entity_rereads

header_alone : (name : Kind) (h : Header) → value header (message_bytes header h ∷ []) ≡ Ok h → (required 1 (embedded header)).read name (map as_field ((required 1 (embedded header)).write h)) ≡ Ok (Ok h)
header_alone name h is =
    rw (occurring_own span_in 1 (Span (message_bytes header h)) (field_bytes (record { number = 1; payload = Span (message_bytes header h) })) (message_bytes header h) [] refl, occurring_none span_in 1, merged_again header (message_bytes header h) h is) refl

entities_alone : (name : Kind) (es : List Entity) → AllByRecursion ReadsAgain es → length (flat_map field_bytes (write_all 2 entity es)) < 2 ^ 64 → (numbered 2 entity).read name (map as_field ((numbered 2 entity).write es)) ≡ Ok (Ok es)
entities_alone name es each small = rw (write_all_occurring 2 entity es, numbered_each 0 es each small) refl

pub message_again : (kind : Incrementality) (stamp : ℕ) (es : List Entity) → stamp < 2 ^ 64 → AllByRecursion ReadsAgain es → length (write (message_with kind stamp es)) < 2 ^ 64
    → read (write (message_with kind stamp es)) ≡ Ok (message_with kind stamp es)
unfolding read write unknown_bytes_of
message_again kind stamp es low each small =
    let own = header_with kind stamp in
    made_again feed_shape 1 2 (joined_lawful feed_first feed_second (lit< tt)) (lit≤ tt) (lit≤ tt) (λ v unknown. (refl, refl)) [] (own, es) tt
    (λ short.
    let parts = short_payload (record { number = 1; payload = Span (message_bytes header own) }) (write_all 2 entity es) short in
    (span_fits (message_bytes header own) parts.0, write_all_fits 2 entity es parts.1))
    (λ short.
    let parts = short_payload (record { number = 1; payload = Span (message_bytes header own) }) (write_all 2 entity es) short in
    joined_back (required 1 (embedded header)) (numbered 2 entity) 1 1 2 2 feed_first feed_second (lit< tt) feed_shape.kind (own, es)
    (header_alone feed_shape.kind own (header_again kind stamp low (span_fits (message_bytes header own) parts.0)))
    (entities_alone feed_shape.kind es each parts.1))
    small

-- ---- an entity that says that its id is gone

abbrev gone_told : Option Bool × (Option TripUpdate × (Option Vehicle × Option Alert))
gone_told = (Some true, (None, (None, None)))

told_back : told_rows.read entity_shape.kind (map as_field (told_rows.write gone_told)) ≡ Ok (Ok gone_told)
unfolding last_of occurrences_of merged_message
told_back = refl

pub gone_again : (id : List ℕ) → is_utf8 id ≡ true → ReadsAgain (gone id)
unfolding unknown_bytes_of
gone_again id is_text small =
    made_again entity_shape 1 5 entity_law (lit≤ tt) (lit≤ tt) (λ v unknown. (refl, refl)) [] (id, gone_told) tt
    (λ short. (span_fits id (short_payload (record { number = 1; payload = Span id }) (told_rows.write gone_told) short).0, (lit< tt, tt)))
    (λ short. joined_back (required 1 text) told_rows 1 1 2 5 (required_lawful (text_lawful 1)) told_law (lit< tt) entity_shape.kind (id, gone_told)
    (rw (last_own span_in 1 (Span id) (field_bytes (record { number = 1; payload = Span id })) id refl, text_again entity_shape.kind 1 id is_text) refl)
    told_back)
    small

-- ---- what was read

-- an entity that some bytes say
pub record WasSaid (e : Entity) : Type 0 where
  pub payload : List ℕ
  pub are_bytes : AreBytes payload
  pub is : value entity (payload ∷ []) ≡ Ok e

all_said : (before : ℕ) (payloads : List (List ℕ)) (es : List Entity) → AllByRecursion AreBytes payloads → numbered_values entity before payloads ≡ Ok es → AllByRecursion WasSaid es
unfolding numbered_values
all_said before [] es each e = let none : [] ≡ es = cc in subst (AllByRecursion WasSaid) none tt
all_said before (bytes ∷ more) es each e =
    let first = bind_ok (with_entity_number (min (before + 1) 4294967295) (value entity (bytes ∷ []))) (λ x. numbered_values entity (before + 1) more >>= λ ys. Ok (x ∷ ys)) es e in
    let rest = bind_ok (numbered_values entity (before + 1) more) (λ ys. Ok (first.0 ∷ ys)) es first.2 in
    let same : first.0 ∷ rest.0 ≡ es = cc in
    subst (AllByRecursion WasSaid) same
    (record { payload = bytes; are_bytes = each.0; is = placed_is (min (before + 1) 4294967295) (value entity (bytes ∷ [])) first.0 first.1 }, all_said (before + 1) more rest.0 each.1 rest.1)

-- its id is a text
pub id_said : (e : Entity) → WasSaid e → is_utf8 e.id ≡ true
unfolding value
id_said e said =
    let found = bind_ok (fields_of_all entity_shape.kind (said.payload ∷ [])) entity.of_fields e said.is in
    let told = bind_ok (entity_shape.rows.read entity_shape.kind found.0) (λ told. told >>= λ v. Ok (entity_shape.make v (unknown_bytes_of entity_shape.rows.is_known found.0))) e found.2 in
    let made = bind_ok told.0 (λ v. Ok (entity_shape.make v (unknown_bytes_of entity_shape.rows.is_known found.0))) e told.2 in
    let parts = both_is ((required 1 text).read entity_shape.kind found.0) (told_rows.read entity_shape.kind found.0) made.0 (told.1 ∙ ap Ok made.1) in
    let is = needed_is entity_shape.kind 1 (text.read entity_shape.kind 1 found.0) made.0.0 parts.0 in
    subst (λ id. is_utf8 id ≡ true) (ap (λ (x : Entity). x.id) (ok_is _ _ made.2)) (text_is entity_shape.kind 1 (last_of span_in 1 found.0) made.0.0 is)

-- the entities of a message that was read
pub entities_said : (bytes : List ℕ) (m : FeedMessage) → AreBytes bytes → read bytes ≡ Ok m → AllByRecursion WasSaid m.entity
unfolding read value
entities_said bytes m fits e =
    let found = bind_ok (fields_of_all feed_shape.kind (bytes ∷ [])) feed.of_fields m e in
    let told = bind_ok (feed_shape.rows.read feed_shape.kind found.0) (λ told. told >>= λ v. Ok (feed_shape.make v (unknown_bytes_of feed_shape.rows.is_known found.0))) m found.2 in
    let made = bind_ok told.0 (λ v. Ok (feed_shape.make v (unknown_bytes_of feed_shape.rows.is_known found.0))) m told.2 in
    let were = joined_were_read feed_shape.kind (bytes ∷ []) found.0 (fits, tt) found.1 in
    let parts = both_is ((required 1 (embedded header)).read feed_shape.kind found.0) ((numbered 2 entity).read feed_shape.kind found.0) made.0 (told.1 ∙ ap Ok made.1) in
    let listed = list_is (numbered_values entity 0 (occurrences_of span_in 2 found.0)) made.0.1 parts.1 in
    subst (AllByRecursion WasSaid) (ap (λ x. x.entity) (ok_is _ _ made.2)) (all_said 0 (occurrences_of span_in 2 found.0) made.0.1 (occurring_bytes 2 found.0 were) listed)
