-- A message that was read is read again from the bytes that are written of it.
use Rattle.std.proofs.Common.{◌≡◌, ℕ, ◌^◌, ◌<◌, ◌≤◌, Bool, true, List, [], ◌∷◌, ◌++◌, length, refl, ◌∙◌, ap, subst, arith, append-nil, lit<, lit≤}
use Rattle.std.specs.Prelude.{Option, Ok, not, filter, map}
use Rattle.std.specs.List.{flat_map, AllByRecursion}
use Rattle.std.proofs.lemmas.List.{length-append}
use Rattle.std.proofs.lemmas.List.Elements.{filter-append}
use Rattle.rt_types.specs.declared.fault.Kind.{Kind}
use Rattle.rt_types.specs.declared.alert.Alert.{Alert}
use Rattle.rt_types.specs.declared.message.FeedMessage.{FeedMessage}
use Rattle.rt_types.specs.declared.trip_update.TripUpdate.{TripUpdate}
use Rattle.rt_types.specs.declared.vehicle.Vehicle.{Vehicle}
use Rattle.answer_defs.specs.Steps.{◌>>=◌}
use Rattle.pb_wire_defs.specs.Field.{Field}
use Rattle.pb_wire_defs.specs.Spelling.{IsField}
use Rattle.pb_wire_defs.specs.Reading.{fields_of}
use Rattle.pb_wire_defs.specs.Writing.{Written, field_bytes}
use Rattle.pb_wire_defs.proofs.Bytes.{AreBytes}
use Rattle.answer_defs.proofs.Steps.{bind_ok, ok_is}
use Rattle.pb_wire_defs.proofs.Again.{IsInRange, IsSpellable, WasRead, as_field, found_again, were_read, AllByRecursion-filter}
use Rattle.feed_defs.specs.Rows.{Message, Shape, Rows, bool, embedded, optional, fields_in, unknown_bytes_of, fields_of_all, value, message_bytes, message, ◌⊕◌}
use Rattle.feed_defs.specs.Enums.{incrementality_named, incrementality_number, incrementality, stop_relation_named, stop_relation_number, stop_relation, trip_relation_named, trip_relation_number, trip_relation, stop_status_named, stop_status_number, stop_status, cause_named, cause_number, cause, effect_named, effect_number, effect}
use Rattle.feed_defs.specs.Table.{trip_descriptor_shape, trip_descriptor, vehicle_descriptor_shape, vehicle_descriptor, stop_time_event_shape, stop_time_event, stop_time_properties_shape, stop_time_properties, stop_time_update_shape, stop_time_update, trip_update_shape, trip_update, position_shape, position, vehicle_position_shape, vehicle_position, time_range_shape, time_range, entity_selector_shape, entity_selector, translation_shape, translation, translated_string_shape, translated_string, alert_shape, alert, header_shape, header, entity_shape, entity, feed_shape, feed, read, write}
use Rattle.feed_defs.proofs.Sifted.{each_then, each_append, filter_none, filter_failing, filter_passing}
use Rattle.feed_defs.proofs.FieldKinds.{Rereads, IsLawfulKind, u32_lawful, u64_lawful, i32_lawful, i64_lawful, degrees_lawful, bool_lawful, choice_lawful, text_lawful, embedded_lawful}
use Rattle.feed_defs.proofs.RowLaws.{IsLawful, optional_lawful, required_lawful, repeated_lawful, numbered_lawful, joined_lawful}

-- ---- the fields of bytes

fields_are : (kind : Kind) (bytes : List ℕ) (fields : List Field) → fields_in kind bytes ≡ Ok fields → fields_of bytes ≡ Ok fields
fields_are kind bytes fields e = grind arith

fields_again : (kind : Kind) (bytes : List ℕ) (fields : List Field) → fields_of bytes ≡ Ok fields → fields_in kind bytes ≡ Ok fields
fields_again kind bytes fields e = grind arith

pub joined_were_read : (kind : Kind) (payloads : List (List ℕ)) (fields : List Field) → AllByRecursion AreBytes payloads → fields_of_all kind payloads ≡ Ok fields → AllByRecursion WasRead fields
unfolding fields_of_all
joined_were_read kind [] fields each e = let none : [] ≡ fields = cc in subst (AllByRecursion WasRead) none tt
joined_were_read kind (bytes ∷ more) fields each e =
    let first = bind_ok (fields_in kind bytes) (λ xs. fields_of_all kind more >>= λ ys. Ok (xs ++ ys)) fields e in
    let rest = bind_ok (fields_of_all kind more) (λ ys. Ok (first.0 ++ ys)) fields first.2 in
    let same : first.0 ++ rest.0 ≡ fields = cc in
    subst (AllByRecursion WasRead) same
    (each_append WasRead first.0 rest.0 (were_read bytes first.0 each.0 (fields_are kind bytes first.0 first.1)) (joined_were_read kind more rest.0 each.1 rest.1))

value_single : {M : Type 0} (m : Message M) (bytes : List ℕ) (fields : List Field) → fields_of bytes ≡ Ok fields → value m (bytes ∷ []) ≡ m.of_fields fields
unfolding value fields_of_all
value_single m bytes fields h = rw (fields_again m.kind bytes fields h, append-nil) refl

-- ---- one message

all_spellable : {V : Type 0} (low high : ℕ) (rows : Rows V) → IsLawful low high rows → 1 ≤ low → high ≤ 536870911 → (ws : List Written) → AllByRecursion (λ w. rows.is_known (as_field w) ≡ true) ws → AllByRecursion (λ w. IsInRange w.payload) ws → AllByRecursion IsSpellable ws
all_spellable low high rows law l h [] known fits = tt
all_spellable low high rows law l h (w ∷ ws) known fits =
    let place = law.within (as_field w) known.0 in
    (record { low = omega (arith, place.0); high = omega (arith, place.1); fits = fits.0 }, all_spellable low high rows law l h ws known.1 fits.1)

keeps_known : (known : Field → Bool) (front fields : List Field) → filter known (front ++ filter (λ field. not (known field)) fields) ≡ filter known front
keeps_known known front fields =
    filter-append known front (filter (λ field. not (known field)) fields) ∙ ap (λ rest. filter known front ++ rest) (filter_failing known fields) ∙ append-nil _

keeps_others : (known : Field → Bool) (ws : List Written) (fields : List Field) → AllByRecursion (λ w. known (as_field w) ≡ true) ws → unknown_bytes_of known (map as_field ws ++ filter (λ field. not (known field)) fields) ≡ unknown_bytes_of known fields
unfolding unknown_bytes_of
keeps_others known ws fields each =
    ap (λ kept. flat_map (λ field. field.raw) kept)
    (filter-append (λ field. not (known field)) (map as_field ws) (filter (λ field. not (known field)) fields)
    ∙ ap (λ front. front ++ filter (λ field. not (known field)) (filter (λ field. not (known field)) fields))
    (filter_none (λ field. not (known field)) as_field ws (each_then (λ w h. ap not h) ws each))
    ∙ filter_passing (λ field. not (known field)) fields)

-- that a message's struct holds just its values and its unknown bytes
abbrev pub Holds : {M V : Type 0} → Shape M V → Type 0
Holds {M} {V} shape = (v : V) (unknown : List ℕ) → (shape.values (shape.make v unknown) ≡ v) × (shape.unknown (shape.make v unknown) ≡ unknown)

written_is : {M V : Type 0} (shape : Shape M V) → Holds shape → (v : V) (fields : List Field) → message_bytes (message shape) (shape.make v (unknown_bytes_of shape.rows.is_known fields)) ≡ flat_map field_bytes (shape.rows.write v) ++ flat_map (λ field. field.raw) (filter (λ field. not (shape.rows.is_known field)) fields)
unfolding message_bytes unknown_bytes_of
written_is shape holds v fields = rw ((holds v (unknown_bytes_of shape.rows.is_known fields)).0, (holds v (unknown_bytes_of shape.rows.is_known fields)).1) refl

-- values that can be written, and are read again from that, with what was unknown of fields that were read
pub made_again : {M V : Type 0} (shape : Shape M V) (low high : ℕ) → IsLawful low high shape.rows → 1 ≤ low → high ≤ 536870911 → Holds shape → (fields : List Field) (v : V) → AllByRecursion WasRead fields
    → (length (flat_map field_bytes (shape.rows.write v)) < 2 ^ 64 → AllByRecursion (λ w. IsInRange w.payload) (shape.rows.write v))
    → (length (flat_map field_bytes (shape.rows.write v)) < 2 ^ 64 → shape.rows.read shape.kind (map as_field (shape.rows.write v)) ≡ Ok (Ok v))
    → length (message_bytes (message shape) (shape.make v (unknown_bytes_of shape.rows.is_known fields))) < 2 ^ 64
    → value (message shape) (message_bytes (message shape) (shape.make v (unknown_bytes_of shape.rows.is_known fields)) ∷ []) ≡ Ok (shape.make v (unknown_bytes_of shape.rows.is_known fields))
made_again shape low high law l h holds fields v were fits back small =
    let unknown : List Field = filter (λ field. not (shape.rows.is_known field)) fields in
    let known = law.knows v in
    let is = written_is shape holds v fields in
    let whole : length (flat_map field_bytes (shape.rows.write v) ++ flat_map (λ field. field.raw) unknown) < 2 ^ 64 = rw is at small in
    let short : length (flat_map field_bytes (shape.rows.write v)) < 2 ^ 64 = omega (arith, length-append (flat_map field_bytes (shape.rows.write v)) (flat_map (λ field. field.raw) unknown), whole) in
    let spellable = all_spellable low high shape.rows law l h (shape.rows.write v) known (fits short) in
    let stood : AllByRecursion IsField unknown = AllByRecursion-filter IsField (λ field. not (shape.rows.is_known field)) fields (each_then (λ field was. was.is) fields were) in
    let found = found_again (shape.rows.write v) unknown spellable stood in
    let again : shape.rows.read shape.kind (map as_field (shape.rows.write v) ++ unknown) ≡ Ok (Ok v) = law.same shape.kind _ _ (keeps_known shape.rows.is_known (map as_field (shape.rows.write v)) fields) ∙ back short in
    rw (is, value_single (message shape) _ _ found, again, keeps_others shape.rows.is_known (shape.rows.write v) fields known) refl

-- a message whose rows are lawful is read again
pub message_rereads : {M V : Type 0} (shape : Shape M V) (low high : ℕ) → 1 ≤ low → high ≤ 536870911 → Holds shape → IsLawful low high shape.rows → Rereads (message shape)
unfolding value
message_rereads {M} {V} shape low high l h holds law payloads x each e small =
    let found = bind_ok (fields_of_all shape.kind payloads) (message shape).of_fields x e in
    let told = bind_ok (shape.rows.read shape.kind found.0) (λ told. told >>= λ v. Ok (shape.make v (unknown_bytes_of shape.rows.is_known found.0))) x found.2 in
    let made = bind_ok told.0 (λ v. Ok (shape.make v (unknown_bytes_of shape.rows.is_known found.0))) x told.2 in
    let same : shape.make made.0 (unknown_bytes_of shape.rows.is_known found.0) ≡ x = ok_is _ _ made.2 in
    let P : M → Type 0 = λ y. length (message_bytes (message shape) y) < 2 ^ 64 → value (message shape) (message_bytes (message shape) y ∷ []) ≡ Ok y in
    let were = joined_were_read shape.kind payloads found.0 each found.1 in
    let was : shape.rows.read shape.kind found.0 ≡ Ok (Ok made.0) = told.1 ∙ ap Ok made.1 in
    subst P same (made_again shape low high law l h holds found.0 made.0 were (law.fits shape.kind found.0 made.0 were was) (law.back shape.kind found.0 made.0 were was)) small

-- ---- the messages of the table

pub incrementality_lawful : (n : ℕ) → IsLawfulKind n incrementality
incrementality_lawful n = choice_lawful n incrementality_named incrementality_number (λ x. grind arith) (λ x. grind arith)

pub stop_relation_lawful : (n : ℕ) → IsLawfulKind n stop_relation
stop_relation_lawful n = choice_lawful n stop_relation_named stop_relation_number (λ x. grind arith) (λ x. grind arith)

pub trip_relation_lawful : (n : ℕ) → IsLawfulKind n trip_relation
trip_relation_lawful n = choice_lawful n trip_relation_named trip_relation_number (λ x. grind arith) (λ x. grind arith)

pub stop_status_lawful : (n : ℕ) → IsLawfulKind n stop_status
stop_status_lawful n = choice_lawful n stop_status_named stop_status_number (λ x. grind arith) (λ x. grind arith)

pub cause_lawful : (n : ℕ) → IsLawfulKind n cause
cause_lawful n = choice_lawful n cause_named cause_number (λ x. grind arith) (λ x. grind arith)

pub effect_lawful : (n : ℕ) → IsLawfulKind n effect
effect_lawful n = choice_lawful n effect_named effect_number (λ x. grind arith) (λ x. grind arith)

pub trip_descriptor_rereads : Rereads trip_descriptor
trip_descriptor_rereads =
    message_rereads trip_descriptor_shape 1 6 (lit≤ tt) (lit≤ tt) (λ v unknown. (refl, refl))
    (joined_lawful (optional_lawful (text_lawful 1))
    (joined_lawful (optional_lawful (text_lawful 2))
    (joined_lawful (optional_lawful (text_lawful 3))
    (joined_lawful (optional_lawful (trip_relation_lawful 4))
    (joined_lawful (optional_lawful (text_lawful 5))
    (optional_lawful (u32_lawful 6)) (lit< tt)) (lit< tt)) (lit< tt)) (lit< tt)) (lit< tt))

pub vehicle_descriptor_rereads : Rereads vehicle_descriptor
vehicle_descriptor_rereads =
    message_rereads vehicle_descriptor_shape 1 3 (lit≤ tt) (lit≤ tt) (λ v unknown. (refl, refl))
    (joined_lawful (optional_lawful (text_lawful 1))
    (joined_lawful (optional_lawful (text_lawful 2))
    (optional_lawful (text_lawful 3)) (lit< tt)) (lit< tt))

pub stop_time_event_rereads : Rereads stop_time_event
stop_time_event_rereads =
    message_rereads stop_time_event_shape 1 3 (lit≤ tt) (lit≤ tt) (λ v unknown. (refl, refl))
    (joined_lawful (optional_lawful (i32_lawful 1))
    (joined_lawful (optional_lawful (i64_lawful 2))
    (optional_lawful (i32_lawful 3)) (lit< tt)) (lit< tt))

pub stop_time_properties_rereads : Rereads stop_time_properties
stop_time_properties_rereads =
    message_rereads stop_time_properties_shape 1 1 (lit≤ tt) (lit≤ tt) (λ v unknown. (refl, refl))
    (optional_lawful (text_lawful 1))

pub stop_time_update_rereads : Rereads stop_time_update
stop_time_update_rereads =
    message_rereads stop_time_update_shape 1 6 (lit≤ tt) (lit≤ tt) (λ v unknown. (refl, refl))
    (joined_lawful (optional_lawful (u32_lawful 1))
    (joined_lawful (optional_lawful (embedded_lawful 2 stop_time_event stop_time_event_rereads))
    (joined_lawful (optional_lawful (embedded_lawful 3 stop_time_event stop_time_event_rereads))
    (joined_lawful (optional_lawful (text_lawful 4))
    (joined_lawful (optional_lawful (stop_relation_lawful 5))
    (optional_lawful (embedded_lawful 6 stop_time_properties stop_time_properties_rereads)) (lit< tt)) (lit< tt)) (lit< tt)) (lit< tt)) (lit< tt))

pub trip_update_rereads : Rereads trip_update
trip_update_rereads =
    message_rereads trip_update_shape 1 5 (lit≤ tt) (lit≤ tt) (λ v unknown. (refl, refl))
    (joined_lawful (required_lawful (embedded_lawful 1 trip_descriptor trip_descriptor_rereads))
    (joined_lawful (repeated_lawful 2 stop_time_update stop_time_update_rereads)
    (joined_lawful (optional_lawful (embedded_lawful 3 vehicle_descriptor vehicle_descriptor_rereads))
    (joined_lawful (optional_lawful (u64_lawful 4))
    (optional_lawful (i32_lawful 5)) (lit< tt)) (lit< tt)) (lit< tt)) (lit< tt))

pub position_rereads : Rereads position
position_rereads =
    message_rereads position_shape 1 2 (lit≤ tt) (lit≤ tt) (λ v unknown. (refl, refl))
    (joined_lawful (required_lawful (degrees_lawful 1))
    (required_lawful (degrees_lawful 2)) (lit< tt))

pub vehicle_position_rereads : Rereads vehicle_position
vehicle_position_rereads =
    message_rereads vehicle_position_shape 1 8 (lit≤ tt) (lit≤ tt) (λ v unknown. (refl, refl))
    (joined_lawful (optional_lawful (embedded_lawful 1 trip_descriptor trip_descriptor_rereads))
    (joined_lawful (optional_lawful (embedded_lawful 2 position position_rereads))
    (joined_lawful (optional_lawful (u32_lawful 3))
    (joined_lawful (optional_lawful (stop_status_lawful 4))
    (joined_lawful (optional_lawful (u64_lawful 5))
    (joined_lawful (optional_lawful (text_lawful 7))
    (optional_lawful (embedded_lawful 8 vehicle_descriptor vehicle_descriptor_rereads)) (lit< tt)) (lit< tt)) (lit< tt)) (lit< tt)) (lit< tt)) (lit< tt))

pub time_range_rereads : Rereads time_range
time_range_rereads =
    message_rereads time_range_shape 1 2 (lit≤ tt) (lit≤ tt) (λ v unknown. (refl, refl))
    (joined_lawful (optional_lawful (u64_lawful 1))
    (optional_lawful (u64_lawful 2)) (lit< tt))

pub entity_selector_rereads : Rereads entity_selector
entity_selector_rereads =
    message_rereads entity_selector_shape 1 6 (lit≤ tt) (lit≤ tt) (λ v unknown. (refl, refl))
    (joined_lawful (optional_lawful (text_lawful 1))
    (joined_lawful (optional_lawful (text_lawful 2))
    (joined_lawful (optional_lawful (i32_lawful 3))
    (joined_lawful (optional_lawful (embedded_lawful 4 trip_descriptor trip_descriptor_rereads))
    (joined_lawful (optional_lawful (text_lawful 5))
    (optional_lawful (u32_lawful 6)) (lit< tt)) (lit< tt)) (lit< tt)) (lit< tt)) (lit< tt))

pub translation_rereads : Rereads translation
translation_rereads =
    message_rereads translation_shape 1 2 (lit≤ tt) (lit≤ tt) (λ v unknown. (refl, refl))
    (joined_lawful (required_lawful (text_lawful 1))
    (optional_lawful (text_lawful 2)) (lit< tt))

pub translated_string_rereads : Rereads translated_string
translated_string_rereads =
    message_rereads translated_string_shape 1 1 (lit≤ tt) (lit≤ tt) (λ v unknown. (refl, refl))
    (repeated_lawful 1 translation translation_rereads)

pub alert_rereads : Rereads alert
alert_rereads =
    message_rereads alert_shape 1 11 (lit≤ tt) (lit≤ tt) (λ v unknown. (refl, refl))
    (joined_lawful (repeated_lawful 1 time_range time_range_rereads)
    (joined_lawful (repeated_lawful 5 entity_selector entity_selector_rereads)
    (joined_lawful (optional_lawful (cause_lawful 6))
    (joined_lawful (optional_lawful (effect_lawful 7))
    (joined_lawful (optional_lawful (embedded_lawful 10 translated_string translated_string_rereads))
    (optional_lawful (embedded_lawful 11 translated_string translated_string_rereads)) (lit< tt)) (lit< tt)) (lit< tt)) (lit< tt)) (lit< tt))

pub header_law : IsLawful 1 3 header_shape.rows
header_law =
    joined_lawful (required_lawful (text_lawful 1))
    (joined_lawful (optional_lawful (incrementality_lawful 2))
    (optional_lawful (u64_lawful 3)) (lit< tt)) (lit< tt)

pub header_rereads : Rereads header
header_rereads = message_rereads header_shape 1 3 (lit≤ tt) (lit≤ tt) (λ v unknown. (refl, refl)) header_law

-- the fields of an entity behind its id
abbrev pub told_rows : Rows (Option Bool × (Option TripUpdate × (Option Vehicle × Option Alert)))
told_rows = optional 2 bool ⊕ optional 3 (embedded trip_update) ⊕ optional 4 (embedded vehicle_position) ⊕ optional 5 (embedded alert)

pub told_law : IsLawful 2 5 told_rows
told_law =
    joined_lawful (optional_lawful (bool_lawful 2))
    (joined_lawful (optional_lawful (embedded_lawful 3 trip_update trip_update_rereads))
    (joined_lawful (optional_lawful (embedded_lawful 4 vehicle_position vehicle_position_rereads))
    (optional_lawful (embedded_lawful 5 alert alert_rereads)) (lit< tt)) (lit< tt)) (lit< tt)

pub entity_law : IsLawful 1 5 entity_shape.rows
entity_law = joined_lawful (required_lawful (text_lawful 1)) told_law (lit< tt)

pub entity_rereads : Rereads entity
entity_rereads = message_rereads entity_shape 1 5 (lit≤ tt) (lit≤ tt) (λ v unknown. (refl, refl)) entity_law

pub feed_rereads : Rereads feed
feed_rereads =
    message_rereads feed_shape 1 2 (lit≤ tt) (lit≤ tt) (λ v unknown. (refl, refl))
    (joined_lawful (required_lawful (embedded_lawful 1 header header_rereads))
    (numbered_lawful 2 entity entity_rereads) (lit< tt))

-- what is written of a message that was read reads as that message
pub read_again : (bytes : List ℕ) (m : FeedMessage) → AreBytes bytes → read bytes ≡ Ok m → length (write m) < 2 ^ 64 → read (write m) ≡ Ok m
unfolding read write
read_again bytes m fits e small = feed_rereads (bytes ∷ []) m (fits, tt) e small
