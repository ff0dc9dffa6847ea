-- What a message says under a prefix and a feed's name is read again from the bytes that are written of it.
use Rattle.std.proofs.Common.{◌≡◌, ℕ, true, List, [], ◌++◌, refl, lit<, lit≤, codes, arith}
use Rattle.std.specs.Option.{option_map}
use Rattle.std.specs.Str.{is_utf8, chars}
use Rattle.std.proofs.lemmas.Str.{IsUtf8-append, IsUtf8-from_is_utf8, is_utf8-from_IsUtf8}
use Rattle.feed_defs.specs.Combined.{entity_under_feed}
use Rattle.feed_defs.specs.Renamed.{prefixed, renamed_trip, renamed_properties, renamed_stop, renamed_update, renamed_vehicle, renamed_selector, renamed_alert, renamed_entity}
use Rattle.feed_defs.specs.Rows.{text, embedded, optional}
use Rattle.feed_defs.specs.Table.{trip_descriptor_shape, trip_descriptor, vehicle_descriptor, stop_time_event, stop_time_properties_shape, stop_time_properties, stop_time_update_shape, stop_time_update, trip_update_shape, trip_update, position, vehicle_position_shape, vehicle_position, time_range, entity_selector_shape, entity_selector, translated_string, alert_shape, alert, entity_shape, entity}
use Rattle.feed_defs.proofs.FieldKinds.{text_lawful, u32_lawful, u64_lawful, i32_lawful, bool_lawful, embedded_lawful}
use Rattle.feed_defs.proofs.RowLaws.{optional_lawful, repeated_lawful}
use Rattle.feed_defs.proofs.Rereading.{trip_relation_lawful, stop_relation_lawful, stop_status_lawful, cause_lawful, effect_lawful, trip_descriptor_rereads, vehicle_descriptor_rereads, stop_time_event_rereads, stop_time_properties_rereads, stop_time_update_rereads, trip_update_rereads, position_rereads, vehicle_position_rereads, time_range_rereads, entity_selector_rereads, translated_string_rereads, alert_rereads}
use Rattle.feed_defs.proofs.Under.{RereadsUnder, RowsUnder, text_under, embedded_under, unchanged, optional_under, required_under, repeated_under, joined_under, message_under}

-- two texts after one another are one
pub texts_joined : (a b : List ℕ) → is_utf8 a ≡ true → is_utf8 b ≡ true → is_utf8 (a ++ b) ≡ true
texts_joined a b e f = is_utf8-from_IsUtf8 (a ++ b) (IsUtf8-append a b (IsUtf8-from_is_utf8 a e) (IsUtf8-from_is_utf8 b f))

none_is_text : is_utf8 [] ≡ true
unfolding is_utf8 chars
none_is_text = refl

module _ (prefix : List ℕ) (is_text : is_utf8 prefix ≡ true) where
  stays_text : (id : List ℕ) → is_utf8 id ≡ true → is_utf8 (prefixed prefix id) ≡ true
  stays_text id e = grind (arith, none_is_text, texts_joined prefix id is_text e)

  id_if : (n : ℕ) → RowsUnder n n (optional n text) (option_map (prefixed prefix))
  id_if n = optional_under n text (prefixed prefix) (text_under n (prefixed prefix) stays_text)

  pub trip_under : RereadsUnder trip_descriptor (renamed_trip prefix)
  trip_under =
      message_under trip_descriptor_shape 1 6 (renamed_trip prefix)
      (joined_under (id_if 1)
      (joined_under (unchanged (optional_lawful (text_lawful 2)))
      (joined_under (unchanged (optional_lawful (text_lawful 3)))
      (joined_under (unchanged (optional_lawful (trip_relation_lawful 4)))
      (joined_under (id_if 5)
      (unchanged (optional_lawful (u32_lawful 6))) (lit< tt)) (lit< tt)) (lit< tt)) (lit< tt)) (lit< tt))
      (lit≤ tt) (lit≤ tt) (λ v unknown. (refl, refl)) (λ v unknown. refl)

  pub properties_under : RereadsUnder stop_time_properties (renamed_properties prefix)
  properties_under =
      message_under stop_time_properties_shape 1 1 (renamed_properties prefix) (id_if 1)
      (lit≤ tt) (lit≤ tt) (λ v unknown. (refl, refl)) (λ v unknown. refl)

  pub stop_under : RereadsUnder stop_time_update (renamed_stop prefix)
  stop_under =
      message_under stop_time_update_shape 1 6 (renamed_stop prefix)
      (joined_under (unchanged (optional_lawful (u32_lawful 1)))
      (joined_under (unchanged (optional_lawful (embedded_lawful 2 stop_time_event stop_time_event_rereads)))
      (joined_under (unchanged (optional_lawful (embedded_lawful 3 stop_time_event stop_time_event_rereads)))
      (joined_under (id_if 4)
      (joined_under (unchanged (optional_lawful (stop_relation_lawful 5)))
      (optional_under 6 (embedded stop_time_properties) (renamed_properties prefix) (embedded_under 6 stop_time_properties (renamed_properties prefix) stop_time_properties_rereads properties_under)) (lit< tt)) (lit< tt)) (lit< tt)) (lit< tt)) (lit< tt))
      (lit≤ tt) (lit≤ tt) (λ v unknown. (refl, refl)) (λ v unknown. refl)

  pub update_under : RereadsUnder trip_update (renamed_update prefix)
  update_under =
      message_under trip_update_shape 1 5 (renamed_update prefix)
      (joined_under (required_under 1 (embedded trip_descriptor) (renamed_trip prefix) (embedded_under 1 trip_descriptor (renamed_trip prefix) trip_descriptor_rereads trip_under))
      (joined_under (repeated_under 2 stop_time_update (renamed_stop prefix) stop_time_update_rereads stop_under)
      (joined_under (unchanged (optional_lawful (embedded_lawful 3 vehicle_descriptor vehicle_descriptor_rereads)))
      (joined_under (unchanged (optional_lawful (u64_lawful 4)))
      (unchanged (optional_lawful (i32_lawful 5))) (lit< tt)) (lit< tt)) (lit< tt)) (lit< tt))
      (lit≤ tt) (lit≤ tt) (λ v unknown. (refl, refl)) (λ v unknown. refl)

  pub vehicle_under : RereadsUnder vehicle_position (renamed_vehicle prefix)
  vehicle_under =
      message_under vehicle_position_shape 1 8 (renamed_vehicle prefix)
      (joined_under (optional_under 1 (embedded trip_descriptor) (renamed_trip prefix) (embedded_under 1 trip_descriptor (renamed_trip prefix) trip_descriptor_rereads trip_under))
      (joined_under (unchanged (optional_lawful (embedded_lawful 2 position position_rereads)))
      (joined_under (unchanged (optional_lawful (u32_lawful 3)))
      (joined_under (unchanged (optional_lawful (stop_status_lawful 4)))
      (joined_under (unchanged (optional_lawful (u64_lawful 5)))
      (joined_under (id_if 7)
      (unchanged (optional_lawful (embedded_lawful 8 vehicle_descriptor vehicle_descriptor_rereads))) (lit< tt)) (lit< tt)) (lit< tt)) (lit< tt)) (lit< tt)) (lit< tt))
      (lit≤ tt) (lit≤ tt) (λ v unknown. (refl, refl)) (λ v unknown. refl)

  pub selector_under : RereadsUnder entity_selector (renamed_selector prefix)
  selector_under =
      message_under entity_selector_shape 1 6 (renamed_selector prefix)
      (joined_under (id_if 1)
      (joined_under (id_if 2)
      (joined_under (unchanged (optional_lawful (i32_lawful 3)))
      (joined_under (optional_under 4 (embedded trip_descriptor) (renamed_trip prefix) (embedded_under 4 trip_descriptor (renamed_trip prefix) trip_descriptor_rereads trip_under))
      (joined_under (id_if 5)
      (unchanged (optional_lawful (u32_lawful 6))) (lit< tt)) (lit< tt)) (lit< tt)) (lit< tt)) (lit< tt))
      (lit≤ tt) (lit≤ tt) (λ v unknown. (refl, refl)) (λ v unknown. refl)

  pub alert_under : RereadsUnder alert (renamed_alert prefix)
  alert_under =
      message_under alert_shape 1 11 (renamed_alert prefix)
      (joined_under (unchanged (repeated_lawful 1 time_range time_range_rereads))
      (joined_under (repeated_under 5 entity_selector (renamed_selector prefix) entity_selector_rereads selector_under)
      (joined_under (unchanged (optional_lawful (cause_lawful 6)))
      (joined_under (unchanged (optional_lawful (effect_lawful 7)))
      (joined_under (unchanged (optional_lawful (embedded_lawful 10 translated_string translated_string_rereads)))
      (unchanged (optional_lawful (embedded_lawful 11 translated_string translated_string_rereads))) (lit< tt)) (lit< tt)) (lit< tt)) (lit< tt)) (lit< tt))
      (lit≤ tt) (lit≤ tt) (λ v unknown. (refl, refl)) (λ v unknown. refl)

  -- an entity under its feed's name as well
  module _ (name : List ℕ) (is_name : is_utf8 (name ++ codes ":") ≡ true) where
    pub entity_under : RereadsUnder entity (λ e. entity_under_feed name (renamed_entity prefix e))
    entity_under =
        message_under entity_shape 1 5 (λ e. entity_under_feed name (renamed_entity prefix e))
        (joined_under (required_under 1 text (λ id. name ++ codes ":" ++ id) (text_under 1 (λ id. name ++ codes ":" ++ id) (λ id e. texts_joined (name ++ codes ":") id is_name e)))
        (joined_under (unchanged (optional_lawful (bool_lawful 2)))
        (joined_under (optional_under 3 (embedded trip_update) (renamed_update prefix) (embedded_under 3 trip_update (renamed_update prefix) trip_update_rereads update_under))
        (joined_under (optional_under 4 (embedded vehicle_position) (renamed_vehicle prefix) (embedded_under 4 vehicle_position (renamed_vehicle prefix) vehicle_position_rereads vehicle_under))
        (optional_under 5 (embedded alert) (renamed_alert prefix) (embedded_under 5 alert (renamed_alert prefix) alert_rereads alert_under)) (lit< tt)) (lit< tt)) (lit< tt)) (lit< tt))
        (lit≤ tt) (lit≤ tt) (λ v unknown. (refl, refl)) (λ v unknown. refl)
