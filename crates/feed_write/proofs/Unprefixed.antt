-- Renaming under an empty prefix changes nothing.
use Rattle.std.proofs.Common.{◌≡◌, ℕ, Some, None, List, [], ◌∷◌, map, refl, ap, ◌∙◌}
use Rattle.std.specs.Prelude.{Option}
use Rattle.std.specs.Option.{option_map}
use Rattle.rt_types.specs.declared.alert.Alert.{Alert}
use Rattle.rt_types.specs.declared.alert.Selector.{Selector}
use Rattle.rt_types.specs.declared.descriptor.TripRef.{TripRef}
use Rattle.rt_types.specs.declared.message.Entity.{Entity}
use Rattle.rt_types.specs.declared.message.FeedMessage.{FeedMessage}
use Rattle.rt_types.specs.declared.trip_update.StopProps.{StopProps}
use Rattle.rt_types.specs.declared.trip_update.StopUpdate.{StopUpdate}
use Rattle.rt_types.specs.declared.trip_update.TripUpdate.{TripUpdate}
use Rattle.rt_types.specs.declared.vehicle.Vehicle.{Vehicle}
use Rattle.feed_defs.specs.Renamed.{prefixed, renamed_trip, renamed_properties, renamed_stop, renamed_update, renamed_vehicle, renamed_selector, renamed_alert, renamed_entity}
use Rattle.feed_write.specs.Entities.{renamed_message}

-- ---- what changes no value changes no option and no list of them
pub each_same : {A : Type 0} (f : A → A) → ((x : A) → f x ≡ x) → (o : Option A) → option_map f o ≡ o
each_same f same None = refl
each_same f same (Some x) = ap (λ y. Some y) (same x)

pub all_same : {A : Type 0} (f : A → A) → ((x : A) → f x ≡ x) → (xs : List A) → map f xs ≡ xs
all_same f same [] = refl
all_same f same (x ∷ xs) = ap (λ y. y ∷ map f xs) (same x) ∙ ap (λ ys. x ∷ ys) (all_same f same xs)

-- ---- message by message
id_same : (id : List ℕ) → prefixed [] id ≡ id
id_same [] = refl
id_same (byte ∷ id) = refl

ids_same : (id : Option (List ℕ)) → option_map (prefixed []) id ≡ id
ids_same id = each_same (prefixed []) id_same id

trip_same : (m : TripRef) → renamed_trip [] m ≡ m
trip_same m =
    ap (λ id. record m { trip_id = id; route_id = option_map (prefixed []) m.route_id }) (ids_same m.trip_id)
    ∙ ap (λ id. record m { route_id = id }) (ids_same m.route_id)

properties_same : (m : StopProps) → renamed_properties [] m ≡ m
properties_same m = ap (λ id. record m { assigned_stop_id = id }) (ids_same m.assigned_stop_id)

stop_same : (m : StopUpdate) → renamed_stop [] m ≡ m
stop_same m =
    ap (λ id. record m { stop_id = id; properties = option_map (renamed_properties []) m.properties }) (ids_same m.stop_id)
    ∙ ap (λ properties. record m { properties = properties }) (each_same (renamed_properties []) properties_same m.properties)

update_same : (m : TripUpdate) → renamed_update [] m ≡ m
update_same m =
    ap (λ trip. record m { trip = trip; stop_time_update = map (renamed_stop []) m.stop_time_update }) (trip_same m.trip)
    ∙ ap (λ stops. record m { stop_time_update = stops }) (all_same (renamed_stop []) stop_same m.stop_time_update)

vehicle_same : (m : Vehicle) → renamed_vehicle [] m ≡ m
vehicle_same m =
    ap (λ trip. record m { trip = trip; stop_id = option_map (prefixed []) m.stop_id }) (each_same (renamed_trip []) trip_same m.trip)
    ∙ ap (λ id. record m { stop_id = id }) (ids_same m.stop_id)

selector_same : (m : Selector) → renamed_selector [] m ≡ m
selector_same m =
    ap (λ id. record m { agency_id = id; route_id = option_map (prefixed []) m.route_id; trip = option_map (renamed_trip []) m.trip; stop_id = option_map (prefixed []) m.stop_id }) (ids_same m.agency_id)
    ∙ ap (λ id. record m { route_id = id; trip = option_map (renamed_trip []) m.trip; stop_id = option_map (prefixed []) m.stop_id }) (ids_same m.route_id)
    ∙ ap (λ trip. record m { trip = trip; stop_id = option_map (prefixed []) m.stop_id }) (each_same (renamed_trip []) trip_same m.trip)
    ∙ ap (λ id. record m { stop_id = id }) (ids_same m.stop_id)

alert_same : (m : Alert) → renamed_alert [] m ≡ m
alert_same m = ap (λ selectors. record m { informed_entity = selectors }) (all_same (renamed_selector []) selector_same m.informed_entity)

pub entity_same : (m : Entity) → renamed_entity [] m ≡ m
entity_same m =
    ap (λ update. record m { trip_update = update; vehicle = option_map (renamed_vehicle []) m.vehicle; alert = option_map (renamed_alert []) m.alert }) (each_same (renamed_update []) update_same m.trip_update)
    ∙ ap (λ vehicle. record m { vehicle = vehicle; alert = option_map (renamed_alert []) m.alert }) (each_same (renamed_vehicle []) vehicle_same m.vehicle)
    ∙ ap (λ alert. record m { alert = alert }) (each_same (renamed_alert []) alert_same m.alert)

pub message_same : (m : FeedMessage) → renamed_message [] m ≡ m
message_same m = ap (λ entities. record m { entity = entities }) (all_same (renamed_entity []) entity_same m.entity)
