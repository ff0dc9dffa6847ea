-- The messages of GTFS Realtime 2.0 with the fields that the hub knows (gtfs-realtime.proto), and
-- the message of a byte list.
use Rattle.std.specs.Prelude.{ℕ, ℤ, List, [], ◌∷◌, Option, Result, Bool}
use Rattle.rt_types.specs.declared.enums.Incrementality.{Incrementality}
use Rattle.rt_types.specs.declared.enums.StopRelation.{StopRelation}
use Rattle.rt_types.specs.declared.enums.TripRelation.{TripRelation}
use Rattle.rt_types.specs.declared.enums.StopStatus.{StopStatus}
use Rattle.rt_types.specs.declared.enums.Cause.{Cause}
use Rattle.rt_types.specs.declared.enums.Effect.{Effect}
use Rattle.rt_types.specs.declared.fault.Kind.TheVariants as kind
use Rattle.rt_types.specs.declared.alert.Alert.{Alert}
use Rattle.rt_types.specs.declared.alert.Period.{Period}
use Rattle.rt_types.specs.declared.alert.Selector.{Selector}
use Rattle.rt_types.specs.declared.alert.Translated.{Translated}
use Rattle.rt_types.specs.declared.alert.Translation.{Translation}
use Rattle.rt_types.specs.declared.descriptor.TripRef.{TripRef}
use Rattle.rt_types.specs.declared.message.Entity.{Entity}
use Rattle.rt_types.specs.declared.message.FeedMessage.{FeedMessage}
use Rattle.rt_types.specs.declared.message.Header.{Header}
use Rattle.rt_types.specs.declared.trip_update.Event.{Event}
use Rattle.rt_types.specs.declared.trip_update.StopProps.{StopProps}
use Rattle.rt_types.specs.declared.trip_update.StopUpdate.{StopUpdate}
use Rattle.rt_types.specs.declared.trip_update.TripUpdate.{TripUpdate}
use Rattle.rt_types.specs.declared.vehicle.Position.{Position}
use Rattle.rt_types.specs.declared.vehicle.Vehicle.{Vehicle}
use Rattle.rt_types.specs.declared.vehicle.VehicleRef.{VehicleRef}
use Rattle.rt_types.specs.declared.vehicle.Degrees.{Degrees}
use Rattle.feed_defs.specs.Enums.{incrementality, stop_relation, trip_relation, stop_status, cause, effect}
use Rattle.feed_defs.specs.Rows.{Fault, Message, Shape, u32, u64, i32, i64, bool, degrees, text, embedded, optional, required, repeated, numbered, ◌⊕◌, message, value, message_bytes}

-- TripDescriptor
abbrev pub trip_descriptor_shape : Shape TripRef (Option (List ℕ)
    × (Option (List ℕ) × (Option (List ℕ) × (Option TripRelation × (Option (List ℕ) × Option ℕ)))))
trip_descriptor_shape = record {
  kind = kind.TripDescriptor;
  rows = optional 1 text ⊕ optional 2 text ⊕ optional 3 text ⊕ optional 4 trip_relation
      ⊕ optional 5 text ⊕ optional 6 u32;
  make = λ (
    trip_id,
    (
      start_time,
      (
        start_date,
        (relation, (route_id, direction_id)),
      ),
    ),
  ) unknown. record {
    trip_id = trip_id;
    start_time = start_time;
    start_date = start_date;
    relation = relation;
    route_id = route_id;
    direction_id = direction_id;
    unknown = unknown;
  };
  values = λ m. (
    m.trip_id,
    (
      m.start_time,
      (m.start_date, (m.relation, (m.route_id, m.direction_id))),
    ),
  );
  unknown = λ m. m.unknown;
}

abbrev pub trip_descriptor : Message TripRef
trip_descriptor = message trip_descriptor_shape

-- VehicleDescriptor
abbrev pub vehicle_descriptor_shape : Shape VehicleRef (Option (List ℕ)
    × (Option (List ℕ) × Option (List ℕ)))
vehicle_descriptor_shape = record {
  kind = kind.VehicleDescriptor;
  rows = optional 1 text ⊕ optional 2 text ⊕ optional 3 text;
  make = λ (id, (label, license_plate)) unknown. record {
    id = id;
    label = label;
    license_plate = license_plate;
    unknown = unknown;
  };
  values = λ m. (m.id, (m.label, m.license_plate));
  unknown = λ m. m.unknown;
}

abbrev pub vehicle_descriptor : Message VehicleRef
vehicle_descriptor = message vehicle_descriptor_shape

-- StopTimeEvent
abbrev pub stop_time_event_shape : Shape Event (Option ℤ × (Option ℤ × Option ℤ))
stop_time_event_shape = record {
  kind = kind.StopTimeEvent;
  rows = optional 1 i32 ⊕ optional 2 i64 ⊕ optional 3 i32;
  make = λ (delay, (time, uncertainty)) unknown. record {
    delay = delay;
    time = time;
    uncertainty = uncertainty;
    unknown = unknown;
  };
  values = λ m. (m.delay, (m.time, m.uncertainty));
  unknown = λ m. m.unknown;
}

abbrev pub stop_time_event : Message Event
stop_time_event = message stop_time_event_shape

-- StopTimeProperties
abbrev pub stop_time_properties_shape : Shape StopProps (Option (List ℕ))
stop_time_properties_shape = record {
  kind = kind.StopTimeProperties;
  rows = optional 1 text;
  make = λ assigned_stop_id unknown. record {
    assigned_stop_id = assigned_stop_id;
    unknown = unknown;
  };
  values = λ m. m.assigned_stop_id;
  unknown = λ m. m.unknown;
}

abbrev pub stop_time_properties : Message StopProps
stop_time_properties = message stop_time_properties_shape

-- StopTimeUpdate
abbrev pub stop_time_update_shape : Shape StopUpdate (Option ℕ
    × (Option Event × (Option Event × (Option (List ℕ)
    × (Option StopRelation × Option StopProps)))))
stop_time_update_shape = record {
  kind = kind.StopTimeUpdate;
  rows = optional 1 u32 ⊕ optional 2 (embedded stop_time_event)
      ⊕ optional 3 (embedded stop_time_event) ⊕ optional 4 text ⊕ optional 5 stop_relation
      ⊕ optional 6 (embedded stop_time_properties);
  make = λ (
    stop_sequence,
    (
      arrival,
      (
        departure,
        (stop_id, (relation, properties)),
      ),
    ),
  ) unknown. record {
    stop_sequence = stop_sequence;
    arrival = arrival;
    departure = departure;
    stop_id = stop_id;
    relation = relation;
    properties = properties;
    unknown = unknown;
  };
  values = λ m. (
    m.stop_sequence,
    (
      m.arrival,
      (m.departure, (m.stop_id, (m.relation, m.properties))),
    ),
  );
  unknown = λ m. m.unknown;
}

abbrev pub stop_time_update : Message StopUpdate
stop_time_update = message stop_time_update_shape

-- TripUpdate
abbrev pub trip_update_shape : Shape TripUpdate (TripRef
    × (List StopUpdate × (Option VehicleRef × (Option ℕ × Option ℤ))))
trip_update_shape = record {
  kind = kind.TripUpdate;
  rows = required 1 (embedded trip_descriptor) ⊕ repeated 2 stop_time_update
      ⊕ optional 3 (embedded vehicle_descriptor) ⊕ optional 4 u64 ⊕ optional 5 i32;
  make = λ (trip, (stop_time_update, (vehicle, (timestamp, delay)))) unknown. record {
    trip = trip;
    stop_time_update = stop_time_update;
    vehicle = vehicle;
    timestamp = timestamp;
    delay = delay;
    unknown = unknown;
  };
  values = λ m. (m.trip, (m.stop_time_update, (m.vehicle, (m.timestamp, m.delay))));
  unknown = λ m. m.unknown;
}

abbrev pub trip_update : Message TripUpdate
trip_update = message trip_update_shape

-- Position
abbrev pub position_shape : Shape Position (Degrees × Degrees)
position_shape = record {
  kind = kind.Position;
  rows = required 1 degrees ⊕ required 2 degrees;
  make = λ (latitude, longitude) unknown. record {
    latitude = latitude;
    longitude = longitude;
    unknown = unknown;
  };
  values = λ m. (m.latitude, m.longitude);
  unknown = λ m. m.unknown;
}

abbrev pub position : Message Position
position = message position_shape

-- VehiclePosition
abbrev pub vehicle_position_shape : Shape Vehicle (Option TripRef
    × (Option Position × (Option ℕ × (Option StopStatus
    × (Option ℕ × (Option (List ℕ) × Option VehicleRef))))))
vehicle_position_shape = record {
  kind = kind.VehiclePosition;
  rows = optional 1 (embedded trip_descriptor) ⊕ optional 2 (embedded position) ⊕ optional 3 u32
      ⊕ optional 4 stop_status ⊕ optional 5 u64 ⊕ optional 7 text
      ⊕ optional 8 (embedded vehicle_descriptor);
  make = λ (
    trip,
    (
      position,
      (
        current_stop_sequence,
        (current_status, (timestamp, (stop_id, vehicle))),
      ),
    ),
  ) unknown. record {
    trip = trip;
    position = position;
    current_stop_sequence = current_stop_sequence;
    current_status = current_status;
    timestamp = timestamp;
    stop_id = stop_id;
    vehicle = vehicle;
    unknown = unknown;
  };
  values = λ m. (
    m.trip,
    (
      m.position,
      (
        m.current_stop_sequence,
        (m.current_status, (m.timestamp, (m.stop_id, m.vehicle))),
      ),
    ),
  );
  unknown = λ m. m.unknown;
}

abbrev pub vehicle_position : Message Vehicle
vehicle_position = message vehicle_position_shape

-- TimeRange
abbrev pub time_range_shape : Shape Period (Option ℕ × Option ℕ)
time_range_shape = record {
  kind = kind.TimeRange;
  rows = optional 1 u64 ⊕ optional 2 u64;
  make = λ (start, end) unknown. record { start = start; end = end; unknown = unknown };
  values = λ m. (m.start, m.end);
  unknown = λ m. m.unknown;
}

abbrev pub time_range : Message Period
time_range = message time_range_shape

-- EntitySelector
abbrev pub entity_selector_shape : Shape Selector (Option (List ℕ)
    × (Option (List ℕ) × (Option ℤ × (Option TripRef × (Option (List ℕ) × Option ℕ)))))
entity_selector_shape = record {
  kind = kind.EntitySelector;
  rows = optional 1 text ⊕ optional 2 text ⊕ optional 3 i32 ⊕ optional 4 (embedded trip_descriptor)
      ⊕ optional 5 text ⊕ optional 6 u32;
  make = λ (
    agency_id,
    (
      route_id,
      (
        route_type,
        (trip, (stop_id, direction_id)),
      ),
    ),
  ) unknown. record {
    agency_id = agency_id;
    route_id = route_id;
    route_type = route_type;
    trip = trip;
    stop_id = stop_id;
    direction_id = direction_id;
    unknown = unknown;
  };
  values = λ m. (m.agency_id, (m.route_id, (m.route_type, (m.trip, (m.stop_id, m.direction_id)))));
  unknown = λ m. m.unknown;
}

abbrev pub entity_selector : Message Selector
entity_selector = message entity_selector_shape

-- Translation
abbrev pub translation_shape : Shape Translation (List ℕ × Option (List ℕ))
translation_shape = record {
  kind = kind.Translation;
  rows = required 1 text ⊕ optional 2 text;
  make = λ (text, language) unknown. record { text = text; language = language; unknown = unknown };
  values = λ m. (m.text, m.language);
  unknown = λ m. m.unknown;
}

abbrev pub translation : Message Translation
translation = message translation_shape

-- TranslatedString
abbrev pub translated_string_shape : Shape Translated (List Translation)
translated_string_shape = record {
  kind = kind.TranslatedString;
  rows = repeated 1 translation;
  make = λ translation unknown. record { translation = translation; unknown = unknown };
  values = λ m. m.translation;
  unknown = λ m. m.unknown;
}

abbrev pub translated_string : Message Translated
translated_string = message translated_string_shape

-- Alert
abbrev pub alert_shape : Shape Alert (List Period
    × (List Selector × (Option Cause × (Option Effect × (Option Translated × Option Translated)))))
alert_shape = record {
  kind = kind.Alert;
  rows = repeated 1 time_range ⊕ repeated 5 entity_selector ⊕ optional 6 cause ⊕ optional 7 effect
      ⊕ optional 10 (embedded translated_string) ⊕ optional 11 (embedded translated_string);
  make = λ (
    active_period,
    (
      informed_entity,
      (
        cause,
        (
          effect,
          (header_text, description_text),
        ),
      ),
    ),
  ) unknown. record {
    active_period = active_period;
    informed_entity = informed_entity;
    cause = cause;
    effect = effect;
    header_text = header_text;
    description_text = description_text;
    unknown = unknown;
  };
  values = λ m. (
    m.active_period,
    (
      m.informed_entity,
      (m.cause, (m.effect, (m.header_text, m.description_text))),
    ),
  );
  unknown = λ m. m.unknown;
}

abbrev pub alert : Message Alert
alert = message alert_shape

-- FeedHeader
abbrev pub header_shape : Shape Header (List ℕ × (Option Incrementality × Option ℕ))
header_shape = record {
  kind = kind.FeedHeader;
  rows = required 1 text ⊕ optional 2 incrementality ⊕ optional 3 u64;
  make = λ (version, (incrementality, timestamp)) unknown. record {
    version = version;
    incrementality = incrementality;
    timestamp = timestamp;
    unknown = unknown;
  };
  values = λ m. (m.version, (m.incrementality, m.timestamp));
  unknown = λ m. m.unknown;
}

abbrev pub header : Message Header
header = message header_shape

-- FeedEntity
abbrev pub entity_shape : Shape Entity (List ℕ
    × (Option Bool × (Option TripUpdate × (Option Vehicle × Option Alert))))
entity_shape = record {
  kind = kind.FeedEntity;
  rows = required 1 text ⊕ optional 2 bool ⊕ optional 3 (embedded trip_update)
      ⊕ optional 4 (embedded vehicle_position) ⊕ optional 5 (embedded alert);
  make = λ (id, (is_deleted, (trip_update, (vehicle, alert)))) unknown. record {
    id = id;
    is_deleted = is_deleted;
    trip_update = trip_update;
    vehicle = vehicle;
    alert = alert;
    unknown = unknown;
  };
  values = λ m. (m.id, (m.is_deleted, (m.trip_update, (m.vehicle, m.alert))));
  unknown = λ m. m.unknown;
}

abbrev pub entity : Message Entity
entity = message entity_shape

-- FeedMessage
abbrev pub feed_shape : Shape FeedMessage (Header × List Entity)
feed_shape = record {
  kind = kind.FeedMessage;
  rows = required 1 (embedded header) ⊕ numbered 2 entity;
  make = λ (header, entity) unknown. record { header = header; entity = entity; unknown = unknown };
  values = λ m. (m.header, m.entity);
  unknown = λ m. m.unknown;
}

abbrev pub feed : Message FeedMessage
feed = message feed_shape

-- the message of a byte list, or its first fault
unfoldable pub read : List ℕ → Result FeedMessage Fault
read bytes = value feed (bytes ∷ [])

-- the bytes of a message
unfoldable pub write : FeedMessage → List ℕ
write m = message_bytes feed m
