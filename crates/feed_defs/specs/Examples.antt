-- Whole messages, computed by the definitions.
use Rattle.std.specs.Prelude.{◌≡◌, ℕ, List, [], ◌∷◌, map, Some, None, Result, Ok, Err, pos, negsuc, true, codes, refl}
use Rattle.std.specs.Str.{is_utf8, chars}
use lib.Utf8.{encode}
use Rattle.rt_types.specs.declared.alert.Alert.{Alert}
use Rattle.rt_types.specs.declared.message.FeedMessage.{FeedMessage}
use Rattle.rt_types.specs.declared.vehicle.Vehicle.{Vehicle}
use Rattle.rt_types.specs.declared.enums.Cause.TheVariants as cause
use Rattle.rt_types.specs.declared.enums.Effect.TheVariants as effect
use Rattle.rt_types.specs.declared.enums.StopRelation.TheVariants as stop_relation
use Rattle.rt_types.specs.declared.enums.StopStatus.TheVariants as status
use Rattle.rt_types.specs.declared.enums.TripRelation.TheVariants as relation
use Rattle.rt_types.specs.declared.fault.Kind.TheVariants as kind
use Rattle.rt_types.specs.declared.fault.What.TheVariants as what
use Rattle.pb_wire_defs.specs.Reading.{groups_at, varint_at, span_at, tag_at, payload_at, field_with, behind_end, group_at, field_at, fields_within, fields_of}
use Rattle.pb_wire_defs.specs.Writing.{groups, varint, payload_bytes, field_bytes}
use Rattle.feed_defs.specs.History.{is_full}
use Rattle.feed_defs.specs.Renamed.{renamed_entity, renamed_vehicle}
use Rattle.feed_defs.specs.Rows.{Fault, occurrences_of, last_of, unknown_bytes_of, fields_of_all, value, message_bytes, merged_message, values, numbered_values, fault}
use Rattle.feed_defs.specs.Table.{stop_time_event, stop_time_update, trip_descriptor, vehicle_position, alert, read, write}

-- a negative number in ten bytes
pub ten_bytes :
    value stop_time_event ((0x08 ∷ 0xc4 ∷ 0xff ∷ 0xff ∷ 0xff ∷ 0xff ∷ 0xff ∷ 0xff ∷ 0xff ∷ 0xff
    ∷ 0x01 ∷ []) ∷ []) ≡ Ok (record {
      delay = Some (negsuc 59);
      time = None;
      uncertainty = None;
      unknown = [];
    })
unfolding is_utf8 chars encode groups_at varint_at span_at tag_at payload_at field_with behind_end
    group_at field_at fields_within fields_of occurrences_of last_of unknown_bytes_of fields_of_all
    value merged_message values numbered_values read
ten_bytes = refl

-- the same, by its low 32 bits alone
pub five_bytes :
    value stop_time_event ((0x08 ∷ 0xc4 ∷ 0xff ∷ 0xff ∷ 0xff ∷ 0x0f ∷ []) ∷ []) ≡ Ok (record {
      delay = Some (negsuc 59);
      time = None;
      uncertainty = None;
      unknown = [];
    })
unfolding is_utf8 chars encode groups_at varint_at span_at tag_at payload_at field_with behind_end
    group_at field_at fields_within fields_of occurrences_of last_of unknown_bytes_of fields_of_all
    value merged_message values numbered_values read
five_bytes = refl

-- it is written in ten bytes
pub negative_written :
    message_bytes stop_time_event (record {
      delay = Some (negsuc 59);
      time = None;
      uncertainty =
          None;
      unknown = [];
    }) ≡ 0x08 ∷ 0xc4 ∷ 0xff ∷ 0xff ∷ 0xff ∷ 0xff ∷ 0xff ∷ 0xff ∷ 0xff ∷ 0xff
    ∷ 0x01 ∷ []
unfolding message_bytes field_bytes payload_bytes varint groups
negative_written = refl

-- two occurrences of an arrival are one: of each number the last counts, and unknown fields keep
-- their order
pub merged_arrival :
    value stop_time_update ((0x12 ∷ 0x04 ∷ 0x08 ∷ 0x01 ∷ 0x38 ∷ 0x01 ∷ 0x12 ∷ 0x06 ∷ 0x08 ∷ 0x02
    ∷ 0x10 ∷ 0x03 ∷ 0x40 ∷ 0x07 ∷ []) ∷ []) ≡ Ok (record {
      stop_sequence = None;
      arrival = Some
          (record {
            delay = Some (pos 2);
            time = Some (pos 3);
            uncertainty = None;
            unknown = (0x38 ∷
                0x01 ∷ 0x40 ∷ 0x07 ∷ []);
          });
      departure = None;
      stop_id = None;
      relation = None;
      properties =
          None;
      unknown = [];
    })
unfolding is_utf8 chars encode groups_at varint_at span_at tag_at payload_at field_with behind_end
    group_at field_at fields_within fields_of occurrences_of last_of unknown_bytes_of fields_of_all
    value merged_message values numbered_values read
merged_arrival = refl

-- a number that names no relation is an unknown field, and the one before it counts
pub unknown_relation :
    value stop_time_update ((0x28 ∷ 0x01 ∷ 0x28 ∷ 0x09 ∷ []) ∷ []) ≡ Ok (record {
      stop_sequence
          = None;
      arrival = None;
      departure = None;
      stop_id = None;
      relation = Some
          stop_relation.Skipped;
      properties = None;
      unknown = (0x28 ∷ 0x09 ∷ []);
    })
unfolding is_utf8 chars encode groups_at varint_at span_at tag_at payload_at field_with behind_end
    group_at field_at fields_within fields_of occurrences_of last_of unknown_bytes_of fields_of_all
    value merged_message values numbered_values read
unknown_relation = refl

-- REPLACEMENT has the number 5
pub replacement :
    value trip_descriptor ((0x20 ∷ 0x05 ∷ []) ∷ []) ≡ Ok (record {
      trip_id = None;
      start_time =
          None;
      start_date = None;
      relation = Some relation.Replacement;
      route_id = None;
      direction_id
          = None;
      unknown = [];
    })
unfolding is_utf8 chars encode groups_at varint_at span_at tag_at payload_at field_with behind_end
    group_at field_at fields_within fields_of occurrences_of last_of unknown_bytes_of fields_of_all
    value merged_message values numbered_values read
replacement = refl

-- and the number 4 names nothing
pub no_fourth :
    value trip_descriptor ((0x20 ∷ 0x04 ∷ []) ∷ []) ≡ Ok (record {
      trip_id = None;
      start_time =
          None;
      start_date = None;
      relation = None;
      route_id = None;
      direction_id = None;
      unknown =
          (0x20 ∷ 0x04 ∷ []);
    })
unfolding is_utf8 chars encode groups_at varint_at span_at tag_at payload_at field_with behind_end
    group_at field_at fields_within fields_of occurrences_of last_of unknown_bytes_of fields_of_all
    value merged_message values numbered_values read
no_fourth = refl

-- a vehicle with all that is known of it
abbrev pub bus : Vehicle
bus =
    record {
      trip = Some (record {
        trip_id = Some (codes "T");
        start_time = None;
        start_date =
            None;
        relation = None;
        route_id = None;
        direction_id = None;
        unknown = [];
      });
      position =
          Some (record {
            latitude = record { bits = 0x423e0000 };
            longitude = record {
              bits =
                  0xc1040000;
            };
            unknown = [];
          });
      current_stop_sequence = Some 3;
      current_status = Some
          status.InTransitTo;
      timestamp = Some 5;
      stop_id = Some (codes "S");
      vehicle = Some (record {
        id = Some (codes "B");
        label = None;
        license_plate = None;
        unknown = [];
      });
      unknown = [];
    }

-- its bytes are read
pub bus_read :
    value vehicle_position ((0x0a ∷ 0x03 ∷ 0x0a ∷ 0x01 ∷ 0x54 ∷ 0x12 ∷ 0x0a ∷ 0x0d ∷ 0x00 ∷ 0x00
    ∷ 0x3e ∷ 0x42 ∷ 0x15 ∷ 0x00 ∷ 0x00 ∷ 0x04 ∷ 0xc1 ∷ 0x18 ∷ 0x03 ∷ 0x20 ∷ 0x02 ∷ 0x28 ∷ 0x05 ∷
    0x3a ∷ 0x01 ∷ 0x53 ∷ 0x42 ∷ 0x03 ∷ 0x0a ∷ 0x01 ∷ 0x42 ∷ []) ∷ []) ≡ Ok bus
unfolding is_utf8 chars encode groups_at varint_at span_at tag_at payload_at field_with behind_end
    group_at field_at fields_within fields_of occurrences_of last_of unknown_bytes_of fields_of_all
    value merged_message values numbered_values read
bus_read = refl

-- and written
pub bus_written :
    message_bytes vehicle_position bus ≡ 0x0a ∷ 0x03 ∷ 0x0a ∷ 0x01 ∷ 0x54 ∷ 0x12 ∷ 0x0a ∷ 0x0d ∷
    0x00 ∷ 0x00 ∷ 0x3e ∷ 0x42 ∷ 0x15 ∷ 0x00 ∷ 0x00 ∷ 0x04 ∷ 0xc1 ∷ 0x18 ∷ 0x03 ∷ 0x20 ∷ 0x02 ∷
    0x28 ∷ 0x05 ∷ 0x3a ∷ 0x01 ∷ 0x53 ∷ 0x42 ∷ 0x03 ∷ 0x0a ∷ 0x01 ∷ 0x42 ∷ []
unfolding message_bytes field_bytes payload_bytes varint groups
bus_written = refl

-- the ids of the timetable within it take a prefix, and the vehicle's own id stays
pub bus_renamed :
    renamed_vehicle (codes "x-") bus ≡ record {
      trip = Some (record {
        trip_id = Some (codes
            "x-T");
        start_time = None;
        start_date = None;
        relation = None;
        route_id = None;
        direction_id
            = None;
        unknown = [];
      });
      position = Some (record {
        latitude = record { bits = 0x423e0000 };
        longitude = record { bits = 0xc1040000 };
        unknown = [];
      });
      current_stop_sequence = Some 3;
      current_status = Some status.InTransitTo;
      timestamp = Some 5;
      stop_id = Some (codes "x-S");
      vehicle = Some (record {
        id = Some (codes "B");
        label = None;
        license_plate = None;
        unknown
            = [];
      });
      unknown = [];
    }
bus_renamed = refl

-- an alert about a stop and a kind of routes
abbrev pub lift : Alert
lift =
    record {
      active_period = (record { start = Some 1; end = Some 2; unknown = [] } ∷ []);
      informed_entity = (record {
        agency_id = None;
        route_id = None;
        route_type = Some (negsuc 2);
        trip = None;
        stop_id = Some (codes "S");
        direction_id = None;
        unknown = [];
      } ∷ []);
      cause =
          Some cause.Weather;
      effect = Some effect.NoEffect;
      header_text = Some (record {
        translation
            = (record { text = codes "L"; language = None; unknown = [] } ∷ []);
        unknown = [];
      });
      description_text = None;
      unknown = [];
    }

-- its bytes are read
pub lift_read :
    value alert ((0x0a ∷ 0x04 ∷ 0x08 ∷ 0x01 ∷ 0x10 ∷ 0x02 ∷ 0x2a ∷ 0x0e ∷ 0x18 ∷ 0xfd ∷ 0xff ∷
    0xff ∷ 0xff ∷ 0xff ∷ 0xff ∷ 0xff ∷ 0xff ∷ 0xff ∷ 0x01 ∷ 0x2a ∷ 0x01 ∷ 0x53 ∷ 0x30 ∷ 0x08 ∷
    0x38 ∷ 0x0a ∷ 0x52 ∷ 0x05 ∷ 0x0a ∷ 0x03 ∷ 0x0a ∷ 0x01 ∷ 0x4c ∷ []) ∷ []) ≡ Ok lift
unfolding is_utf8 chars encode groups_at varint_at span_at tag_at payload_at field_with behind_end
    group_at field_at fields_within fields_of occurrences_of last_of unknown_bytes_of fields_of_all
    value merged_message values numbered_values read
lift_read = refl

-- and written
pub lift_written :
    message_bytes alert lift ≡ 0x0a ∷ 0x04 ∷ 0x08 ∷ 0x01 ∷ 0x10 ∷ 0x02 ∷ 0x2a ∷ 0x0e ∷ 0x18 ∷
    0xfd ∷ 0xff ∷ 0xff ∷ 0xff ∷ 0xff ∷ 0xff ∷ 0xff ∷ 0xff ∷ 0xff ∷ 0x01 ∷ 0x2a ∷ 0x01 ∷ 0x53 ∷
    0x30 ∷ 0x08 ∷ 0x38 ∷ 0x0a ∷ 0x52 ∷ 0x05 ∷ 0x0a ∷ 0x03 ∷ 0x0a ∷ 0x01 ∷ 0x4c ∷ []
unfolding message_bytes field_bytes payload_bytes varint groups
lift_written = refl

-- a translation without its text, two levels down; the alert's other fields don't matter
pub missing_below :
    value alert ((0x5a ∷ 0x04 ∷ 0x0a ∷ 0x02 ∷ 0x10 ∷ 0x01 ∷ []) ∷ []) ≡ Err (fault what.Missing
    kind.Translation 1)
unfolding is_utf8 chars encode groups_at varint_at span_at tag_at payload_at field_with behind_end
    group_at field_at fields_within fields_of occurrences_of last_of unknown_bytes_of fields_of_all
    value merged_message values numbered_values read
missing_below = refl

-- without a header, an entity's fault comes first, with the entity's number
pub entity_first :
    read (0x12 ∷ 0x03 ∷ 0x0a ∷ 0x01 ∷ 0x61 ∷ 0x12 ∷ 0x02 ∷ 0x22 ∷ 0x00 ∷ []) ≡ Err (record {
      entity = 2;
      what = what.Missing;
      kind = kind.FeedEntity;
      field = 1;
    })
unfolding is_utf8 chars encode groups_at varint_at span_at tag_at payload_at field_with behind_end
    group_at field_at fields_within fields_of occurrences_of last_of unknown_bytes_of fields_of_all
    value merged_message values numbered_values read
entity_first = refl

-- a field that is cut off comes before any fault within an entity
pub cut_first :
    read (0x12 ∷ 0x02 ∷ 0x22 ∷ 0x00 ∷ 0x12 ∷ 0x03 ∷ 0x0a ∷ []) ≡ Err (fault what.Cut
    kind.FeedMessage 0)
unfolding is_utf8 chars encode groups_at varint_at span_at tag_at payload_at field_with behind_end
    group_at field_at fields_within fields_of occurrences_of last_of unknown_bytes_of fields_of_all
    value merged_message values numbered_values read
cut_first = refl

-- a message that says nothing but its version and when it was made
abbrev pub plain : FeedMessage
plain =
    record {
      header = record {
        version = codes "2.0";
        incrementality = None;
        timestamp = Some 5;
        unknown = [];
      };
      entity = [];
      unknown = [];
    }

-- its bytes are read
pub plain_read :
    read (0x0a ∷ 0x07 ∷ 0x0a ∷ 0x03 ∷ 0x32 ∷ 0x2e ∷ 0x30 ∷ 0x18 ∷ 0x05 ∷ []) ≡ Ok plain
unfolding is_utf8 chars encode groups_at varint_at span_at tag_at payload_at field_with behind_end
    group_at field_at fields_within fields_of occurrences_of last_of unknown_bytes_of fields_of_all
    value merged_message values numbered_values read
plain_read = refl

-- where it says nothing of its incrementality, it is a whole data set
pub plain_is_full :
    is_full plain ≡ true
plain_is_full = refl

-- an update of the trip T1, 300 seconds late at its first place
abbrev pub late : List ℕ
late =
    0x0a ∷ 0x0d ∷ 0x0a ∷ 0x03 ∷ 0x32 ∷ 0x2e ∷ 0x30 ∷ 0x10 ∷ 0x00 ∷ 0x18 ∷ 0xd0 ∷ 0xb8 ∷ 0xa3 ∷
    0xbf ∷ 0x06 ∷ 0x12 ∷ 0x1e ∷ 0x0a ∷ 0x01 ∷ 0x75 ∷ 0x1a ∷ 0x19 ∷ 0x0a ∷ 0x0e ∷ 0x0a ∷ 0x02 ∷
    0x54 ∷ 0x31 ∷ 0x1a ∷ 0x08 ∷ 0x32 ∷ 0x30 ∷ 0x32 ∷ 0x35 ∷ 0x30 ∷ 0x33 ∷ 0x33 ∷ 0x30 ∷ 0x12 ∷
    0x07 ∷ 0x08 ∷ 0x01 ∷ 0x1a ∷ 0x03 ∷ 0x08 ∷ 0xac ∷ 0x02 ∷ []

-- the bytes of a message whose entities are renamed under a prefix
abbrev pub bytes_under : List ℕ → Result FeedMessage Fault → List ℕ
bytes_under prefix (Ok m) = write (record m { entity = map (renamed_entity prefix) m.entity })
bytes_under prefix (Err f) = []

-- it comes out as it went in, under the empty prefix
pub late_same :
    bytes_under [] (read late) ≡ late
unfolding is_utf8 chars encode groups_at varint_at span_at tag_at payload_at field_with behind_end
    group_at field_at fields_within fields_of occurrences_of last_of unknown_bytes_of fields_of_all
    value merged_message values numbered_values read write message_bytes field_bytes payload_bytes
    varint groups
late_same = refl

-- and names the trip x-T1 under the prefix x-
pub late_renamed :
    bytes_under (codes "x-") (read late) ≡ 0x0a ∷ 0x0d ∷ 0x0a ∷ 0x03 ∷ 0x32 ∷ 0x2e ∷ 0x30 ∷ 0x10
    ∷ 0x00 ∷ 0x18 ∷ 0xd0 ∷ 0xb8 ∷ 0xa3 ∷ 0xbf ∷ 0x06 ∷ 0x12 ∷ 0x20 ∷ 0x0a ∷ 0x01 ∷ 0x75 ∷ 0x1a ∷
    0x1b ∷ 0x0a ∷ 0x10 ∷ 0x0a ∷ 0x04 ∷ 0x78 ∷ 0x2d ∷ 0x54 ∷ 0x31 ∷ 0x1a ∷ 0x08 ∷ 0x32 ∷ 0x30 ∷
    0x32 ∷ 0x35 ∷ 0x30 ∷ 0x33 ∷ 0x33 ∷ 0x30 ∷ 0x12 ∷ 0x07 ∷ 0x08 ∷ 0x01 ∷ 0x1a ∷ 0x03 ∷ 0x08 ∷
    0xac ∷ 0x02 ∷ []
unfolding is_utf8 chars encode groups_at varint_at span_at tag_at payload_at field_with behind_end
    group_at field_at fields_within fields_of occurrences_of last_of unknown_bytes_of fields_of_all
    value merged_message values numbered_values read write message_bytes field_bytes payload_bytes
    varint groups
late_renamed = refl
