-- The entities of a message one by one, as a writer appends them.
use Rattle.std.specs.Prelude.{ℕ, List, ◌++◌, map}
use Rattle.std.specs.List.{flat_map}
use Rattle.rt_types.specs.declared.message.Entity.{Entity}
use Rattle.rt_types.specs.declared.message.FeedMessage.{FeedMessage}
use Rattle.pb_wire_defs.specs.Field.Payload.{Span}
use Rattle.pb_wire_defs.specs.Writing.{Written, field_bytes}
use Rattle.feed_defs.specs.Renamed.{renamed_entity}
use Rattle.feed_defs.specs.Rows.{bool, embedded, optional, ◌⊕◌, message_bytes}
use Rattle.feed_defs.specs.Table.{trip_update, vehicle_position, alert, entity}

-- a message with the ids of its entities under the prefix
abbrev pub renamed_message : List ℕ → FeedMessage → FeedMessage
renamed_message prefix m = record m { entity = map (renamed_entity prefix) m.entity }

-- the bytes of an entity as a field of its message
unfoldable pub entity_field : Entity → List ℕ
entity_field m = field_bytes (record { number = 2; payload = Span (message_bytes entity m) })

-- the fields of an entity behind its id, as they are written
abbrev pub content_fields : Entity → List Written
content_fields m = (optional 2 bool ⊕ optional 3 (embedded trip_update)
    ⊕ optional 4 (embedded vehicle_position) ⊕ optional 5 (embedded alert)).write (
      m.is_deleted,
      (m.trip_update, (m.vehicle, m.alert)),
    )

-- the bytes of an entity behind its id
unfoldable pub content_bytes : Entity → List ℕ
content_bytes m = flat_map field_bytes (content_fields m) ++ m.unknown
