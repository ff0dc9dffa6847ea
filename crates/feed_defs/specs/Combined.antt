-- An entity in a feed that is made of several.
use Rattle.std.specs.Prelude.{ℕ, true, List, [], ◌++◌, Some, None, codes}
use Rattle.rt_types.specs.declared.message.Entity.{Entity}

-- an entity under the name of its feed: `<feed>:<id>`
abbrev pub entity_under_feed : List ℕ → Entity → Entity
entity_under_feed feed entity = record entity { id = feed ++ codes ":" ++ entity.id }

-- an entity that says nothing but that its id is gone (GTFS Realtime 2.0, FeedEntity, `is_deleted`)
abbrev pub gone : List ℕ → Entity
gone id = record {
  id = id;
  is_deleted = Some true;
  trip_update = None;
  vehicle = None;
  alert = None;
  unknown = [];
}
