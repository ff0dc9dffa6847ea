-- A table that is made of entities.
use Rattle.std.specs.Prelude.{ℕ, List, Bool, false, unwrap_or}
use Rattle.rt_types.specs.declared.message.Entity.{Entity}
use Rattle.feed_defs.specs.declared.history.Stored.{Stored}
use Rattle.feed_defs.specs.History.{Change, changes_with}

-- an entity, with the stamp of its message
abbrev pub with_stamp : ℕ → Entity → Stored
with_stamp stamp e = record { entity = e; stamp = stamp }

-- an entity that says that it is deleted
abbrev pub is_gone : Stored → Bool
is_gone stored = unwrap_or stored.entity.is_deleted false

-- what is held, changed by an entity
abbrev pub and_stored : List Change → Stored → List Change
and_stored table stored = changes_with table (stored.entity.id, stored)
