-- What is written of each id of a feed.
use Rattle.std.specs.Prelude.{◌≡◌, ◌⊎◌, ℕ, ◌^◌, ◌<◌, nat_le, Bool, true, false, length, List, [], Option, Some, None, if◌then◌else◌}
use Rattle.rt_types.specs.declared.message.Entity.{Entity}
use Rattle.feed_defs.specs.Combined.{entity_under_feed, gone}
use Rattle.feed_defs.specs.Renamed.{renamed_entity}
use Rattle.feed_defs.specs.declared.history.Stored.{Stored}
use Rattle.feed_defs.specs.Rows.{message_bytes}
use Rattle.feed_defs.specs.Table.{entity}
use Rattle.feed_write.specs.Entities.{entity_field}
use Rattle.delta_defs.specs.Changes.{is_same}
use Rattle.delta_feed.specs.Pairs.{IdPair}

-- an entity of the feed of that name, as the combined feed has it
abbrev pub named_entity : List ℕ → List ℕ → Entity → Entity
named_entity prefix name e = entity_under_feed name (renamed_entity prefix e)

-- what is sent, by what was held and what is
abbrev pub entity_sent : List ℕ → List ℕ → List ℕ → Option Stored → Option Stored → Option Entity
entity_sent prefix name id None None = None
entity_sent prefix name id (Some was) None = Some (entity_under_feed name (gone id))
entity_sent prefix name id None (Some is) = Some (named_entity prefix name is.entity)
entity_sent prefix name id (Some was) (Some is) =
    if is_same (named_entity prefix name was.entity) (named_entity prefix name is.entity) then None
    else Some (named_entity prefix name is.entity)

-- the bytes of an entity, if there is one
abbrev pub field_of : Option Entity → List ℕ
field_of None = []
field_of (Some e) = entity_field e

-- the bytes that are sent of an id
abbrev pub pair_field : List ℕ → List ℕ → IdPair → List ℕ
pair_field prefix name pair = field_of (entity_sent prefix name pair.id pair.was pair.is)

-- ---- entities that stay

-- something was held under the id, and what is held has no stamp above that one
abbrev pub is_held_no_newer : ℕ → Option Stored → Option Stored → Bool
is_held_no_newer stamp (Some was) (Some is) = nat_le is.stamp stamp
is_held_no_newer stamp (Some was) None = false
is_held_no_newer stamp None is = false

abbrev pub is_no_newer : ℕ → IdPair → Bool
is_no_newer stamp pair = is_held_no_newer stamp pair.was pair.is

-- then it is what was held
abbrev pub IsSettled : ℕ → IdPair → Type 0
IsSettled stamp pair = is_no_newer stamp pair ≡ true → pair.was ≡ pair.is

-- ---- entities that can be written

-- an entity with so few bytes that a length says how many
abbrev pub IsShort : Entity → Type 0
IsShort e = length (message_bytes entity e) < 2 ^ 64

-- what was held and is held is the same, or both were compared, and so have no more
abbrev pub AreShort : List ℕ → List ℕ → Option Stored → Option Stored → Type 0
AreShort prefix name (Some was) (Some is) = (was ≡ is)
    ⊎ (IsShort (named_entity prefix name was.entity) × IsShort (named_entity prefix name is.entity))
AreShort prefix name (Some was) None = Unit {0}
AreShort prefix name None is = Unit {0}

abbrev pub IsShortPair : List ℕ → List ℕ → IdPair → Type 0
IsShortPair prefix name pair = AreShort prefix name pair.was pair.is
