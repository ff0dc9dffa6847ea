-- Where the reading of a file stands between two pieces.
use Rattle.std.proofs.Common.{ℕ, ◌≤◌, List, Option, length}
use Rattle.std.specs.Io.KnownBytes.{Consumes}
use Rattle.hub_outside.specs.Buffer.{BufferContents, room_of}

-- the buffer holds what the file gave so far, no more than the limit, and lost no room
pub record Fetching (limit room : ℕ) (first now : Option (List ℕ)) (into : BufferContents) : Type 0 where
  pub within : length into.bytes ≤ limit
  pub kept : room ≤ room_of into
  pub taken : Consumes first now into.bytes
