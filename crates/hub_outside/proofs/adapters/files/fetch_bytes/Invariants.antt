use Rattle.std.proofs.Common.{◌-◌, length}
use Rattle.hub_outside.specs.Buffer.{room_of}
use Rattle.hub_outside.proofs.Fetching.{Fetching}
use Rattle.hub_outside.proofs.adapters.files.fetch_bytes.Given as goal

abbrev pub invariant-pieces : goal.invariant-pieces
invariant-pieces g l =
    Fetching l.limit (room_of l.initial.into) (g.F.Read.remaining l.initial.file) (g.F.Read.remaining l.file) l.into

abbrev pub decreases-pieces : goal.decreases-pieces
decreases-pieces g l = l.limit - length l.into.bytes
