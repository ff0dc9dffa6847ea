use Rattle.std.proofs.Common.{◌-◌, length}
use Rattle.hub_outside.specs.Buffer.{room_of}
use Rattle.feed_port.proofs.Pieces.{Filling}
use Rattle.feed_port.proofs.filling.fill.Given as goal

abbrev pub invariant-pieces : goal.invariant-pieces
invariant-pieces g l =
    Filling (g.S.Source.left l.initial.source) (g.S.Source.left l.source) (g.S.Source.faults l.initial.source) (g.S.Source.faults l.source) l.size
    (room_of l.initial.into) l.into

abbrev pub decreases-pieces : goal.decreases-pieces
decreases-pieces g l = l.size - length l.into.bytes
