use Rattle.std.proofs.Common.{◌-◌, length}
use Rattle.hub_outside.specs.Buffer.{room_of}
use Rattle.poll_port.proofs.MessageReading.{Filling}
use Rattle.poll_port.proofs.messages.fill_up.Given as goal

abbrev pub invariant-pieces : goal.invariant-pieces
invariant-pieces g l =
    Filling l.initial.into.bytes (g.S.Source.left l.initial.source) (g.S.Source.left l.source) (g.S.Source.faults l.initial.source)
    (g.S.Source.faults l.source) l.size (room_of l.initial.into) l.into

abbrev pub decreases-pieces : goal.decreases-pieces
decreases-pieces g l = l.size - length l.into.bytes
