use Rattle.std.proofs.Common.{◌+◌, take, drop}
use Rattle.pb_wire.proofs.Lengths.{Widens}
use Rattle.pb_wire.proofs.writing.write_length.Given as goal

abbrev pub invariant-groups : goal.invariant-groups
invariant-groups l = Widens l.place (take l.place l.fn.out.items) (drop (l.place + 1) l.fn.out.items) l.out.items l.last l.rest

abbrev pub decreases-groups : goal.decreases-groups
decreases-groups l = l.rest
