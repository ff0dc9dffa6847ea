use Rattle.std.proofs.Common.{◌≡◌, ◌-◌}
use Rattle.pb_wire_defs.specs.Reading.{varint_at}
use Rattle.pb_wire.proofs.Varints.{so_far}
use Rattle.pb_wire.proofs.numbers.long_varint_at.Given as goal

abbrev pub invariant-groups : goal.invariant-groups
invariant-groups l = so_far l.value l.scale (10 - l.counter) l.rest ≡ varint_at l.bytes
