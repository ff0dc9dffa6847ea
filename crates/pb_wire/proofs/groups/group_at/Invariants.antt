use Rattle.std.proofs.Common.{length}
use Rattle.pb_wire_defs.specs.Field.{deepest_group}
use Rattle.pb_wire_defs.specs.Reading.{group_at}
use Rattle.pb_wire.proofs.Nested.{Nested}
use Rattle.pb_wire.proofs.groups.group_at.Given as goal

abbrev pub invariant-fields : goal.invariant-fields
invariant-fields l = Nested l.open l.depth l.rest (group_at deepest_group l.number l.bytes)

abbrev pub decreases-fields : goal.decreases-fields
decreases-fields l = length l.rest
