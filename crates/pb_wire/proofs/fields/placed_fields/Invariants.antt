use Rattle.std.proofs.Common.{length}
use Rattle.pb_wire.proofs.Rows.{Placing}
use Rattle.pb_wire.proofs.fields.placed_fields.Given as goal

abbrev pub invariant-fields : goal.invariant-fields
invariant-fields l = Placing l.fields.items l.at l.rest l.bytes

abbrev pub decreases-fields : goal.decreases-fields
decreases-fields l = length l.rest
