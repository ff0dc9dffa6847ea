use Rattle.std.proofs.Common.{length}
use Rattle.feed_read.proofs.Noting.{Noting}
use Rattle.feed_read.proofs.message.note_fields.Given as goal

abbrev pub invariant-fields : goal.invariant-fields
invariant-fields g l = Noting g.M.Message.table.is_known l.bytes l.rest l.slots l.unknown.items

abbrev pub decreases-fields : goal.decreases-fields
decreases-fields g l = length l.rest
