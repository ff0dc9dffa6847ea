use Rattle.feed_read.proofs.Fields.{Joining}
use Rattle.feed_read.proofs.nested.joined.Given as goal

abbrev pub invariant-loop-payload : goal.invariant-loop-payload
invariant-loop-payload g l = Joining g.M.Message.table.kind l.initial.payload-iterator l.payload-iterator l.bytes.items l.found
