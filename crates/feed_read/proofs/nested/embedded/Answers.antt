use Rattle.feed_read.proofs.Fields.{merged_none, merged_read}
use Rattle.feed_read.proofs.nested.embedded.Goals as goal

pub returns-in-Never : goal.returns-in-Never
returns-in-Never g c = merged_none g.M.Message.table _ c.in-Never.ensures

pub returns-in-Some : goal.returns-in-Some
returns-in-Some g c = merged_read g.M.Message.table _ _ _ _ c.in-Once.ensures c.read_into.ensures
