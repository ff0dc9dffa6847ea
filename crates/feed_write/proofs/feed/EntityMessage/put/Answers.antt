-- What stands behind the id follows it.
use Rattle.feed_write.proofs.Entities.{entity_then}
use Rattle.feed_write.proofs.feed.EntityMessage.put.Goals as goal

pub returns-clause-written : goal.returns-clause-written
returns-clause-written c = entity_then c.put_content.result _ _ _ _ c.in_ok-put_text.ensures.written c.put_content.ensures.written
