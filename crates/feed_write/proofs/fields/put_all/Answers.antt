-- A message more is written behind the others.
use Rattle.feed_write.proofs.Repeated.{all_more}
use Rattle.feed_write.proofs.Spelling.{starts_with, starts_on}
use Rattle.feed_write.proofs.fields.put_all.Goals as goal

pub loop-message-preserved : goal.loop-message-preserved
loop-message-preserved g c = all_more _ _ _ _ _ _ _ _ _ c.loop-message-test.true c.message-item.is c.loop-message.invariant c.in_ok-put_message.ensures.written

pub returns-in_err-put_message-clause-begins : goal.returns-in_err-put_message-clause-begins
returns-in_err-put_message-clause-begins g c = starts_on _ _ _ (starts_with _ _ _ c.loop-message.invariant) c.in_err-put_message.ensures.begins
