-- The head stands in front of the content, whether one byte was kept for its length or two.
use Rattle.feed_write.proofs.Spelling.{framed, framed_begins}
use Rattle.feed_write.proofs.fields.put_message.Goals as goal

pub returns-then-is_long-clause-written : goal.returns-then-is_long-clause-written
returns-then-is_long-clause-written g c = framed c.write_long_length.result c.args.number _ _ _ _ _ _ _ c.in_ok-place.ensures.opened c.in_ok-put.ensures.written c.write_long_length.ensures.written

pub returns-then-is_long-clause-begins : goal.returns-then-is_long-clause-begins
returns-then-is_long-clause-begins g c = framed_begins c.args.number _ _ _ _ _ _ c.in_ok-place.ensures.opened c.in_ok-put.ensures.begins c.write_long_length.ensures.kept

pub returns-clause-written : goal.returns-clause-written
returns-clause-written g c = framed c.write_length.result c.args.number _ _ _ _ _ _ _ c.in_ok-place-2.ensures.opened c.in_ok-put-2.ensures.written c.write_length.ensures.written

pub returns-clause-begins : goal.returns-clause-begins
returns-clause-begins g c = framed_begins c.args.number _ _ _ _ _ _ c.in_ok-place-2.ensures.opened c.in_ok-put-2.ensures.begins c.write_length.ensures.kept
