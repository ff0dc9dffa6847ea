-- The head stands in front of the fields, whether one byte was kept for their length or two.
use Rattle.feed_write.specs.Entities.{entity_field}
use Rattle.feed_write.proofs.Spelling.{framed, framed_begins}
use Rattle.feed_write.proofs.write.put_under_feed.Goals as goal

pub returns-then-is_long-clause-written : goal.returns-then-is_long-clause-written
unfolding entity_field
returns-then-is_long-clause-written c = framed c.write_long_length.result 2 _ _ _ _ _ _ _ c.in_ok-place.ensures.opened c.in_ok-put_named.ensures.written c.write_long_length.ensures.written

pub returns-then-is_long-clause-begins : goal.returns-then-is_long-clause-begins
returns-then-is_long-clause-begins c = framed_begins 2 _ _ _ _ _ _ c.in_ok-place.ensures.opened c.in_ok-put_named.ensures.begins c.write_long_length.ensures.kept

pub returns-clause-written : goal.returns-clause-written
unfolding entity_field
returns-clause-written c = framed c.write_length.result 2 _ _ _ _ _ _ _ c.in_ok-place-2.ensures.opened c.in_ok-put_named-2.ensures.written c.write_length.ensures.written

pub returns-clause-begins : goal.returns-clause-begins
returns-clause-begins c = framed_begins 2 _ _ _ _ _ _ c.in_ok-place-2.ensures.opened c.in_ok-put_named-2.ensures.begins c.write_length.ensures.kept
