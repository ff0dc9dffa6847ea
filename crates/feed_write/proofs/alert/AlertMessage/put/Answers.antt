-- The fields stand one behind another.
use Rattle.feed_defs.specs.Rows.{message_bytes}
use Rattle.feed_defs.specs.Table.{time_range, translated_string}
use Rattle.feed_write.proofs.Spelling.{starts_on, last_row, row_then, plain, plain_items}
use Rattle.feed_write.proofs.alert.AlertMessage.put.Goals as goal

pub returns-in_err-put_embedded-clause-begins : goal.returns-in_err-put_embedded-clause-begins
returns-in_err-put_embedded-clause-begins c = starts_on _ _ _ (starts_on _ _ _ (starts_on _ _ _ (starts_on _ _ _ (c.in_ok-put_items.ensures.begins) c.in_ok-put_items-2.ensures.begins) c.in_ok-put_scalar.ensures.begins) c.in_ok-put_scalar-2.ensures.begins) c.in_err-put_embedded.ensures.begins

pub returns-in_err-put_embedded-2-clause-begins : goal.returns-in_err-put_embedded-2-clause-begins
returns-in_err-put_embedded-2-clause-begins c = starts_on _ _ _ (starts_on _ _ _ (starts_on _ _ _ (starts_on _ _ _ (starts_on _ _ _ (c.in_ok-put_items.ensures.begins) c.in_ok-put_items-2.ensures.begins) c.in_ok-put_scalar.ensures.begins) c.in_ok-put_scalar-2.ensures.begins) c.in_ok-put_embedded.ensures.begins) c.in_err-put_embedded-2.ensures.begins

pub returns-clause-written : goal.returns-clause-written
unfolding message_bytes
returns-clause-written c =
    row_then c.put_unknown.result _ _ _ _ _ _ (plain_items 1 time_range c.args.self.now.active_period _ _ c.in_ok-put_items.ensures.written)
    (row_then c.put_unknown.result _ _ _ _ _ _ c.in_ok-put_items-2.ensures.written
    (row_then c.put_unknown.result _ _ _ _ _ _ c.in_ok-put_scalar.ensures.written
    (row_then c.put_unknown.result _ _ _ _ _ _ c.in_ok-put_scalar-2.ensures.written
    (row_then c.put_unknown.result _ _ _ _ _ _ (plain 10 translated_string c.args.self.now.header_text _ _ c.in_ok-put_embedded.ensures.written)
    (last_row c.put_unknown.result _ _ _ _ _ (plain 11 translated_string c.args.self.now.description_text _ _ c.in_ok-put_embedded-2.ensures.written) c.put_unknown.ensures.written)))))

pub returns-clause-begins : goal.returns-clause-begins
returns-clause-begins c = starts_on _ _ _ (starts_on _ _ _ (starts_on _ _ _ (starts_on _ _ _ (starts_on _ _ _ (starts_on _ _ _ (c.in_ok-put_items.ensures.begins) c.in_ok-put_items-2.ensures.begins) c.in_ok-put_scalar.ensures.begins) c.in_ok-put_scalar-2.ensures.begins) c.in_ok-put_embedded.ensures.begins) c.in_ok-put_embedded-2.ensures.begins) c.put_unknown.ensures.begins
