-- The fields stand one behind another.
use Rattle.feed_defs.specs.Rows.{message_bytes}
use Rattle.feed_defs.specs.Table.{vehicle_descriptor}
use Rattle.feed_write.proofs.Spelling.{starts_on, last_row, row_then, field_then, plain}
use Rattle.feed_write.proofs.trip_update.TripUpdateMessage.put.Goals as goal

pub returns-in_err-put_scalar-2-clause-begins : goal.returns-in_err-put_scalar-2-clause-begins
returns-in_err-put_scalar-2-clause-begins c = starts_on _ _ _ (starts_on _ _ _ (starts_on _ _ _ (starts_on _ _ _ (c.in_ok-put_message.ensures.begins) c.in_ok-put_items.ensures.begins) c.in_ok-put_embedded.ensures.begins) c.in_ok-put_scalar.ensures.begins) c.in_err-put_scalar-2.ensures.begins

pub returns-clause-written : goal.returns-clause-written
unfolding message_bytes
returns-clause-written c =
    field_then c.put_unknown.result _ _ _ _ _ _ c.in_ok-put_message.ensures.written
    (row_then c.put_unknown.result _ _ _ _ _ _ c.in_ok-put_items.ensures.written
    (row_then c.put_unknown.result _ _ _ _ _ _ (plain 3 vehicle_descriptor c.args.self.now.vehicle _ _ c.in_ok-put_embedded.ensures.written)
    (row_then c.put_unknown.result _ _ _ _ _ _ c.in_ok-put_scalar.ensures.written
    (last_row c.put_unknown.result _ _ _ _ _ c.in_ok-put_scalar-2.ensures.written c.put_unknown.ensures.written))))

pub returns-clause-begins : goal.returns-clause-begins
returns-clause-begins c = starts_on _ _ _ (starts_on _ _ _ (starts_on _ _ _ (starts_on _ _ _ (starts_on _ _ _ (c.in_ok-put_message.ensures.begins) c.in_ok-put_items.ensures.begins) c.in_ok-put_embedded.ensures.begins) c.in_ok-put_scalar.ensures.begins) c.in_ok-put_scalar-2.ensures.begins) c.put_unknown.ensures.begins
