-- The fields stand one behind another.
use Rattle.feed_defs.specs.Rows.{message_bytes}
use Rattle.feed_defs.specs.Table.{position, vehicle_descriptor}
use Rattle.feed_write.proofs.Spelling.{starts_on, last_row, row_then, plain}
use Rattle.feed_write.proofs.vehicle.VehicleMessage.put.Goals as goal

pub returns-in_err-put_scalar-3-clause-begins : goal.returns-in_err-put_scalar-3-clause-begins
returns-in_err-put_scalar-3-clause-begins c = starts_on _ _ _ (starts_on _ _ _ (starts_on _ _ _ (starts_on _ _ _ (c.in_ok-put_embedded.ensures.begins) c.in_ok-put_embedded-2.ensures.begins) c.in_ok-put_scalar.ensures.begins) c.in_ok-put_scalar-2.ensures.begins) c.in_err-put_scalar-3.ensures.begins

pub returns-in_err-put_id-clause-begins : goal.returns-in_err-put_id-clause-begins
returns-in_err-put_id-clause-begins c = starts_on _ _ _ (starts_on _ _ _ (starts_on _ _ _ (starts_on _ _ _ (starts_on _ _ _ (c.in_ok-put_embedded.ensures.begins) c.in_ok-put_embedded-2.ensures.begins) c.in_ok-put_scalar.ensures.begins) c.in_ok-put_scalar-2.ensures.begins) c.in_ok-put_scalar-3.ensures.begins) c.in_err-put_id.ensures.begins

pub returns-in_err-put_embedded-3-clause-begins : goal.returns-in_err-put_embedded-3-clause-begins
returns-in_err-put_embedded-3-clause-begins c = starts_on _ _ _ (starts_on _ _ _ (starts_on _ _ _ (starts_on _ _ _ (starts_on _ _ _ (starts_on _ _ _ (c.in_ok-put_embedded.ensures.begins) c.in_ok-put_embedded-2.ensures.begins) c.in_ok-put_scalar.ensures.begins) c.in_ok-put_scalar-2.ensures.begins) c.in_ok-put_scalar-3.ensures.begins) c.in_ok-put_id.ensures.begins) c.in_err-put_embedded-3.ensures.begins

pub returns-clause-written : goal.returns-clause-written
unfolding message_bytes
returns-clause-written c =
    row_then c.put_unknown.result _ _ _ _ _ _ c.in_ok-put_embedded.ensures.written
    (row_then c.put_unknown.result _ _ _ _ _ _ (plain 2 position c.args.self.now.position _ _ c.in_ok-put_embedded-2.ensures.written)
    (row_then c.put_unknown.result _ _ _ _ _ _ c.in_ok-put_scalar.ensures.written
    (row_then c.put_unknown.result _ _ _ _ _ _ c.in_ok-put_scalar-2.ensures.written
    (row_then c.put_unknown.result _ _ _ _ _ _ c.in_ok-put_scalar-3.ensures.written
    (row_then c.put_unknown.result _ _ _ _ _ _ c.in_ok-put_id.ensures.written
    (last_row c.put_unknown.result _ _ _ _ _ (plain 8 vehicle_descriptor c.args.self.now.vehicle _ _ c.in_ok-put_embedded-3.ensures.written) c.put_unknown.ensures.written))))))

pub returns-clause-begins : goal.returns-clause-begins
returns-clause-begins c = starts_on _ _ _ (starts_on _ _ _ (starts_on _ _ _ (starts_on _ _ _ (starts_on _ _ _ (starts_on _ _ _ (starts_on _ _ _ (c.in_ok-put_embedded.ensures.begins) c.in_ok-put_embedded-2.ensures.begins) c.in_ok-put_scalar.ensures.begins) c.in_ok-put_scalar-2.ensures.begins) c.in_ok-put_scalar-3.ensures.begins) c.in_ok-put_id.ensures.begins) c.in_ok-put_embedded-3.ensures.begins) c.put_unknown.ensures.begins
