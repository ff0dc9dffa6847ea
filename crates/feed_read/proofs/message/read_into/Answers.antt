use Rattle.pb_wire_defs.proofs.Found.{fields_only}
use Rattle.field_read.proofs.Faults.{fails_whole, passed}
use Rattle.feed_read.proofs.Fields.{value_single, value_fault}
use Rattle.feed_read.proofs.message.read_into.Goals as goal

pub returns-in_err-unknown : goal.returns-in_err-unknown
returns-in_err-unknown g c =
    passed (λ _. c.args.message.now) _ _ _ c.from_residual.ensures.1 (fails_whole _ _ _ (value_fault g.M.Message.table _) c.in_err-unknown.ensures)

pub new-requires-clause-whole : goal.new-requires-clause-whole
new-requires-clause-whole g c = fields_only _ _ c.in_ok-unknown.ensures.spelled

pub new-requires-clause-noted : goal.new-requires-clause-noted
new-requires-clause-noted g c = c.in_ok-unknown.ensures.noted

pub fill-requires : goal.fill-requires
fill-requires g c = rw c.new.ensures c.in_ok-unknown.ensures.unknown_is

pub returns : goal.returns
returns g c = rw (value_single g.M.Message.table c.args.bytes.now c.in_ok-unknown.ensures.spelled, ← c.new.ensures) c.fill.ensures
