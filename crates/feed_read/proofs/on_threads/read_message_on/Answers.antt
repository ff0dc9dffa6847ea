use Rattle.pb_wire_defs.proofs.Found.{fields_only}
use Rattle.feed_defs.specs.Table.{feed, read}
use Rattle.field_read.proofs.Faults.{fails_whole, reads_passed}
use Rattle.feed_read.proofs.Fields.{value_single, value_fault}
use Rattle.feed_read.proofs.on_threads.read_message_on.Goals as goal

pub returns-in_err-unknown : goal.returns-in_err-unknown
unfolding read
returns-in_err-unknown g c = reads_passed _ _ _ c.from_residual.ensures.1 (fails_whole _ _ _ (value_fault feed _) c.in_err-unknown.ensures)

pub new-requires-clause-whole : goal.new-requires-clause-whole
new-requires-clause-whole g c = fields_only _ _ c.in_ok-unknown.ensures.spelled

pub returns : goal.returns
unfolding read
returns g c = rw (value_single feed c.args.bytes.now c.in_ok-unknown.ensures.spelled, ← c.new.ensures) c.message_of.ensures
