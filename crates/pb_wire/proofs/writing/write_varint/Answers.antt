use Rattle.pb_wire.proofs.Spelt.{one_group}
use Rattle.pb_wire.proofs.writing.write_varint.Goals as goal

pub returns-then-value-lt128-clause-written : goal.returns-then-value-lt128-clause-written
returns-then-value-lt128-clause-written c =
    rw (one_group c.args.value c.if-value-lt128.true) c.in_ok-push.ensures.items
