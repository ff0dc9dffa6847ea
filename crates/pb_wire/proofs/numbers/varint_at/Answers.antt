use Rattle.pb_wire.proofs.Varints.{one_byte}
use Rattle.pb_wire.proofs.numbers.varint_at.Goals as goal

pub returns-in-len1-up : goal.returns-in-len1-up
returns-in-len1-up c =
    one_byte c.args.bytes.now c.from.result c.in-len1-up.len_at_least c.if-byte-lt128.true c.from.ensures
