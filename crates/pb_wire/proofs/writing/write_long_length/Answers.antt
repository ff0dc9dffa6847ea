-- A length of two groups stands in the two bytes.
use Rattle.std.proofs.Common.{◌-◌, arith}
use Rattle.pb_wire.proofs.Lengths.{long}
use Rattle.pb_wire.proofs.writing.write_long_length.Goals as goal

pub returns-then-count-lt16384-clause-written : goal.returns-then-count-lt16384-clause-written
returns-then-count-lt16384-clause-written c =
    long c.args.place (c.len.result - c.args.place - 2) c.args.out.now.items c.requires (omega (arith, c.len.ensures)) c.if-count-ge128.true c.if-count-lt16384.true
