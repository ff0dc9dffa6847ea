use Rattle.std.proofs.Common.{take, drop, subst}
use Rattle.std.proofs.lemmas.Slice.{between_is}
use Rattle.poll_port.specs.Reading.{ReadsMessage}
use Rattle.poll_port.proofs.ReplyReading.{reply_read}
use Rattle.poll_port.proofs.exchange.read_reply.Goals as goal

pub returns-in-Good-clause-reads : goal.returns-in-Good-clause-reads
returns-in-Good-clause-reads g c =
    let whole = take c.in-Good.filled c.read_head.new.buf in
    reply_read c.in-Good.extent whole (drop c.in-Good.start whole) c.in-Good.ensures.reads.3 c.read_message.result _ _ _ c.in-Good.ensures.reads.2
    (subst (λ front. ReadsMessage c.read_message.result c.in-Good.extent front (g.S.Source.left c.read_head.new.source) c.read_message.new.into.bytes)
    (between_is c.read_head.new.buf c.in-Good.start c.in-Good.filled) c.read_message.ensures.reads)
