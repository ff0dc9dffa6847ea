use Rattle.std.proofs.Common.{◌∙◌, ap, arith}
use Rattle.std.specs.Int.{from_be_bytes, w32}
use Rattle.feed_port.proofs.StreamCases.{at_end, within_length, above_limit, message_there, within_message}
use Rattle.feed_port.proofs.stream.read_message.Goals as goal

pub returns-in-Ended-clause-reads : goal.returns-in-Ended-clause-reads
returns-in-Ended-clause-reads g c =
    at_end _ _ _ _ _ c.in-Ended.ensures.fills (omega (arith, c.len.ensures, c.if-len-eq0.true)) c.in-Ended.ensures.cause

pub returns-in-Ended-2-clause-reads : goal.returns-in-Ended-2-clause-reads
returns-in-Ended-2-clause-reads g c =
    within_length _ _ _ _ _ c.in-Ended-2.ensures.fills (omega (arith, c.len.ensures, c.if-len-eq0.false)) c.in-Ended-2.ensures.cause

pub returns-then-size-gt-LONGEST_MESSAGE-clause-reads :
    goal.returns-then-size-gt-LONGEST_MESSAGE-clause-reads
returns-then-size-gt-LONGEST_MESSAGE-clause-reads g c =
    above_limit _ _ _ _ c.from.result c.fill.new.into.bytes c.clear.new.self.bytes c.in-Whole.ensures.fills
    (c.from.ensures ∙ c.size_in-size.ensures ∙ ap (from_be_bytes w32) c.as_slice.ensures)
    (omega (arith, c.from.ensures, c.if-size-gt-LONGEST_MESSAGE.true)) c.in-Whole.ensures.cause

pub returns-in-Whole-fill-clause-reads : goal.returns-in-Whole-fill-clause-reads
returns-in-Whole-fill-clause-reads g c =
    message_there _ _ _ _ _ c.size_in-size.result c.fill.new.into.bytes _ c.in-Whole.ensures.fills
    (c.size_in-size.ensures ∙ ap (from_be_bytes w32) c.as_slice.ensures)
    (omega (arith, c.if-size-gt-LONGEST_MESSAGE.false)) c.in-Whole-fill.ensures.fills
    (omega (arith, c.in-Whole.ensures.cause, c.in-Whole-fill.ensures.cause))

pub returns-in-Ended-fill-clause-reads : goal.returns-in-Ended-fill-clause-reads
returns-in-Ended-fill-clause-reads g c =
    within_message _ _ _ _ _ c.size_in-size.result c.fill.new.into.bytes _ c.in-Whole.ensures.fills
    (c.size_in-size.ensures ∙ ap (from_be_bytes w32) c.as_slice.ensures)
    (omega (arith, c.if-size-gt-LONGEST_MESSAGE.false)) c.in-Ended-fill.ensures.fills
    (omega (arith, c.in-Whole.ensures.cause, c.in-Ended-fill.ensures.cause))
