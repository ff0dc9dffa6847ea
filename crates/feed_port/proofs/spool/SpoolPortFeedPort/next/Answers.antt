use Rattle.std.proofs.Common.{◌∙◌, ap, arith}
use Rattle.feed_port.proofs.Spooled.{spool_ended, spool_read, spool_absent, spool_long}
use Rattle.feed_port.proofs.spool.SpoolPortFeedPort.next.Goals as goal

pub returns-then-self-ge-PAST_LAST-clause-answer : goal.returns-then-self-ge-PAST_LAST-clause-answer
returns-then-self-ge-PAST_LAST-clause-answer g c = spool_ended _ _ _ c.if-self-ge-PAST_LAST.true

pub returns-in-Read-clause-answer : goal.returns-in-Read-clause-answer
returns-in-Read-clause-answer g c =
    rw c.write.ensures (
      c.in-Read.ensures.answer.0,
      spool_read c.args.self.now.path.folder c.args.self.now.number _ (c.as_str-path.ensures ∙ ap (λ p. p.written) c.write.ensures) _ _ _
          (omega (arith, c.if-self-ge-PAST_LAST.false)) c.read_file.ensures.contents c.in-Read.ensures.answer.1,
    )

pub returns-in-TooLong-clause-answer : goal.returns-in-TooLong-clause-answer
returns-in-TooLong-clause-answer g c =
    rw c.write.ensures
    (let long = spool_long c.args.self.now.path.folder c.args.self.now.number _ (c.as_str-path.ensures ∙ ap (λ p. p.written) c.write.ensures) _ _ c.in-TooLong.size
    (omega (arith, c.if-self-ge-PAST_LAST.false)) c.read_file.ensures.contents c.in-TooLong.ensures.answer.1 c.in-TooLong.ensures.answer.2 in
    (c.in-TooLong.ensures.answer.1, long.0, long.1, long.2))

pub returns-in-Absent-clause-answer : goal.returns-in-Absent-clause-answer
returns-in-Absent-clause-answer g c =
    rw c.write.ensures
    (spool_absent c.args.self.now.path.folder c.args.self.now.number _ (c.as_str-path.ensures ∙ ap (λ p. p.written) c.write.ensures) _ _
    (omega (arith, c.if-self-ge-PAST_LAST.false)) c.read_file.ensures.contents c.in-Absent.ensures.answer.1)
