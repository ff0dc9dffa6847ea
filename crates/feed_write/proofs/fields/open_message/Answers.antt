-- A tag below 128 is one byte.
use Rattle.std.proofs.Common.{◌+◌, ◌*◌, ap, arith}
use Rattle.feed_write.proofs.Spelling.{opened}
use Rattle.feed_write.proofs.fields.open_message.Goals as goal

pub returns-then-tag-lt128-clause-opened : goal.returns-then-tag-lt128-clause-opened
returns-then-tag-lt128-clause-opened c =
    opened c.args.number _ _ _ _ (ap (λ n. n * 8 + 2) c.from.ensures) c.if-tag-lt128.true c.in_ok-extend_from_slice.ensures.items (omega (arith, c.len.ensures))
