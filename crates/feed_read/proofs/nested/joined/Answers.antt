use Rattle.std.proofs.Common.{refl}
use Rattle.field_read.proofs.Faults.{fails_whole}
use Rattle.feed_read.proofs.Fields.{joins_begin, joins_on, joins_stop, joins_end, joins_passed}
use Rattle.feed_read.proofs.nested.joined.Goals as goal

pub loop-payload-init : goal.loop-payload-init
loop-payload-init g c = rw c.new-bytes.ensures.items (joins_begin _ _)

pub loop-payload-preserved : goal.loop-payload-preserved
loop-payload-preserved g c =
    joins_on g.M.Message.table.kind _ _ _ _ c.loop-payload.invariant _ _ _ c.in-Some.ensures.steps c.in_ok-_unknown.ensures.spelled c.in_ok-extend_from_slice.ensures.items

pub returns-in_err-_unknown : goal.returns-in_err-_unknown
returns-in_err-_unknown g c =
    rw (← c.into_iter-payload-iterator.ensures.into_iter_gives)
    (joins_passed g.M.Message.table.kind _ _ _ c.from_residual.ensures.1
    (fails_whole _ _ _ (joins_stop g.M.Message.table.kind _ _ _ _ c.loop-payload.invariant _ _ c.in-Some.ensures.steps) c.in_err-_unknown.ensures))

pub returns : goal.returns
returns g c =
    rw (c.then_some.ensures, ← c.into_iter-payload-iterator.ensures.into_iter_gives)
    (joins_end g.M.Message.table.kind _ _ _ _ c.loop-payload.invariant _ refl c.in-None.ensures.steps.0)
