use Rattle.std.proofs.Common.{sym, ◌∙◌, drop}
use Rattle.http_req.proofs.HeadEnds.{ended_at}
use Rattle.http_req.proofs.progress.Progress.after.Goals as goal

pub returns-then-has_ended : goal.returns-then-has_ended
returns-then-has_ended c =
    sym (ended_at c.loop-byte.progress (drop c.loop-byte.byte-index c.args.bytes.now) (sym c.has_ended.ensures ∙ c.if-has_ended.true)) ∙ c.loop-byte.invariant
