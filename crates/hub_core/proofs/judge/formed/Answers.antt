use Rattle.std.proofs.Common.{sym, ◌∙◌}
use Rattle.feed_defs.specs.Table.{read}
use Rattle.hub_core.proofs.JudgeLemmas.{judged_long, judged_read}
use Rattle.hub_core.proofs.judge.formed.Goals as goal

pub returns-then-is_too_long : goal.returns-then-is_too_long
returns-then-is_too_long c = rw c.too_long.ensures (judged_long _ (sym c.is_too_long.ensures ∙ c.if-is_too_long.true))

pub returns : goal.returns
returns c = judged_read c.args.bytes.now c.judged.result (sym c.is_too_long.ensures ∙ c.if-is_too_long.false) (c.judged.ensures (read c.args.bytes.now) c.read_message.ensures)
