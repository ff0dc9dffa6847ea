-- What is no newer is what was held, and nothing of it is sent.
use Rattle.std.proofs.Common.{sym, ◌∙◌}
use Rattle.delta_feed.proofs.SettledLemmas.{passed_over, passed_short}
use Rattle.delta_feed.proofs.sent.push_unless_settled.Goals as goal

pub returns-then-is_no_newer-clause-sent : goal.returns-then-is_no_newer-clause-sent
returns-then-is_no_newer-clause-sent c =
    passed_over c.args.prefix.now c.args.feed.now c.args.stamp c.args.pair.now c.args.out.now.items c.requires (sym c.if-is_no_newer.true ∙ c.is_no_newer.ensures)

pub returns-then-is_no_newer-clause-short : goal.returns-then-is_no_newer-clause-short
returns-then-is_no_newer-clause-short c =
    passed_short c.args.prefix.now c.args.feed.now c.args.stamp c.args.pair.now c.requires (sym c.if-is_no_newer.true ∙ c.is_no_newer.ensures)
