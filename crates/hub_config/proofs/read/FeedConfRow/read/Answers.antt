use Rattle.std.proofs.Common.{◌∙◌, ap, sym, Ok}
use Rattle.toml.specs.View.{table_view}
use Rattle.hub_config_defs.specs.Conf.{feed_row, feed_of}
use Rattle.hub_config.proofs.Rows.{passes, refuses, tells_passed}
use Rattle.hub_config.proofs.read.FeedConfRow.read.Goals as goal

pub returns-in_err-judge : goal.returns-in_err-judge
unfolding feed_row
returns-in_err-judge c = tells_passed _ _ _ c.from_residual.ensures.1 (refuses _ (feed_of c.args.schedules.now (table_view c.args.table.now)) _ c.in_err-judge.ensures)

pub returns : goal.returns
unfolding feed_row
returns c = passes _ (feed_of c.args.schedules.now (table_view c.args.table.now)) c.in_ok-judge.ensures ∙ ap Ok (sym c.in_ok-feed_of.ensures)
