use Rattle.std.proofs.Common.{◌∙◌, ap, sym, Ok, []}
use Rattle.toml.specs.View.{table_view}
use Rattle.hub_config_defs.specs.declared.fault.TableName.TheVariants.{Top}
use Rattle.hub_config_defs.specs.Conf.{feeds_in, schedules_in}
use Rattle.hub_config_defs.specs.Faults.{fault_in}
use Rattle.hub_config.proofs.Documents.{conf_is, feeds_stop, schedules_stop, top_stops}
use Rattle.hub_config.proofs.Rows.{refused_whole, refuses, tells_passed}
use Rattle.hub_config.proofs.read.conf_in.Goals as goal

pub returns-in_err-judge : goal.returns-in_err-judge
returns-in_err-judge c =
    tells_passed _ _ _ c.from_residual.ensures.1
    (refused_whole _ _ _ (top_stops (table_view c.args.table.now))
    (refuses (fault_in Top 0 (table_view c.args.table.now) [] []) (table_view c.args.table.now) _ c.in_err-judge.ensures))

pub returns-in_err-schedules : goal.returns-in_err-schedules
returns-in_err-schedules c =
    tells_passed _ _ _ c.from_residual-in_err-schedules.ensures.1
    (refused_whole (schedules_in (table_view c.args.table.now)) _ _ (schedules_stop (table_view c.args.table.now) c.in_ok-judge.ensures)
    (rw c.tables_at.ensures.value at c.in_err-schedules.ensures.rows))

pub returns-in_err-feeds : goal.returns-in_err-feeds
returns-in_err-feeds c =
    tells_passed _ _ _ c.from_residual-in_err-feeds.ensures.1
    (refused_whole (feeds_in (table_view c.args.table.now) c.in_ok-schedules.schedules) _ _
    (feeds_stop (table_view c.args.table.now) c.in_ok-schedules.schedules c.in_ok-judge.ensures (rw c.tables_at.ensures.value at c.in_ok-schedules.ensures.rows))
    (rw (c.tables_at-2.ensures.value, c.as_slice.ensures) at c.in_err-feeds.ensures.rows))

pub returns : goal.returns
returns c =
    conf_is (table_view c.args.table.now) c.in_ok-schedules.schedules c.in_ok-feeds.feeds c.in_ok-judge.ensures
    (rw c.tables_at.ensures.value at c.in_ok-schedules.ensures.rows)
    (rw (c.tables_at-2.ensures.value, c.as_slice.ensures) at c.in_ok-feeds.ensures.rows)
    ∙ ap Ok (sym c.in_ok-hub_of.ensures)
