use Rattle.std.proofs.Common.{◌≡◌, ◌+◌, ◌≤◌, [], length, drop}
use Rattle.toml.specs.View.{items_view}
use Rattle.hub_config_defs.specs.Conf.{rows_from}
use Rattle.hub_config.proofs.read.read_rows.Given as goal

abbrev pub invariant-loop-value : goal.invariant-loop-value
invariant-loop-value g l = record {
  row : l.row ≡ l.value-index + 1;
  few : length l.rows.items ≤ l.value-index;
  rest : rows_from (g.R.Row.row_of l.schedules) l.row l.rows.items (items_view (drop l.value-index l.values)) ≡ rows_from (g.R.Row.row_of l.schedules) 1 [] (items_view l.values);
}
