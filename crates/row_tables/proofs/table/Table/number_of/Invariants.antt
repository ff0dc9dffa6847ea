use Rattle.std.proofs.Common.{◌-◌}
use Rattle.sched_load_defs.specs.Numbers.{by_id}
use Rattle.row_tables.proofs.Numbered.{Between}
use Rattle.row_tables.proofs.table.Table.number_of.Given as goal

abbrev pub invariant-loop-low : goal.invariant-loop-low
invariant-loop-low g l = Between g.R.IdRow.id_of (by_id g.R.IdRow.id_of l.self) l.id l.low l.high

abbrev pub decreases-loop-low : goal.decreases-loop-low
decreases-loop-low g l = l.high - l.low
