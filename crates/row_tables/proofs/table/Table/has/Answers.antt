use Rattle.std.proofs.Common.{◌∙◌, ap}
use Rattle.std.specs.Prelude.{is_some}
use Rattle.row_tables.proofs.Numbered.{has_by_number}
use Rattle.row_tables.proofs.table.Table.has.Goals as goal

pub returns : goal.returns
returns g c = c.is_some.ensures ∙ ap is_some c.number_of.ensures.value ∙ has_by_number g.R.IdRow.id_of c.args.id.now c.args.self.now
