-- The list of the table is searched.
use Rattle.std.proofs.Common.{◌∙◌}
use Rattle.entity_table.proofs.TableLemmas.{said_is}
use Rattle.entity_table.proofs.table.Table.get.Goals as goal

pub returns-clause-said : goal.returns-clause-said
returns-clause-said c = λ ms stood. said_is _ _ ms c.args.id.now c.stored_in.ensures (c.self.view_is ∙ stood)
