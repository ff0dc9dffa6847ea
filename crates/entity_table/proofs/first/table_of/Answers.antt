-- Where none is deleted, the list of the entities is the table that they make.
use Rattle.std.proofs.Common.{◌∙◌, sym}
use Rattle.entity_table.proofs.AtOnce.{table_listed}
use Rattle.entity_table.proofs.first.table_of.Goals as goal

pub returns-in_ok-listed_by_key : goal.returns-in_ok-listed_by_key
returns-in_ok-listed_by_key c =
    table_listed c.in_ok-listed_by_key.field-0 c.args.all.items c.as_slice.result.now c.as_slice.ensures.value
    (sym c.has_deleted.ensures ∙ c.if-has_deleted.false)
    c.in_ok-listed_by_key.ensures
