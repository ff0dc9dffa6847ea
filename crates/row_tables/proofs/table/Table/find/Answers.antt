use Rattle.std.proofs.Common.{◌∙◌, sym, Some, None}
use Rattle.std.specs.Str.{bytes_eq}
use Rattle.sched_load_defs.specs.Numbers.{by_id}
use Rattle.row_tables.proofs.Numbered.{find_by_number, find_in_order}
use Rattle.row_tables.proofs.table.Table.find.Goals as goal

pub returns-in-Some : goal.returns-in-Some
returns-in-Some g c =
    let id = g.R.IdRow.id_of in
    sym c.row.ensures
    ∙ sym (find_by_number (λ row. bytes_eq (id row) c.args.id.now) (by_id id c.args.self.now) (Some c.in-Some.number) (sym c.number_of.ensures.value ∙ c.in-Some.is))
    ∙ find_in_order id c.args.id.now c.args.self.now

pub returns-in-None : goal.returns-in-None
returns-in-None g c =
    let id = g.R.IdRow.id_of in
    sym (find_by_number (λ row. bytes_eq (id row) c.args.id.now) (by_id id c.args.self.now) None (sym c.number_of.ensures.value ∙ c.in-None.is))
    ∙ find_in_order id c.args.id.now c.args.self.now
