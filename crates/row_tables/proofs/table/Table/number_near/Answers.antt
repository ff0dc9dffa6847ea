use Rattle.std.proofs.Common.{◌∙◌, ap, sym}
use Rattle.sched_types.specs.Timetable.{number_of}
use Rattle.sched_types.proofs.TimetableLaws.{own_number}
use Rattle.sched_load_defs.specs.Numbers.{by_id}
use Rattle.row_tables.proofs.Numbered.{ids_rise, text_from}
use Rattle.row_tables.proofs.table.Table.number_near.Goals as goal

pub returns-then-eq-clause-value : goal.returns-then-eq-clause-value
returns-then-eq-clause-value g c =
    let id = g.R.IdRow.id_of in
    let rows = by_id id c.args.self.now in
    let text = text_from c.id.result.now c.args.id.now (sym c.eq.ensures ∙ c.if-eq.true) in
    sym (ap (number_of id rows) (sym (sym c.id.ensures ∙ text)) ∙ own_number id rows (ids_rise id c.args.self.now) c.args.near c.row.result.now c.row.ensures)
