use Rattle.std.proofs.Common.{◌<◌, length, subst, sym, arith}
use Rattle.sched_load_defs.specs.Numbers.{by_id}
use Rattle.row_tables.proofs.Numbered.{order_within, order_row}
use Rattle.row_tables.proofs.table.Table.row.Goals as goal

pub index-requires-2 : goal.index-requires-2
index-requires-2 g c =
    let t = c.self.inside in
    let within = subst (λ xs. c.args.number < length (by_id g.R.IdRow.id_of xs)) (sym c.self.view_is) c.requires in
    omega (arith, order_within g.R.IdRow.id_of t.rows.items t.order.items c.self.invariant c.args.number c.index.result.now within c.index.ensures)

pub returns : goal.returns
returns g c =
    let t = c.self.inside in
    let within = subst (λ xs. c.args.number < length (by_id g.R.IdRow.id_of xs)) (sym c.self.view_is) c.requires in
    rw (← c.self.view_is) (order_row g.R.IdRow.id_of t.rows.items t.order.items c.self.invariant c.args.number c.index.result.now c.index-2.result.now within c.index.ensures c.index-2.ensures)
