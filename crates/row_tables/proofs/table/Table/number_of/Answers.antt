use Rattle.std.proofs.Common.{◌+◌, ◌-◌, ◌/◌, ap, sym, ◌∙◌, arith}
use Rattle.std.specs.Cmp.Lexicographic.{slice_cmp}
use Rattle.std.specs.Ordering.{nat_cmp}
use Rattle.sched_load_defs.specs.Numbers.{by_id}
use Rattle.row_tables.proofs.Numbered.{ids_rise, between_right, between_left, between_found, between_none}
use Rattle.row_tables.proofs.table.Table.number_of.Goals as goal

pub loop-low-preserved-in-Less : goal.loop-low-preserved-in-Less
loop-low-preserved-in-Less g c =
    let id = g.R.IdRow.id_of in
    let middle = c.loop-low.low + (c.loop-low.high - c.loop-low.low) / 2 in
    between_right id (by_id id c.args.self.now) (ids_rise id c.args.self.now) c.args.id.now c.loop-low.low c.loop-low.high middle c.row.result.now c.loop-low.invariant (omega arith) c.row.ensures
    (ap (λ x. slice_cmp nat_cmp x c.args.id.now) (sym c.id.ensures) ∙ sym c.cmp.ensures ∙ c.in-Less.is)

pub returns-in-Equal-clause-value : goal.returns-in-Equal-clause-value
returns-in-Equal-clause-value g c =
    let id = g.R.IdRow.id_of in
    let middle = c.loop-low.low + (c.loop-low.high - c.loop-low.low) / 2 in
    sym (between_found id (by_id id c.args.self.now) (ids_rise id c.args.self.now) c.args.id.now middle c.row.result.now c.row.ensures
    (ap (λ x. slice_cmp nat_cmp x c.args.id.now) (sym c.id.ensures) ∙ sym c.cmp.ensures ∙ c.in-Equal.is))

pub loop-low-preserved : goal.loop-low-preserved
loop-low-preserved g c =
    let id = g.R.IdRow.id_of in
    let middle = c.loop-low.low + (c.loop-low.high - c.loop-low.low) / 2 in
    between_left id (by_id id c.args.self.now) (ids_rise id c.args.self.now) c.args.id.now c.loop-low.low c.loop-low.high middle c.row.result.now c.loop-low.invariant (omega arith) (omega arith) c.row.ensures
    (ap (λ x. slice_cmp nat_cmp x c.args.id.now) (sym c.id.ensures) ∙ sym c.cmp.ensures ∙ c.in-Greater.is)

pub returns-clause-value : goal.returns-clause-value
returns-clause-value g c =
    let id = g.R.IdRow.id_of in
    sym (between_none id (by_id id c.args.self.now) (ids_rise id c.args.self.now) c.args.id.now c.loop-low.low c.loop-low.high c.loop-low.invariant c.loop-low-test.false)
