use Rattle.std.proofs.Common.{◌∙◌, length, get_or, ap, arith}
use Rattle.sched_types.specs.Sound.{table_in}
use Rattle.sched_types.proofs.Days.{date_early, date_late, date_at, length_dates}
use Rattle.sched_types.proofs.plan.Plan.date.Goals as goal

pub index-requires : goal.index-requires
index-requires c =
    let within = rw (← c.self.view_is) at c.requires in
    omega (arith, ap length c.self.invariant.dates, length_dates (table_in c.self.inside) c.self.invariant.table)

pub returns-clause-value : goal.returns-clause-value
returns-clause-value c =
    let within = rw (← c.self.view_is) at c.requires in
    rw (← c.self.view_is) (c.index.ensures ∙ ap (λ dates. get_or dates c.args.day c.index.result.now) c.self.invariant.dates ∙ date_at (table_in c.self.inside) c.self.invariant.table c.args.day c.index.result.now within)

pub returns-clause-early : goal.returns-clause-early
returns-clause-early c =
    let within = rw (← c.self.view_is) at c.requires in
    let value = c.index.ensures ∙ ap (λ dates. get_or dates c.args.day c.index.result.now) c.self.invariant.dates ∙ date_at (table_in c.self.inside) c.self.invariant.table c.args.day c.index.result.now within in
    omega (arith, value, date_early (table_in c.self.inside) c.self.invariant.table c.args.day within)

pub returns-clause-late : goal.returns-clause-late
returns-clause-late c =
    let within = rw (← c.self.view_is) at c.requires in
    let value = c.index.ensures ∙ ap (λ dates. get_or dates c.args.day c.index.result.now) c.self.invariant.dates ∙ date_at (table_in c.self.inside) c.self.invariant.table c.args.day c.index.result.now within in
    omega (arith, value, date_late (table_in c.self.inside) c.self.invariant.table c.args.day within)
