use Rattle.std.proofs.Common.{sym, ◌∙◌, arith}
use Rattle.sched_types.proofs.Days.{no_date, day_there, day_elsewhere}
use Rattle.sched_types.specs.Sound.{table_in}
use Rattle.sched_types.proofs.plan.Plan.day_of.Goals as goal

pub returns-then-not-is_valid_date-clause-value : goal.returns-then-not-is_valid_date-clause-value
returns-then-not-is_valid_date-clause-value c =
    rw (← c.self.view_is) (sym (no_date (table_in c.self.inside) c.self.invariant.table c.args.date (sym c.is_valid_date.ensures ∙ c.if-not-is_valid_date.true)))

pub returns-then-number-first-clause-value : goal.returns-then-number-first-clause-value
returns-then-number-first-clause-value c =
    rw (← c.self.view_is) (sym (day_elsewhere (table_in c.self.inside) c.self.invariant.table c.args.date
    (λ k h same. omega (arith, c.day_number-first.ensures.value, c.day_number-number.ensures.value))))

pub returns-then-day-len-clause-value : goal.returns-then-day-len-clause-value
returns-then-day-len-clause-value c =
    rw (← c.self.view_is, c.day_number-first.ensures.value, c.day_number-number.ensures.value)
    (sym (day_there (table_in c.self.inside) c.self.invariant.table c.args.date (sym c.is_valid_date.ensures ∙ c.if-not-is_valid_date.false)
    (omega (arith, c.day_number-first.ensures.value, c.day_number-number.ensures.value))
    (omega (arith, c.day_number-first.ensures.value, c.day_number-number.ensures.value))))

pub returns-else-day-len-clause-value : goal.returns-else-day-len-clause-value
returns-else-day-len-clause-value c =
    rw (← c.self.view_is) (sym (day_elsewhere (table_in c.self.inside) c.self.invariant.table c.args.date
    (λ k h same. omega (arith, c.day_number-first.ensures.value, c.day_number-number.ensures.value))))
