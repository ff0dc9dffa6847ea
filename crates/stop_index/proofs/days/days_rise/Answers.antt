-- One day more, and at the end all days.
use Rattle.std.proofs.Common.{arith, length, ◌<◌, ◌≤◌}
use Rattle.stop_index.proofs.DayLemmas.{rise_step, rise_fails, rise_all}
use Rattle.stop_index.proofs.days.days_rise.Goals as goal

pub returns-then-base : goal.returns-then-base
returns-then-base c =
    let within : c.loop-day.day < length c.args.plan.now.bases = omega (arith, c.days-day-end.ensures) in
    rise_fails c.args.plan.now c.loop-day.day c.base.result c.base-in-loop-day.result c.loop-day.auto.day c.base.ensures.value c.base-in-loop-day.ensures.value c.base.ensures.small c.base-in-loop-day.ensures.small within c.if-base.true

pub loop-day-preserved : goal.loop-day-preserved
loop-day-preserved c =
    rise_step c.args.plan.now c.loop-day.day c.base.result c.base-in-loop-day.result c.loop-day.auto.day c.base.ensures.value c.base-in-loop-day.ensures.value c.base.ensures.small c.base-in-loop-day.ensures.small c.if-base.false c.loop-day.invariant

pub returns : goal.returns
returns c =
    let past : length c.args.plan.now.bases ≤ c.loop-day.day = omega (arith, c.days-day-end.ensures) in
    rise_all c.args.plan.now c.loop-day.day c.loop-day.auto.day past (λ some. omega (arith, c.days-day-end.ensures, c.loop-day.auto.day-end (omega (arith, c.days-day-end.ensures)))) c.loop-day.invariant
