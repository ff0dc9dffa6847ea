-- The half in which the search goes on.
use Rattle.std.proofs.Common.{◌+◌, ◌-◌, ◌/◌, pos, ◌+ℤ◌, ◌<ℤ◌, w64, sym, subst, ◌∙◌, arith}
use Rattle.std.proofs.lemmas.Int.{to_z-of_z}
use Rattle.sched_types.specs.Timetable.{base_of}
use Rattle.stop_index.proofs.DayLemmas.{before_none, before_low, before_high}
use Rattle.stop_index.proofs.days.days_before.Goals as goal

pub loop-low-init : goal.loop-low-init
loop-low-init c = before_none c.args.plan.now c.args.longest _ c.days-high.result c.days-high.ensures

pub loop-low-preserved-then-ends_before : goal.loop-low-preserved-then-ends_before
loop-low-preserved-then-ends_before c =
    before_low c.args.plan.now c.args.longest _ c.loop-low.low c.loop-low.high (c.loop-low.low + (c.loop-low.high - c.loop-low.low) / 2) c.loop-low.invariant c.requires (omega arith)
    (sym c.ends_before.ensures ∙ c.if-ends_before.true)

pub loop-low-preserved : goal.loop-low-preserved
loop-low-preserved c =
    before_high c.args.plan.now c.args.longest _ c.loop-low.low c.loop-low.high (c.loop-low.low + (c.loop-low.high - c.loop-low.low) / 2) c.loop-low.invariant (omega arith) (omega arith)

pub returns : goal.returns
returns c = record {
  within = omega (arith, c.loop-low.invariant.ordered, c.loop-low.invariant.within);
  before = λ day h.
      subst (λ z. (base_of c.args.plan.now day +ℤ pos c.args.longest) <ℤ z) (to_z-of_z w64 c.args.instant c.ranges.instant) (c.loop-low.invariant.before day h);
}
