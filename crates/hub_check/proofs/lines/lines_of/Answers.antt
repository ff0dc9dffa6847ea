-- The lines of the schedules up to one, and then its line or its fault.
use Rattle.std.proofs.Common.{◌∙◌, ℕ, Result, Vec, arith}
use Rattle.std.specs.declared.alloc.Global.{Global}
use Rattle.sched_load_defs.specs.Loading.{timetable}
use Rattle.hub_main_defs.specs.Checks.{counts_line, plan_conf}
use Rattle.hub_load.specs.declared.fault.HubFault.{HubFault}
use Rattle.hub_load.specs.Told.{IsAsTold}
use Rattle.hub_check.specs.Told.{lines_for}
use Rattle.hub_load.proofs.Stopping.{fault_by, left_there, plans_stop, stops_passed}
use Rattle.hub_load.proofs.Telling.{both_told, each_told, passed}
use Rattle.hub_check.proofs.CountsLines.{counts_end, counts_more, counts_stop, item_left, line_there}
use Rattle.hub_check.proofs.lines.lines_of.Goals as goal

pub returns-in_err-add_line-clause-told : goal.returns-in_err-add_line-clause-told
returns-in_err-add_line-clause-told g c =
    let inv = c.loop-schedule.invariant in
    both_told _ _ _ _ _ inv.0 inv.2 c.in_err-add_line.ensures.told
    (λ fs counts told. passed (λ (r : Result (Vec ℕ Global) HubFault). IsAsTold (λ (lines : Vec ℕ Global). lines.items) (lines_for fs c.args.schedules.now) r) _ _ c.from_residual.ensures.1
    (counts_stop fs c.args.schedules.now c.loop-schedule.schedule-index c.schedule-item.result c.loop-schedule.lines.items _ c.loop-schedule-test.true c.schedule-item.is counts told))

pub loop-schedule-preserved : goal.loop-schedule-preserved
loop-schedule-preserved g c =
    let inv = c.loop-schedule.invariant in
    let item = c.schedule-item.result in
    let step = c.in_ok-add_line.ensures in (
      step.same ∙ inv.0,
      omega (arith, inv.1, step.cause),
      both_told _ _ _ _ _ inv.0 inv.2 step.told
          (λ fs counts told. counts_more fs c.args.schedules.now c.loop-schedule.schedule-index c.schedule-item.result c.loop-schedule.lines.items c.add_line.new.lines.items c.loop-schedule-test.true c.schedule-item.is counts told),
      both_told _ _ _ _ _ inv.0 inv.3 step.told
          (λ fs stops told. left_there fs c.args.schedules.now _ _ item (item_left c.args.schedules.now c.loop-schedule.schedule-index item c.loop-schedule-test.true c.schedule-item.is) stops
          (line_there item.name (timetable fs item.folder (plan_conf item)) (counts_line item.name) c.loop-schedule.lines.items c.add_line.new.lines.items told)),
    )

pub returns-clause-told : goal.returns-clause-told
returns-clause-told g c =
    each_told _ _ _ c.loop-schedule.invariant.2 (λ fs counts. counts_end fs c.args.schedules.now c.loop-schedule.schedule-index c.loop-schedule.lines.items c.loop-schedule-test.false counts)

pub returns-in_err-add_line-clause-stops : goal.returns-in_err-add_line-clause-stops
returns-in_err-add_line-clause-stops g c =
    let inv = c.loop-schedule.invariant in
    let item = c.schedule-item.result in
    stops_passed _ _ _ c.from_residual.ensures.1
    (fault_by _ _ _ (plans_stop _ _ _ c.args.schedules.now _ _ item inv.0 (item_left c.args.schedules.now c.loop-schedule.schedule-index item c.loop-schedule-test.true c.schedule-item.is) inv.3) c.in_err-add_line.ensures.stops)
