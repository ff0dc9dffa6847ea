-- The timetables up to one schedule, and then its own or its fault.
use Rattle.std.proofs.Common.{◌≡◌, ◌∙◌, ◌++◌, ◌∷◌, [], sym, subst, Result, Vec, arith}
use Rattle.std.specs.declared.alloc.Global.{Global}
use Rattle.std.proofs.lemmas.Grind.{common_steps}
use Rattle.sched_types.specs.declared.plans.NamedPlan.{NamedPlan}
use Rattle.sched_types.specs.Timetable.{Timetable}
use Rattle.sched_load_defs.specs.Loading.{timetable}
use Rattle.hub_config_defs.specs.declared.conf.ScheduleConf.{ScheduleConf}
use Rattle.hub_main_defs.specs.Checks.{plan_conf}
use Rattle.hub_load.specs.declared.fault.HubFault.{HubFault}
use Rattle.hub_load.specs.Told.{IsAsTold, named_plans_told}
use Rattle.hub_load.proofs.LoadedPlans.{IsLeft, LoadsLeft, left_more, loads_end, loads_more, loads_stop}
use Rattle.hub_load.proofs.Stopping.{fault_by, is_there, left_there, plans_stop, stops_passed}
use Rattle.hub_load.proofs.Telling.{both_told, each_told, passed}
use Rattle.hub_load.proofs.loading.named_plans.Goals as goal

abbrev named : ScheduleConf → Timetable → NamedPlan
named s t = record { name = s.name; prefix = s.prefix; plan = t }

pub returns-in_err-plan-clause-told : goal.returns-in_err-plan-clause-told
returns-in_err-plan-clause-told g c =
    let inv = c.loop-schedule.invariant in
    both_told _ _ _ _ _ inv.same inv.told c.in_err-plan.ensures.told
    (λ fs so_far told. passed (λ (r : Result (Vec NamedPlan Global) HubFault). IsAsTold (λ (plans : Vec NamedPlan Global). plans.items) (named_plans_told fs c.args.schedules.items) r) _ _ c.from_residual.ensures.1
    (loads_stop fs c.args.schedules.items c.loop-schedule.schedule-iterator.rest.items c.next.new.self.rest.items c.in-Some.schedule c.loop-schedule.plans.items _ c.in-Some.ensures.steps.0 so_far told))

pub loop-schedule-preserved : goal.loop-schedule-preserved
loop-schedule-preserved g c =
    let inv = c.loop-schedule.invariant in
    let step = c.in_ok-plan.ensures in
    let first = c.in-Some.ensures.steps.0 in
    let grown : c.push.new.self.items ≡ c.loop-schedule.plans.items ++ c.in_ok-plan.plan ∷ [] = c.in_ok-push.ensures.items in
    record {
      same = step.same ∙ inv.same;
      rose = omega (arith, inv.rose, step.cause);
      left = subst (λ plans. IsLeft c.args.schedules.items c.next.new.self.rest.items plans) (sym grown) (left_more c.args.schedules.items c.loop-schedule.schedule-iterator.rest.items c.next.new.self.rest.items c.in-Some.schedule c.loop-schedule.plans.items c.in_ok-plan.plan first inv.left step.name);
      stops =
          both_told _ _ _ _ _ inv.same inv.stops step.told
          (λ fs stops told. left_there fs c.args.schedules.items c.loop-schedule.schedule-iterator.rest.items c.next.new.self.rest.items c.in-Some.schedule first stops
          (is_there c.in-Some.schedule.name (timetable fs c.in-Some.schedule.folder (plan_conf c.in-Some.schedule)) (λ t. named c.in-Some.schedule t) c.in_ok-plan.plan told));
      told =
          both_told _ _ _ _ _ inv.same inv.told step.told
          (λ fs so_far told. subst (λ plans. LoadsLeft fs c.args.schedules.items c.next.new.self.rest.items plans) (sym grown)
          (loads_more fs c.args.schedules.items c.loop-schedule.schedule-iterator.rest.items c.next.new.self.rest.items c.in-Some.schedule c.loop-schedule.plans.items c.in_ok-plan.plan first so_far told));
    }

pub returns-clause-told : goal.returns-clause-told
returns-clause-told g c =
    let none : c.loop-schedule.schedule-iterator.rest.items ≡ [] = grind (arith, common_steps) in
    each_told _ _ _ c.loop-schedule.invariant.told (λ fs so_far. loads_end fs c.args.schedules.items c.loop-schedule.schedule-iterator.rest.items c.loop-schedule.plans.items none so_far)

pub returns-in_err-plan-clause-stops : goal.returns-in_err-plan-clause-stops
returns-in_err-plan-clause-stops g c =
    let inv = c.loop-schedule.invariant in
    stops_passed _ _ _ c.from_residual.ensures.1
    (fault_by _ _ _ (plans_stop _ _ _ c.args.schedules.items c.loop-schedule.schedule-iterator.rest.items c.next.new.self.rest.items c.in-Some.schedule inv.same c.in-Some.ensures.steps.0 inv.stops) c.in_err-plan.ensures.stops)
