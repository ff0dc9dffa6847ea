-- The configuration's fault, or its timetables and feeds.
use Rattle.std.proofs.Common.{sym, subst, Result}
use Rattle.sched_types.specs.Schedules.{Schedules}
use Rattle.hub_main_defs.specs.Hubs.{schedules_at}
use Rattle.hub_load.specs.Told.{IsAsTold}
use Rattle.hub_load.specs.declared.fault.HubFault.{HubFault}
use Rattle.hub_load.proofs.LoadedPlans.{conf_refused, whole}
use Rattle.hub_load.proofs.Stopping.{behind_conf, conf_stops, fault_by, stops_by, stops_passed}
use Rattle.hub_load.proofs.Telling.{both_told, each_told, passed}
use Rattle.hub_load.proofs.loading.load_plans.Goals as goal

pub returns-in_err-conf-clause-told : goal.returns-in_err-conf-clause-told
returns-in_err-conf-clause-told g c =
    each_told _ _ _ c.in_err-conf.ensures.told
    (λ fs told. passed (λ (r : Result Schedules HubFault). IsAsTold (λ (plans : Schedules). plans) (schedules_at fs c.args.path.now) r) _ _ c.from_residual.ensures.1 (conf_refused fs c.args.path.now _ told))

pub returns-clause-told : goal.returns-clause-told
returns-clause-told g c =
    both_told _ _ _ _ _ c.in_ok-conf.ensures.same c.in_ok-conf.ensures.told c.plans_of.ensures.told
    (λ fs is told. subst (λ r. IsAsTold (λ (plans : Schedules). plans) r c.plans_of.result) (sym (whole fs c.args.path.now c.in_ok-conf.conf is)) told)

pub returns-in_err-conf-clause-stops : goal.returns-in_err-conf-clause-stops
returns-in_err-conf-clause-stops g c =
    stops_passed _ _ _ c.from_residual.ensures.1 (fault_by _ _ _ (conf_stops (g.F.Files.contents c.args.files.now) _ c.args.path.now) c.in_err-conf.ensures.stops)

pub returns-clause-stops : goal.returns-clause-stops
returns-clause-stops g c =
    stops_by c.plans_of.result _ _ (behind_conf (g.F.Files.contents c.args.files.now) _ _ c.args.path.now c.in_ok-conf.conf c.in_ok-conf.ensures.same c.in_ok-conf.ensures.told) c.plans_of.ensures.stops
