-- The configuration's fault, want of memory for its copy, or its timetables and feeds beside it.
use Rattle.std.proofs.Common.{Result}
use Rattle.hub_main_defs.specs.Hubs.{configured_at}
use Rattle.hub_load.specs.Configuring.{configured_seen}
use Rattle.hub_load.specs.Told.{IsAsTold}
use Rattle.hub_load.specs.declared.fault.HubFault.{HubFault}
use Rattle.hub_load.specs.declared.loading.Configured.{Configured}
use Rattle.hub_load.proofs.LoadedPlans.{configured_plans_refused, configured_refused, configured_told}
use Rattle.hub_load.proofs.Stopping.{behind_conf, conf_stops, fault_by, no_fault, stops_passed}
use Rattle.hub_load.proofs.Telling.{both_told, each_told, passed}
use Rattle.hub_load.proofs.loading.load_configured.Goals as goal

pub returns-in_err-conf-clause-told : goal.returns-in_err-conf-clause-told
returns-in_err-conf-clause-told g c =
    each_told _ _ _ c.in_err-conf.ensures.told
    (λ fs told. passed (λ (r : Result Configured HubFault). IsAsTold configured_seen (configured_at fs c.args.path.now) r) _ _ c.from_residual.ensures.1 (configured_refused fs c.args.path.now _ told))

pub returns-in_err-plans-clause-told : goal.returns-in_err-plans-clause-told
returns-in_err-plans-clause-told g c =
    both_told _ _ _ _ _ c.in_ok-conf.ensures.same c.in_ok-conf.ensures.told c.in_err-plans.ensures.told
    (λ fs is told. passed (λ (r : Result Configured HubFault). IsAsTold configured_seen (configured_at fs c.args.path.now) r) _ _ c.from_residual-in_err-plans.ensures.1
    (configured_plans_refused fs c.args.path.now c.in_ok-conf.conf c.in_ok-copy.copy _ is c.in_ok-copy.ensures.copy told))

pub returns-clause-told : goal.returns-clause-told
returns-clause-told g c =
    both_told _ _ _ _ _ c.in_ok-conf.ensures.same c.in_ok-conf.ensures.told c.in_ok-plans.ensures.told
    (λ fs is told. configured_told fs c.args.path.now c.in_ok-conf.conf c.in_ok-copy.copy c.in_ok-plans.plans is c.in_ok-copy.ensures.copy told)

pub returns-in_err-conf-clause-stops : goal.returns-in_err-conf-clause-stops
returns-in_err-conf-clause-stops g c =
    stops_passed _ _ _ c.from_residual.ensures.1 (fault_by _ _ _ (conf_stops (g.F.Files.contents c.args.files.now) _ c.args.path.now) c.in_err-conf.ensures.stops)

pub returns-in_err-copy-clause-stops : goal.returns-in_err-copy-clause-stops
returns-in_err-copy-clause-stops g c =
    stops_passed _ _ _ c.from_residual-in_err-copy.ensures.1 (no_fault _ _ c.in_err-copy.ensures.memory)

pub returns-in_err-plans-clause-stops : goal.returns-in_err-plans-clause-stops
returns-in_err-plans-clause-stops g c =
    stops_passed _ _ _ c.from_residual-in_err-plans.ensures.1
    (fault_by _ _ _ (behind_conf (g.F.Files.contents c.args.files.now) _ _ c.args.path.now c.in_ok-conf.conf c.in_ok-conf.ensures.same c.in_ok-conf.ensures.told) (rw c.in_ok-copy.ensures.copy at c.in_err-plans.ensures.stops))
