-- The timetables and feeds of a configuration, or the first fault.
use Rattle.std.proofs.Common.{◌≡◌, ◌∙◌, ap, map, sym, subst, Ok, Result}
use Rattle.sched_types.specs.Schedules.{AreSchedules, Schedules}
use Rattle.hub_main_defs.specs.Hubs.{named_feed}
use Rattle.hub_main_defs.proofs.Hubs.{schedules_named}
use Rattle.hub_load.specs.Told.{IsAsTold, schedules_told}
use Rattle.hub_load.specs.declared.fault.HubFault.{HubFault}
use Rattle.hub_load.proofs.LoadedPlans.{plans_refused, plans_told}
use Rattle.hub_load.proofs.Stopping.{stops_passed}
use Rattle.hub_load.proofs.Telling.{each_told, passed}
use Rattle.hub_load.proofs.loading.plans_of.Goals as goal

pub returns-in_err-plans-clause-told : goal.returns-in_err-plans-clause-told
returns-in_err-plans-clause-told g c =
    each_told _ _ _ c.in_err-plans.ensures.told
    (λ fs told. passed (λ (r : Result Schedules HubFault). IsAsTold (λ (plans : Schedules). plans) (schedules_told fs c.args.conf) r) _ _ c.from_residual.ensures.1
    (plans_refused fs c.args.conf c.into_vec.result.items _ c.into_vec.ensures told))

pub new-requires : goal.new-requires
new-requires g c =
    let feeds : c.in_ok-feeds.feeds.items ≡ map named_feed c.args.conf.feeds = c.in_ok-feeds.ensures ∙ ap (map named_feed) c.into_vec-2.ensures in
    subst (λ named. AreSchedules (record { plans = c.in_ok-plans.plans.items; feeds = named })) (sym feeds)
    (schedules_named c.args.conf c.in_ok-plans.plans.items c.requires.legal (c.in_ok-plans.ensures.names ∙ ap (map (λ s. s.name)) c.into_vec.ensures))

pub returns-clause-told : goal.returns-clause-told
returns-clause-told g c =
    let feeds : c.in_ok-feeds.feeds.items ≡ map named_feed c.args.conf.feeds = c.in_ok-feeds.ensures ∙ ap (map named_feed) c.into_vec-2.ensures in
    each_told _ _ _ c.in_ok-plans.ensures.told
    (λ fs told. plans_told fs c.args.conf c.into_vec.result.items c.in_ok-plans.plans.items c.in_ok-feeds.feeds.items c.into_vec.ensures told feeds ∙ ap Ok (sym c.new.ensures))

pub returns-in_err-plans-clause-stops : goal.returns-in_err-plans-clause-stops
returns-in_err-plans-clause-stops g c = stops_passed _ _ _ c.from_residual.ensures.1 (rw c.into_vec.ensures at c.in_err-plans.ensures.stops)
