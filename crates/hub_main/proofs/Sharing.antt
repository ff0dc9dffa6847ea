-- What was loaded, or the fault, as preparing to serve answers it.
use Rattle.std.proofs.Common.{◌≡◌, ℕ, ◌≤◌, List, map, Some, Ok, Err, arith}
use Rattle.std.specs.Option.{IfSome}
use Rattle.hub_outside.specs.Outside.{FileStore, Stream}
use Rattle.sched_types.specs.Schedules.{Schedules}
use Rattle.hub_config_defs.specs.Right.{IsLegal}
use Rattle.hub_config_defs.specs.declared.conf.HubConf.{HubConf}
use Rattle.hub_main_defs.specs.Hubs.{configured_at, named_feed}
use Rattle.hub_load.specs.Configuring.{configured_seen}
use Rattle.hub_load.specs.Stops.{LoadingStopped, StopsWith}
use Rattle.hub_load.specs.Told.{HasCause, IsAsTold}
use Rattle.hub_load.specs.declared.fault.HubFault.{HubFault}
use Rattle.hub_load.specs.declared.loading.Configured.{Configured}
use Rattle.hub_load.proofs.LoadedPlans.{refused_without}
use Rattle.hub_load.proofs.Telling.{each_told}
use Rattle.hub_main.specs.declared.preparing.Prepared.{Prepared}
use Rattle.hub_main.specs.declared.preparing.Prepared.TheVariants.{Status}
use Rattle.hub_main.specs.Offline.{PrintsFault}
use Rattle.hub_main.specs.Serving.{IsSharing, PrepareOutcome}
use Rattle.hub_main.proofs.Commands.{load_failed, load_short}

-- a configuration and what it describes
abbrev beside : HubConf → Schedules → HubConf × Schedules
beside conf plans = (conf, plans)

-- it was loaded
pub loaded : (path : List ℕ) (files files' : FileStore) (output : Stream) (configured : Configured) (prepared : Prepared)
    → IfSome files.told (λ fs. configured_at fs path ≡ Ok (configured_seen configured))
    → configured.plans.feeds ≡ map named_feed configured.conf.feeds → IsLegal configured.conf → files.faults ≤ files'.faults
    → IsSharing configured prepared → PrepareOutcome (Some path) files files' output output prepared
loaded path files files' output configured prepared told feeds legal count six =
    grind (arith, each_told, load_short)

-- it was not, and the fault was printed
pub not_loaded : (path : List ℕ) (files files' : FileStore) (output output' : Stream) (status : ℕ) (fault : HubFault)
    → IfSome files.told (λ fs. IsAsTold configured_seen (configured_at fs path) (Err fault)) → HasCause {B = Configured} (Err fault) files.faults files'.faults
    → StopsWith {B = Configured} (Err fault) (LoadingStopped files.told files'.fault path) → PrintsFault fault output output' status → PrepareOutcome (Some path) files files' output output' (Status status)
not_loaded path files files' output output' status fault told cause stops printed =
    load_failed path files files' output output' status (λ (c : Configured). c.plans) fault
    (each_told files.told _ _ told (λ fs t. refused_without fs path fault t)) cause stops printed
