-- What preparing to serve comes to.
use Rattle.std.specs.Prelude.{◌≡◌, ℕ, ◌≤◌, List, map, Option, Some, None, IfSome, Ok}
use Rattle.std.specs.Arc.{arc_value}
use Rattle.exit_status.specs.Codes.{code_of}
use Rattle.exit_status.specs.declared.status.ExitStatus.TheVariants as exit
use Rattle.hub_outside.specs.Outside.{FileStore, Stream}
use Rattle.hub_config_defs.specs.Right.{IsLegal}
use Rattle.hub_main_defs.specs.Hubs.{configured_at, named_feed}
use Rattle.hub_load.specs.declared.loading.Configured.{Configured}
use Rattle.hub_main.specs.declared.preparing.Prepared.{Prepared}
use Rattle.hub_main.specs.declared.preparing.Prepared.TheVariants.{Ready, Status}
use Rattle.hub_main.specs.declared.preparing.ServeConf.{ServeConf}
use Rattle.hub_main.specs.Offline.{LoadFailed, UsageOutcome}

-- A hub may be opened: configuration, timetables and feeds are those of the configuration at the
-- path, where the files are told; the feeds are always those of the configuration, in its order.
-- Nothing was written.
pub record IsReady (path : List ℕ) (files files' : FileStore) (output output' : Stream)
    (ready : ServeConf) : Type 0 where
  pub told : IfSome files.told (λ fs.
      configured_at fs path ≡ Ok (ready.conf, arc_value ready.plans))
  pub feeds : (arc_value ready.plans).feeds ≡ map named_feed ready.conf.feeds
  pub legal : IsLegal ready.conf
  pub files_count : files.faults ≤ files'.faults
  pub unwritten : output' ≡ output

-- what preparing to serve comes to, by the path that the words name: words that name none are
-- answered as those that are no command; a configuration or timetable that is refused, or a file
-- that can't be read, as by every command that needs a hub
abbrev pub PrepareOutcome : Option (List ℕ) → FileStore → FileStore → Stream → Stream → Prepared
    → Type 0
PrepareOutcome None files files' output output' (Ready ready) = ⊥
PrepareOutcome None files files' output output' (Status status) =
    UsageOutcome output output' status × (files' ≡ files)
PrepareOutcome (Some path) files files' output output' (Ready ready) =
    IsReady path files files' output output' ready
PrepareOutcome (Some path) files files' output output' (Status status) =
    LoadFailed path files files' output output' status

-- what was loaded is shared, or memory ran out
abbrev pub IsSharing : Configured → Prepared → Type 0
IsSharing configured (Ready ready) =
    (ready.conf ≡ configured.conf) × (arc_value ready.plans ≡ configured.plans)
IsSharing configured (Status status) = status ≡ code_of exit.NoMemory
