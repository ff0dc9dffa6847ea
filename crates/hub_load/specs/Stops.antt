-- What an answer says of what was read before a file that could not be read.
use Rattle.std.specs.Prelude.{◌≡◌, ◌⊎◌, ℕ, List, [], ◌∷◌, Option, IfSome, Result, Ok, Err}
use Rattle.hub_outside.specs.Files.{file_at}
use Rattle.sched_types.specs.Timetable.{Timetable}
use Rattle.sched_load_defs.specs.Loading.{timetable}
use Rattle.sched_load_defs.specs.Stops.{StopsAt}
use Rattle.hub_config_defs.specs.declared.conf.HubConf.{HubConf}
use Rattle.hub_config_defs.specs.declared.conf.ScheduleConf.{ScheduleConf}
use Rattle.hub_main_defs.specs.Checks.{conf_in, plan_conf}
use Rattle.hub_load.specs.Told.{Stored}
use Rattle.hub_load.specs.declared.fault.HubFault.{HubFault}
use Rattle.hub_load.specs.declared.fault.HubFault.TheVariants.{Refused, FileFault, NoMemory}

-- something holds where the fault is a file that could not be read
abbrev pub AtFileFault : HubFault → Type 0 → Type 0
AtFileFault (Refused line) P = Unit {0}
AtFileFault FileFault P = P
AtFileFault NoMemory P = Unit {0}

-- something holds where the answer is a file that could not be read
abbrev pub StopsWith : {B : Type 0} → Result B HubFault → Type 0 → Type 0
StopsWith (Ok x) P = Unit {0}
StopsWith (Err fault) P = AtFileFault fault P

-- the files have the timetable of a schedule
abbrev pub IsThere : Stored → ScheduleConf → Type 0
IsThere files schedule = (t : Timetable)
    × (timetable files schedule.folder (plan_conf schedule) ≡ Ok t)

-- Loading the schedules in their order stops at the file of that path: it is a file of one of them
-- with none at fault before it, and the timetables of those in front are there.
unfoldable pub SchedulesStop : Stored → List ScheduleConf → List ℕ → Type 0
SchedulesStop files [] path = ⊥
SchedulesStop files (schedule ∷ more) path =
    StopsAt files schedule.folder (plan_conf schedule) path
    ⊎ (IsThere files schedule × SchedulesStop files more path)

-- Loading the configuration at a path and all its timetables stops at the file of that path: it is
-- the configuration itself, or a file of one of its timetables.
abbrev pub LoadingStops : Stored → List ℕ → List ℕ → Type 0
LoadingStops files conf_path path = (path ≡ conf_path)
    ⊎ ((conf : HubConf) × (conf_in (file_at files conf_path) ≡ Ok conf)
    × SchedulesStop files conf.schedules path)

-- the call that failed last, where the files and its path are told, is that at which so and so
-- stops
abbrev pub Stopped : Option Stored → Option (List ℕ) → (Stored → List ℕ → Type 0) → Type 0
Stopped contents place stops = IfSome contents (λ files. IfSome place (λ path. stops files path))

-- the same of one schedule
abbrev pub PlanStopped : Option Stored → Option (List ℕ) → ScheduleConf → Type 0
PlanStopped contents place schedule = Stopped contents place
    (λ files path. StopsAt files schedule.folder (plan_conf schedule) path)

-- the same of schedules in their order
abbrev pub PlansStopped : Option Stored → Option (List ℕ) → List ScheduleConf → Type 0
PlansStopped contents place schedules =
    Stopped contents place (λ files path. SchedulesStop files schedules path)

-- the same of a configuration and its schedules
abbrev pub LoadingStopped : Option Stored → Option (List ℕ) → List ℕ → Type 0
LoadingStopped contents place conf_path =
    Stopped contents place (λ files path. LoadingStops files conf_path path)
