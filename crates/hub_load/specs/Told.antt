-- What loading answers, of what is told of the files.
use Rattle.std.specs.Prelude.{◌≡◌, ℕ, ◌≤◌, List, [], ◌∷◌, ◌++◌, map, Option, Some, None, Result, Ok, Err, codes}
use Rattle.hub_outside.specs.Count.{Rose}
use Rattle.answer_defs.specs.Steps.{◌>>=◌}
use Rattle.text_defs.specs.Cleaned.{line_feed}
use Rattle.sched_types.specs.declared.plans.NamedPlan.{NamedPlan}
use Rattle.sched_types.specs.Schedules.{Schedules}
use Rattle.sched_types.specs.Timetable.{Timetable}
use Rattle.sched_load_defs.specs.Loading.{timetable}
use Rattle.sched_load_defs.specs.declared.fault.LoadFault.{LoadFault}
use Rattle.sched_load_defs.specs.declared.fault.LoadFault.TheVariants as load
use Rattle.hub_config_defs.specs.Lines.{line_of}
use Rattle.hub_config_defs.specs.declared.conf.HubConf.{HubConf}
use Rattle.hub_config_defs.specs.declared.conf.ScheduleConf.{ScheduleConf}
use Rattle.hub_config_defs.specs.declared.fault.ConfFault.{ConfFault}
use Rattle.hub_config_defs.specs.declared.fault.ConfFault.TheVariants as conf
use Rattle.hub_main_defs.specs.Faults.{load_words}
use Rattle.hub_main_defs.specs.Checks.{timetable_or_line, plan_conf}
use Rattle.hub_main_defs.specs.Hubs.{named_feed}
use Rattle.hub_load.specs.declared.fault.HubFault.{HubFault}
use Rattle.hub_load.specs.declared.fault.HubFault.TheVariants.{Refused, FileFault, NoMemory}

-- the files, each with its path and its bytes
abbrev pub Stored : Type 0
Stored = List (List ℕ × List ℕ)

-- the line of a timetable's fault
abbrev pub load_line : List ℕ → LoadFault → List ℕ
load_line name fault = codes "hub: load " ++ name ++ codes " " ++ load_words fault ++ line_feed

-- the line that is printed for a refusal
abbrev pub refusal_line : {A : Type 0} → Result A (List ℕ) → Option (List ℕ)
refusal_line (Ok x) = None
refusal_line (Err line) = Some (line ++ line_feed)

-- a refusal has the line that is told; a file that could not be read and want of memory say nothing
abbrev pub TellsFault : {A : Type 0} → Result A (List ℕ) → HubFault → Type 0
TellsFault told (Refused line) = refusal_line told ≡ Some line.items
TellsFault told FileFault = Unit {0}
TellsFault told NoMemory = Unit {0}

-- a value is the one that is told, and a refusal has the line that is told
abbrev pub IsAsTold : {A B : Type 0} → (B → A) → Result A (List ℕ) → Result B HubFault → Type 0
IsAsTold view told (Ok x) = told ≡ Ok (view x)
IsAsTold view told (Err fault) = TellsFault told fault

-- the count of faults did not fall, and a file that could not be read raised it
abbrev pub HasCause : {B : Type 0} → Result B HubFault → ℕ → ℕ → Type 0
HasCause (Ok x) before after = before ≤ after
HasCause (Err (Refused line)) before after = before ≤ after
HasCause (Err FileFault) before after = (before ≤ after) × Rose before after
HasCause (Err NoMemory) before after = before ≤ after

-- something is wrong with the timetable itself, so that there are words for it
abbrev pub HasWords : LoadFault → Type 0
HasWords load.BadZone = Unit {0}
HasWords (load.MissingFile file) = Unit {0}
HasWords (load.TooLong file) = Unit {0}
HasWords (load.Rows file e) = Unit {0}
HasWords (load.UnknownRef file row column) = Unit {0}
HasWords (load.Duplicate file row) = Unit {0}
HasWords (load.TripTimes row) = Unit {0}
HasWords load.FileFault = ⊥
HasWords load.NoMemory = ⊥

-- what a loader's fault comes to: a refusal with the line of what is wrong with the timetable
abbrev pub IsLoadRefusal : List ℕ → LoadFault → HubFault → Type 0
IsLoadRefusal name fault (Refused line) = (line.items ≡ load_line name fault) × HasWords fault
IsLoadRefusal name fault FileFault = fault ≡ load.FileFault
IsLoadRefusal name fault NoMemory = Unit {0}

-- no file was asked for
abbrev pub NeedsNoFile : {B : Type 0} → Result B HubFault → Type 0
NeedsNoFile (Ok x) = Unit {0}
NeedsNoFile (Err (Refused line)) = Unit {0}
NeedsNoFile (Err FileFault) = ⊥
NeedsNoFile (Err NoMemory) = Unit {0}

-- it is refused with that line
abbrev pub IsRefusedWith : List ℕ → HubFault → Type 0
IsRefusedWith line (Refused l) = l.items ≡ line
IsRefusedWith line FileFault = ⊥
IsRefusedWith line NoMemory = Unit {0}

-- what a configuration's fault comes to: a refusal with its line
abbrev pub IsConfRefusal : ConfFault → HubFault → Type 0
IsConfRefusal fault (Refused line) = (line.items ≡ line_of fault ++ line_feed)
    × (fault ≡ conf.NoMemory → ⊥)
IsConfRefusal fault FileFault = ⊥
IsConfRefusal fault NoMemory = Unit {0}

-- the timetable of a schedule, or the line that tells why there is none
abbrev pub plan_told : Stored → ScheduleConf → Result Timetable (List ℕ)
plan_told files schedule =
    timetable_or_line schedule.name (timetable files schedule.folder (plan_conf schedule))

-- the same under the schedule's name and prefix
abbrev pub named_plan_told : Stored → ScheduleConf → Result NamedPlan (List ℕ)
named_plan_told files schedule = plan_told files schedule >>= λ t.
    Ok (record { name = schedule.name; prefix = schedule.prefix; plan = t })

-- behind items that are there already
abbrev pub with_front : {A : Type 0} → List A → Result (List A) (List ℕ) → Result (List A) (List ℕ)
with_front front told = told >>= λ more. Ok (front ++ more)

-- those of schedules, in their order, or the line of the first fault
unfoldable pub named_plans_told : Stored → List ScheduleConf → Result (List NamedPlan) (List ℕ)
named_plans_told files [] = Ok []
named_plans_told files (schedule ∷ more) = named_plan_told files schedule >>= λ plan.
    with_front (plan ∷ []) (named_plans_told files more)

-- those of a configuration, with its feeds
abbrev pub schedules_told : Stored → HubConf → Result Schedules (List ℕ)
schedules_told files conf = named_plans_told files conf.schedules >>= λ plans.
    Ok (record { plans = plans; feeds = map named_feed conf.feeds })
