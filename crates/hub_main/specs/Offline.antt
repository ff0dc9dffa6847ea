-- What running a command comes to, by the command that the words are.
use Rattle.std.specs.Prelude.{◌≡◌, ℕ, ◌≤◌, ◌<◌, List, [], ◌++◌, All, length, take, Option, Some, None, IfSome, Result, Ok, Err, ◌⊎◌}
use Rattle.std.specs.Arc.{arc_value}
use Rattle.std.specs.declared.alloc.Global.{Global}
use Rattle.std.specs.declared.sync.Arc.{Arc}
use Rattle.std.specs.Io.KnownBytes.{Appends}
use Rattle.exit_status.specs.Codes.{code_of}
use Rattle.exit_status.specs.declared.status.ExitStatus.TheVariants as exit
use Rattle.hub_outside.specs.Count.{Rose}
use Rattle.hub_outside.specs.Outside.{FileStore, Outside, Stream}
use Rattle.hub_load.specs.Stops.{LoadingStopped}
use Rattle.hub_load.specs.Told.{refusal_line}
use Rattle.hub_load.specs.declared.fault.HubFault.{HubFault}
use Rattle.hub_load.specs.declared.fault.HubFault.TheVariants.{Refused, FileFault, NoMemory}
use Rattle.hub_replay.specs.Outcome.{ReplayOutcome}
use Rattle.sched_types.specs.Schedules.{Schedules}
use Rattle.http_serve_defs.specs.Connections.{Served, IsServed}
use Rattle.hub_replay_defs.specs.Output.{Output}
use Rattle.hub_replay_defs.specs.Record.{configured, start}
use Rattle.hub_main_defs.specs.Words.{Command}
use Rattle.hub_main_defs.specs.Words.Command.{Replay, ReplayWith, Check, Board, Gen}
use Rattle.hub_main_defs.specs.Checks.{check_output}
use Rattle.hub_main_defs.specs.Commands.{board_output, file_fault_line, usage_line}
use Rattle.hub_main_defs.specs.Hubs.{schedules_at}
use Rattle.hub_main_defs.specs.Samples.{gen_output}

-- the statuses of a command that ends: all but that of a server of which a port or a door failed
abbrev pub IsExitStatus : ℕ → Type 0
IsExitStatus status = (status ≡ code_of exit.Done) ⊎ (status ≡ code_of exit.Usage)
    ⊎ (status ≡ code_of exit.Refused) ⊎ (status ≡ code_of exit.Fault)
    ⊎ (status ≡ code_of exit.OutputFault) ⊎ (status ≡ code_of exit.NoMemory)
    ⊎ (status ≡ code_of exit.NotAScript) ⊎ (status ≡ code_of exit.NotFound)

-- the output grew by those bytes, or by fewer of them, from the first on
abbrev pub Grew : Stream → Stream → List ℕ → Type 0
Grew before after bytes = Appends before.told after.told bytes

abbrev pub GrewByFront : Stream → Stream → List ℕ → Type 0
GrewByFront before after bytes =
    (n : ℕ) × (n < length bytes) × Appends before.told after.told (take n bytes)

-- the output failed: the count of faults rose
abbrev pub OutputRose : Stream → Stream → Type 0
OutputRose before after = Rose before.faults after.faults

-- A file could not be read while the configuration at a path and its timetables were loaded: the
-- count of faults rose, and where the files tell which one it was, nothing before it is at fault.
abbrev pub FileFailed : List ℕ → FileStore → FileStore → Type 0
FileFailed path before after = Rose before.faults after.faults
    × LoadingStopped before.told after.fault path

-- bytes were written, with this status, or the output failed in the midst of them
abbrev pub WritesLine : List ℕ → ℕ → Stream → Stream → ℕ → Type 0
WritesLine bytes defined output output' status = (output.faults ≤ output'.faults)
    × ((status ≡ defined) × Grew output output' bytes
    ⊎ (status ≡ code_of exit.OutputFault) × OutputRose output output'
    × GrewByFront output output' bytes)

-- words that are no command: the line that says so
pub record UsageOutcome (output output' : Stream) (status : ℕ) : Type 0 where
  pub is_status : (status ≡ code_of exit.Usage) ⊎ (status ≡ code_of exit.OutputFault)
      ⊎ (status ≡ code_of exit.NoMemory)
  pub whole : status ≡ code_of exit.Usage → Grew output output' usage_line
  pub output_fault : status ≡ code_of exit.OutputFault → OutputRose output output'
      × GrewByFront output output' usage_line
  pub no_memory : status ≡ code_of exit.NoMemory → Grew output output' []
  pub output_count : output.faults ≤ output'.faults

-- a front of what a check prints was written; of the line of a file that can't be read, only where
-- there is one
abbrev pub CheckCut : List ℕ → FileStore → FileStore → Stream → Stream → Type 0
CheckCut path files files' output output' =
    FileFailed path files files' × GrewByFront output output' file_fault_line
    ⊎ (text : List ℕ) × IfSome files.told (λ fs. (check_output fs path).written ≡ text)
    × GrewByFront output output' text

-- `check` of the configuration at a path: nothing is printed before all is known
pub record CheckOutcome (path : List ℕ) (files files' : FileStore) (output output' : Stream)
    (status : ℕ) : Type 0 where
  pub is_status : (status ≡ code_of exit.Done) ⊎ (status ≡ code_of exit.Refused)
      ⊎ (status ≡ code_of exit.Fault) ⊎ (status ≡ code_of exit.OutputFault)
      ⊎ (status ≡ code_of exit.NoMemory)
  pub whole : (status ≡ code_of exit.Done) ⊎ (status ≡ code_of exit.Refused)
      → IfSome files.told (λ fs. Grew output output' (check_output fs path).written
      × (status ≡ (check_output fs path).status))
  pub file_fault : status ≡ code_of exit.Fault → FileFailed path files files'
      × Grew output output' file_fault_line
  pub output_fault : status ≡ code_of exit.OutputFault → OutputRose output output'
      × CheckCut path files files' output output'
  pub no_memory : status ≡ code_of exit.NoMemory → Grew output output' []
  pub files_count : files.faults ≤ files'.faults
  pub output_count : output.faults ≤ output'.faults

-- ---- commands that need the hub of a configuration

-- the configuration at a path and its timetables are these schedules and feeds, where files are
-- told
abbrev pub AreLoaded : List ℕ → FileStore → Schedules → Type 0
AreLoaded path files plans = IfSome files.told (λ fs. schedules_at fs path ≡ Ok plans)

-- they are refused, and this is the line that says so
abbrev pub IsRefusedWith : List ℕ → FileStore → List ℕ → Type 0
IsRefusedWith path files line =
    IfSome files.told (λ fs. refusal_line (schedules_at fs path) ≡ Some line)

-- a front was written of the line that refuses them, or of that of a file that can't be read
abbrev pub LoadCut : List ℕ → FileStore → FileStore → Stream → Stream → Type 0
LoadCut path files files' output output' =
    FileFailed path files files' × GrewByFront output output' file_fault_line
    ⊎ (line : List ℕ) × IsRefusedWith path files line × GrewByFront output output' line

-- there is no hub: the configuration or a timetable is refused, or could not be read
pub record LoadFailed (path : List ℕ) (files files' : FileStore) (output output' : Stream)
    (status : ℕ) : Type 0 where
  pub is_status : (status ≡ code_of exit.Refused) ⊎ (status ≡ code_of exit.Fault)
      ⊎ (status ≡ code_of exit.OutputFault) ⊎ (status ≡ code_of exit.NoMemory)
  pub refused : status ≡ code_of exit.Refused → (line : List ℕ) × IsRefusedWith path files line
      × Grew output output' line
  pub file_fault : status ≡ code_of exit.Fault → FileFailed path files files'
      × Grew output output' file_fault_line
  pub output_fault : status ≡ code_of exit.OutputFault → OutputRose output output'
      × LoadCut path files files' output output'
  pub no_memory : status ≡ code_of exit.NoMemory → Grew output output' []
  pub files_count : files.faults ≤ files'.faults
  pub output_count : output.faults ≤ output'.faults

-- what printing such a fault comes to: its line was written, or the output failed in the midst of
-- it
abbrev pub PrintsFault : HubFault → Stream → Stream → ℕ → Type 0
PrintsFault (Refused line) output output' status =
    WritesLine line.items (code_of exit.Refused) output output' status
PrintsFault FileFault output output' status =
    WritesLine file_fault_line (code_of exit.Fault) output output' status
PrintsFault NoMemory output output' status =
    (status ≡ code_of exit.NoMemory) × (output' ≡ output)

-- a command's one output was written, or a front of it
pub record PrintsOutput (defined : Output) (output output' : Stream) (status : ℕ) : Type 0 where
  pub is_status : (status ≡ defined.status) ⊎ (status ≡ code_of exit.OutputFault)
      ⊎ (status ≡ code_of exit.NoMemory)
  pub whole : status ≡ defined.status → Grew output output' defined.written
  pub output_fault : status ≡ code_of exit.OutputFault → OutputRose output output'
      × GrewByFront output output' defined.written
  pub no_memory : status ≡ code_of exit.NoMemory → Grew output output' []
  pub output_count : output.faults ≤ output'.faults

-- a board of the timetables of the configuration at a path, which needs no input
abbrev pub BoardOutcome : List ℕ → (Schedules → Output) → FileStore → FileStore → Stream → Stream
    → ℕ → Type 0
BoardOutcome path board files files' output output' status =
    LoadFailed path files files' output output' status
    ⊎ (plans : Schedules) × AreLoaded path files plans × (files.faults ≤ files'.faults)
    × PrintsOutput (board plans) output output' status

-- The replay of a script on the hub of the configuration at a path. No input is read before there
-- is one.
abbrev pub ReplayWithOutcome : List ℕ → Outside → Outside → ℕ → Type 0
ReplayWithOutcome path before after status =
    LoadFailed path before.files after.files before.output after.output status
    × (after.input ≡ before.input)
    ⊎ (plans : Schedules) × AreLoaded path before.files plans
    × (before.files.faults ≤ after.files.faults)
    × ReplayOutcome (configured plans) before.input after.input before.output after.output status

-- what running a command comes to, of the outside before and after: a case for each command
abbrev pub OutcomeOf : Option Command → Outside → Outside → ℕ → Type 0
OutcomeOf None before after status = UsageOutcome before.output after.output status
OutcomeOf (Some Replay) before after status =
    ReplayOutcome start before.input after.input before.output after.output status
OutcomeOf (Some (ReplayWith path)) before after status =
    ReplayWithOutcome path before after status
OutcomeOf (Some (Check path)) before after status =
    CheckOutcome path before.files after.files before.output after.output status
OutcomeOf (Some (Board path asked)) before after status =
    BoardOutcome path (board_output asked) before.files after.files before.output after.output
    status
OutcomeOf (Some (Gen seed trips messages)) before after status =
    PrintsOutput (gen_output seed trips messages) before.output after.output status

-- the statuses at which the whole output was written
abbrev pub IsDone : ℕ → Type 0
IsDone status = (status ≡ code_of exit.Done) ⊎ (status ≡ code_of exit.Usage)
    ⊎ (status ≡ code_of exit.Refused) ⊎ (status ≡ code_of exit.NotAScript)
    ⊎ (status ≡ code_of exit.NotFound)

-- the output grew by all that is told, and the status is the told one
abbrev pub WritesTold : Option Output → ℕ → Option (List ℕ) → Option (List ℕ) → Type 0
WritesTold told status before after = IsDone status
    → IfSome told (λ output. Appends before after output.written × (status ≡ output.status))

-- the same of what is told where connections are given: of some that were served, each with the
-- items of its input, and whatever others behind them
abbrev pub WritesWhole : (List Served → Option Output) → ℕ → Option (List ℕ) → Option (List ℕ)
    → Type 0
WritesWhole told status before after =
    (served : List Served) × All IsServed served
    × ((later : List Served) → WritesTold (told (served ++ later)) status before after)

-- the commands that look at files, and those that read the input
abbrev pub ReadsFiles : Option Command → Type 0
ReadsFiles None = ⊥
ReadsFiles (Some Replay) = ⊥
ReadsFiles (Some (ReplayWith path)) = Unit {0}
ReadsFiles (Some (Check path)) = Unit {0}
ReadsFiles (Some (Board path asked)) = Unit {0}
ReadsFiles (Some (Gen seed trips messages)) = ⊥

abbrev pub ReadsInput : Option Command → Type 0
ReadsInput None = ⊥
ReadsInput (Some Replay) = Unit {0}
ReadsInput (Some (ReplayWith path)) = Unit {0}
ReadsInput (Some (Check path)) = ⊥
ReadsInput (Some (Board path asked)) = ⊥
ReadsInput (Some (Gen seed trips messages)) = ⊥

-- a sample that may be made: 1 to 20,000 trips, and 1 to 2,000 messages
pub record MayMake (trips messages : ℕ) : Type 0 where
  pub some_trips : 1 ≤ trips
  pub few_trips : trips ≤ 20000
  pub some_messages : 1 ≤ messages
  pub few_messages : messages ≤ 2000

-- the plans with one owner who may share them, or want of memory
abbrev pub IsShare : Schedules → Result (Arc Schedules Global) HubFault → Type 0
IsShare plans (Ok shared) = arc_value shared ≡ plans
IsShare plans (Err (Refused line)) = ⊥
IsShare plans (Err FileFault) = ⊥
IsShare plans (Err NoMemory) = Unit {0}
