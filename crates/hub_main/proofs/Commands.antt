-- What each command's outcome says of what is told.
use Rattle.std.proofs.Common.{◌≡◌, ℕ, ◌≤◌, List, [], ◌++◌, Option, Some, None, Result, Ok, Err, IfSome, refl, sym, subst, arith, inl, inr}
use Rattle.std.specs.Prelude.{◌⊎◌, unwrap_or, Vec}
use Rattle.std.specs.declared.alloc.Global.{Global}
use Rattle.std.specs.Option.{option_map, option_and_then}
use Rattle.std.specs.Io.KnownBytes.{Appends}
use Rattle.std.proofs.KnownBytes.{Appends-nil, Consumes-nil}
use Rattle.std.proofs.lemmas.List.Elements.{All-nil}
use Rattle.hub_outside.specs.Outside.{FileStore, Outside, Stream}
use Rattle.sched_types.specs.Schedules.{Schedules}
use Rattle.hub_load.specs.Stops.{LoadingStopped, StopsWith}
use Rattle.hub_load.specs.Told.{HasCause, IsAsTold, NeedsNoFile, TellsFault, refusal_line}
use Rattle.hub_load.specs.declared.fault.HubFault.{HubFault}
use Rattle.hub_load.specs.declared.fault.HubFault.TheVariants.{Refused, FileFault, NoMemory}
use Rattle.hub_replay.specs.Outcome.{IsReplayStatus, OutcomeOn}
use Rattle.http_serve_defs.specs.Connections.{IsServed, Served}
use Rattle.hub_replay_defs.specs.Output.{Output, replayed}
use Rattle.hub_replay_defs.specs.Record.{Hub, configured, serving, start}
use Rattle.hub_main_defs.specs.Words.{Command}
use Rattle.hub_main_defs.specs.Words.Command.{Replay, ReplayWith, Check, Board, Gen}
use Rattle.hub_main_defs.specs.Checks.{check_output, output_of_check}
use Rattle.hub_main_defs.specs.Commands.{file_fault_line, found_or_not, output_where_told, replay_output, usage, usage_line, with_schedules}
use Rattle.hub_main_defs.specs.Hubs.{schedules_at}
use Rattle.hub_main_defs.specs.Samples.{gen_output, sample_lines}
use Rattle.hub_main.specs.Offline.{WritesLine, FileFailed, IsDone, IsRefusedWith, LoadFailed, OutcomeOf, PrintsFault, PrintsOutput, UsageOutcome, WritesTold, WritesWhole}

-- the line for words that are no command
pub usage_outcome : (status : ℕ) (output output' : Stream) → WritesLine usage_line 2 output output' status
    → UsageOutcome output output' status
usage_outcome status output output' wrote = grind arith

-- memory ran out before the configuration and its timetables were there
pub load_short : (path : List ℕ) (files files' : FileStore) (output output' : Stream) → files.faults ≤ files'.faults → output' ≡ output
    → LoadFailed path files files' output output' 6
load_short path files files' output output' files_count same = grind (arith, Appends-nil)

-- ---- one output, which is made whole before it is printed

-- an output whose status is none of a fault
abbrev pub IsAnswer : Output → Type 0
IsAnswer output = (output.status ≡ 0) ⊎ (output.status ≡ 3) ⊎ (output.status ≡ 8)

no_fault : {A : Type 0} (status defined : ℕ) → (defined ≡ 0) ⊎ (defined ≡ 3) ⊎ (defined ≡ 8) → status ≡ defined → (status ≡ 5) ⊎ (status ≡ 6) → A
no_fault status defined answer e fault = grind arith

-- its bytes were written, or a front of them
pub printed : (defined : Output) (status : ℕ) (output output' : Stream) → IsAnswer defined
    → WritesLine defined.written defined.status output output' status
    → PrintsOutput defined output output' status
printed defined status output output' answer wrote = grind (arith, no_fault)

-- memory ran out before anything was printed
pub print_short : (defined : Output) (output : Stream) → IsAnswer defined → PrintsOutput defined output output 6
print_short defined output answer = grind (arith, no_fault, Appends-nil)

pub found_answers : (o : Option (List ℕ)) → IsAnswer (found_or_not o)
found_answers o = grind arith

pub check_answers : (lines : Result (List ℕ) (List ℕ)) → IsAnswer (output_of_check lines)
check_answers lines = grind arith

-- lines that are told were written, or the line of a refusal
pub lines_printed : (told : Result (List ℕ) (List ℕ)) (lines : List ℕ) (status : ℕ) (output output' : Stream) → told ≡ Ok lines
    → WritesLine lines 0 output output' status → PrintsOutput (output_of_check told) output output' status
lines_printed told lines status output output' is last = rw is (printed (output_of_check (Ok lines)) status output output' (inl refl) last)

pub refusal_printed : (told : Result (List ℕ) (List ℕ)) (line : List ℕ) (status : ℕ) (output output' : Stream) → refusal_line told ≡ Some line
    → WritesLine line 3 output output' status → PrintsOutput (output_of_check told) output output' status
refusal_printed told line status output output' is last = grind (arith, printed)

-- a fault that no file has, once it is printed
pub sample_fault : (told : Result (List ℕ) (List ℕ)) (fault : HubFault) (status : ℕ) (output output' : Stream) → TellsFault told fault
    → NeedsNoFile {B = Vec ℕ Global} (Err fault) → PrintsFault fault output output' status → PrintsOutput (output_of_check told) output output' status
sample_fault told (Refused line) status output output' is no_file printed = refusal_printed told line.items status output output' is printed
sample_fault told FileFault status output output' is no_file printed = absurd no_file
sample_fault told NoMemory status output output' is no_file (short, same) =
    subst (λ s. PrintsOutput (output_of_check told) output output' s) (sym short)
    (subst (λ o. PrintsOutput (output_of_check told) output o 6) (sym same) (print_short (output_of_check told) output (check_answers told)))

-- ---- commands

-- memory ran out before the words were read, whatever they are
pub short_outcome : (command : Option Command) (before : Outside) → OutcomeOf command before before 6
short_outcome None before = grind (arith, Appends-nil)
short_outcome (Some Replay) before = (
  [],
  All-nil IsServed,
  λ later. record {
    is_status = inr (inr (inr (inl refl)));
    whole = elim [ inl f ↦ absurd (omega arith) | inr f ↦ absurd (omega arith) ];
    input_fault = λ f. absurd (omega arith);
    output_fault = λ f. absurd (omega arith);
    no_memory = λ _. (
      unwrap_or before.input.told [],
      record { taken = []; read = Consumes-nil before.input.told; within = omega arith; all = refl },
      (0, Appends-nil before.output.told),
    );
    input_count = omega arith;
    output_count = omega arith;
  },
)
short_outcome (Some (ReplayWith path)) before = grind (arith, load_short)
short_outcome (Some (Board path asked)) before = grind (arith, load_short)
short_outcome (Some (Gen seed trips messages)) before = print_short (gen_output seed trips messages) before.output (check_answers (sample_lines seed trips messages))
short_outcome (Some (Check path)) before = grind (arith, Appends-nil)

-- ---- which statuses a command has once all is written

-- no replay has the status 2, 3 or 8
pub replay_status : {A : Type 0} (status : ℕ) → IsReplayStatus status → (status ≡ 2) ⊎ (status ≡ 3) ⊎ (status ≡ 8) → A
replay_status status is other = grind arith

-- words that are no command have no other status than 2
pub usage_status : {A : Type 0} (status other : ℕ) → (status ≡ 2) ⊎ (status ≡ 5) ⊎ (status ≡ 6) → status ≡ other
    → (other ≡ 0) ⊎ (other ≡ 3) ⊎ (other ≡ 7) ⊎ (other ≡ 8) → A
usage_status status other is same told = grind arith

-- no check has the status 2, 7 or 8
pub check_status : {A : Type 0} (status : ℕ) → (status ≡ 0) ⊎ (status ≡ 3) ⊎ (status ≡ 4) ⊎ (status ≡ 5) ⊎ (status ≡ 6)
    → (status ≡ 2) ⊎ (status ≡ 7) ⊎ (status ≡ 8) → A
check_status status is other = grind arith

-- where there is no hub all is written at 3 alone
load_status : (status : ℕ) → (status ≡ 3) ⊎ (status ≡ 4) ⊎ (status ≡ 5) ⊎ (status ≡ 6) → IsDone status → status ≡ 3
load_status status is done = grind arith

-- an output that is written whole has its own status
print_status : (status defined : ℕ) → (status ≡ defined) ⊎ (status ≡ 5) ⊎ (status ≡ 6) → IsDone status → status ≡ defined
print_status status defined is done = grind arith

-- ---- what is told of the whole output

-- all of an output was written, with its status
abbrev WroteAll : Stream → Stream → ℕ → Output → Type 0
WroteAll before after status output = Appends before.told after.told output.written × (status ≡ output.status)

-- what is told of one part of the outside
of_part : {A : Type 0} (f : A → Output) (part : Option A) (before after : Option (List ℕ)) (status : ℕ) → IfSome part (λ x. Appends before after (f x).written × (status ≡ (f x).status))
    → IfSome (option_map f part) (λ output. Appends before after output.written × (status ≡ output.status))
of_part f part before after status h = grind arith

-- the output that the schedules of a configuration have, and that of its refusal
of_loaded : (f : Schedules → Output) (r : Result Schedules (List ℕ)) (plans : Schedules) (before after : Stream) (status : ℕ) → r ≡ Ok plans
    → WroteAll before after status (f plans) → WroteAll before after status (with_schedules f r)
of_loaded f r plans before after status e h = rw e h

of_refused : (f : Schedules → Output) (r : Result Schedules (List ℕ)) (line : List ℕ) (before after : Stream) (status : ℕ) → refusal_line r ≡ Some line
    → Appends before.told after.told line → status ≡ 3 → WroteAll before after status (with_schedules f r)
of_refused f r line before after status e wrote is = grind arith

-- of the files' part: the schedules of a configuration and its refusal
told_refused : (f : Schedules → Output) (path : List ℕ) (files files' : FileStore) (before after : Stream) (status : ℕ) → LoadFailed path files files' before after status → IsDone status
    → IfSome files.told (λ fs. WroteAll before after status (with_schedules f (schedules_at fs path)))
told_refused f path files files' before after status o done = grind (arith, load_status, of_refused)

told_loaded : (f : Schedules → Output) (path : List ℕ) (told : Option (List (List ℕ × List ℕ))) (plans : Schedules) (before after : Stream) (status : ℕ)
    → IfSome told (λ fs. schedules_at fs path ≡ Ok plans) → WroteAll before after status (f plans)
    → IfSome told (λ fs. WroteAll before after status (with_schedules f (schedules_at fs path)))
told_loaded f path told plans before after status e h = grind (arith, of_loaded)

-- the same with an input, which may not be told
with_input : (f : List ℕ → Schedules → Output) (path : List ℕ) (files : Option (List (List ℕ × List ℕ))) (input : Option (List ℕ)) (P : Output → Type 0)
    → IfSome input (λ bytes. IfSome files (λ fs. P (with_schedules (f bytes) (schedules_at fs path))))
    → IfSome (option_and_then (λ fs. option_map (λ bytes. with_schedules (f bytes) (schedules_at fs path)) input) files) P
with_input f path files input P h = grind arith

each_input : (input : Option (List ℕ)) (P : List ℕ → Type 0) → ((bytes : List ℕ) → P bytes) → IfSome input P
each_input input P h = grind arith

each_told : (input : Option (List ℕ)) (P Q : List ℕ → Type 0) → ((bytes : List ℕ) → P bytes → Q bytes) → IfSome input P → IfSome input Q
each_told input P Q h p = grind arith

-- a replay that wrote all ended at 0 or at 7
replay_done : (status : ℕ) → IsReplayStatus status → IsDone status → (status ≡ 0) ⊎ (status ≡ 7)
replay_done status is done = grind (arith, replay_status)

check_done : (status : ℕ) → (status ≡ 0) ⊎ (status ≡ 3) ⊎ (status ≡ 4) ⊎ (status ≡ 5) ⊎ (status ≡ 6) → IsDone status → (status ≡ 0) ⊎ (status ≡ 3)
check_done status is done = grind (arith, check_status)

-- a replay on a hub to which connections are given, where all was written
given_whole : (hub : Hub) (before after : Outside) (status : ℕ) → OutcomeOn hub before.input after.input before.output after.output status → IsDone status
    → IfSome before.input.told (λ bytes. WroteAll before.output after.output status (replayed hub bytes))
given_whole hub before after status o done = o.whole (replay_done status o.is_status done)

-- where no connection is served, what is told doesn't hang on any
none_served : (command : Option Command) (before after : Outside) (status : ℕ)
    → ((later : List Served) → WritesTold (output_where_told later command before.files.told before.input.told) status before.output.told after.output.told)
    → WritesWhole (λ served. output_where_told served command before.files.told before.input.told) status before.output.told after.output.told
none_served command before after status h = ([], All-nil IsServed, h)

usage_whole : (before after : Outside) (status : ℕ) → UsageOutcome before.output after.output status → WritesTold (Some usage) status before.output.told after.output.told
usage_whole before after status o done = grind (arith, usage_status)

-- where all was written, it is what the definition of the command's output tells, with its status
pub told_whole : (command : Option Command) (before after : Outside) (status : ℕ) → OutcomeOf command before after status
    → WritesWhole (λ served. output_where_told served command before.files.told before.input.told) status before.output.told after.output.told
told_whole None before after status o = none_served None before after status (λ later. usage_whole before after status o)
told_whole (Some Replay) before after status (served, are_served, o) = (
  served,
  are_served,
  λ later done. of_part (replayed (serving (served ++ later) start)) before.input.told before.output.told after.output.told status
      (given_whole (serving (served ++ later) start) before after status (o later) done),
)
told_whole (Some (ReplayWith path)) before after status (inl (o, same)) =
    grind (arith, none_served, with_input, each_input, told_refused)
told_whole (Some (ReplayWith path)) before after status (inr (plans, loaded, count, (served, are_served, o))) = (
  served,
  are_served,
  λ later done. with_input (replay_output (served ++ later)) path before.files.told before.input.told (WroteAll before.output after.output status)
      (each_told before.input.told _ _ (λ bytes wrote. told_loaded (replay_output (served ++ later) bytes) path before.files.told plans before.output after.output status loaded wrote)
      (given_whole (serving (served ++ later) (configured plans)) before after status (o later) done)),
)
told_whole (Some (Check path)) before after status o = none_served (Some (Check path)) before after status
    (λ later done. of_part (λ fs. check_output fs path) before.files.told before.output.told after.output.told status (o.whole (check_done status o.is_status done)))
told_whole (Some (Board path asked)) before after status (inl o) =
    grind (arith, none_served, of_part, told_refused)
told_whole (Some (Board path asked)) before after status (inr (plans, loaded, count, o)) =
    grind (arith, none_served, print_status, of_part, told_loaded)
told_whole (Some (Gen seed trips messages)) before after status o = none_served (Some (Gen seed trips messages)) before after status
    (λ later done. let is = print_status status (gen_output seed trips messages).status o.is_status done in (o.whole is, is))

-- ---- a hub that could not be loaded

-- the line that refuses a configuration or a timetable
refused_printed : (path line : List ℕ) (files files' : FileStore) (status : ℕ) (output output' : Stream) → IsRefusedWith path files line → files.faults ≤ files'.faults
    → WritesLine line 3 output output' status
    → LoadFailed path files files' output output' status
refused_printed path line files files' status output output' is files_count wrote = grind arith

-- the line of a file that can't be read
file_fault_printed : (path : List ℕ) (files files' : FileStore) (status : ℕ) (output output' : Stream) → FileFailed path files files' → files.faults ≤ files'.faults
    → WritesLine file_fault_line 4 output output' status
    → LoadFailed path files files' output output' status
file_fault_printed path files files' status output output' failed files_count wrote = grind arith

refused_at : {A : Type 0} (path : List ℕ) (told : Option (List (List ℕ × List ℕ))) (view : A → Schedules) (line : Vec ℕ Global)
    → IfSome told (λ fs. IsAsTold view (schedules_at fs path) (Err (Refused line)))
    → IfSome told (λ fs. refusal_line (schedules_at fs path) ≡ Some line.items)
refused_at path told view line h = grind arith

-- what the fault of a loader, once it is printed, comes to
pub load_failed : {A : Type 0} (path : List ℕ) (files files' : FileStore) (output output' : Stream) (status : ℕ) (view : A → Schedules) (fault : HubFault)
    → IfSome files.told (λ fs. IsAsTold view (schedules_at fs path) (Err fault)) → HasCause {B = A} (Err fault) files.faults files'.faults
    → StopsWith {B = A} (Err fault) (LoadingStopped files.told files'.fault path) → PrintsFault fault output output' status → LoadFailed path files files' output output' status
load_failed path files files' output output' status view fault told cause stops printed =
    grind (arith, refused_printed, refused_at, printed, file_fault_printed, load_short)
