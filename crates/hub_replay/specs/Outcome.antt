-- What a replay comes to, by its exit status.
use Rattle.std.specs.Prelude.{◌≡◌, ℕ, ◌≤◌, List, [], ◌++◌, All, length, take, Option, IfSome, true, unwrap_or, ◌⊎◌}
use Rattle.std.specs.Io.KnownBytes.{Appends, Consumes}
use Rattle.exit_status.specs.Codes.{code_of}
use Rattle.exit_status.specs.declared.status.ExitStatus.TheVariants as exit
use Rattle.hub_outside.specs.Count.{Rose}
use Rattle.hub_outside.specs.Outside.{Stream}
use Rattle.http_serve_defs.specs.Connections.{Served, IsServed}
use Rattle.hub_replay_defs.specs.Record.{Hub, serving}
use Rattle.hub_replay_defs.specs.Output.{Output, run, is_open, output_of, replayed, longest_script, refused_line, fault_line}
use Rattle.hub_replay.specs.declared.steps.Ending.{Ending}
use Rattle.hub_replay.specs.declared.steps.Ending.TheVariants.{Ended, Refused, InputFault, OutputFault, NoMemory}

-- the statuses of a replay
abbrev pub IsReplayStatus : ℕ → Type 0
IsReplayStatus status = (status ≡ code_of exit.Done) ⊎ (status ≡ code_of exit.Fault)
    ⊎ (status ≡ code_of exit.OutputFault) ⊎ (status ≡ code_of exit.NoMemory)
    ⊎ (status ≡ code_of exit.NotAScript)

-- the output of the script of a replay on a hub, which may have so many bytes
abbrev pub output_of_script : Hub → List ℕ → Output
output_of_script hub script = output_of (run hub (take longest_script script))

-- A script that begins with what was read. Where the input tells its bytes it is all that the input
-- had.
pub record IsScript (left left' : Option (List ℕ)) (script : List ℕ) : Type 0 where
  pub taken : List ℕ
  pub read : Consumes left left' taken
  pub within : length taken ≤ longest_script
  pub all : script ≡ taken ++ unwrap_or left' []

-- What was read of a script that goes on: none of its records ended it, and what stands behind them
-- isn't refused.
pub record IsUnfinished (hub : Hub) (left left' : Option (List ℕ)) (taken : List ℕ) : Type 0 where
  pub read : Consumes left left' taken
  pub within : length taken ≤ longest_script
  pub goes_on : is_open hub taken ≡ true

-- what is printed where the input fails behind those bytes: what their records print, and the
-- fault's line
abbrev pub fault_output : Hub → List ℕ → List ℕ
fault_output hub taken = (run hub taken).out ++ fault_line

-- the output grew by all that is defined for the input, and the status is the defined one
abbrev pub IsWhole : (List ℕ → Output) → ℕ → Option (List ℕ) → Option (List ℕ) → Option (List ℕ)
    → Type 0
IsWhole defined status left written written' =
    (status ≡ code_of exit.Done) ⊎ (status ≡ code_of exit.NotAScript)
    → IfSome left (λ script. Appends written written' (defined script).written
    × (status ≡ (defined script).status))

-- the input failed, in the midst of the script
abbrev pub InputFailed : Hub → ℕ → Option (List ℕ) → Option (List ℕ) → Option (List ℕ)
    → Option (List ℕ)
    → ℕ → ℕ → Type 0
InputFailed hub status left left' written written' faults faults' =
    status ≡ code_of exit.Fault
    → Rose faults faults'
    × ((taken : List ℕ) × IsUnfinished hub left left' taken
    × Appends written written' (fault_output hub taken))

-- a front of all that is defined was written, or, where the input failed, of what is printed there
abbrev pub IsCut : Hub → (List ℕ → Output) → Option (List ℕ) → Option (List ℕ)
    → Option (List ℕ) → Option (List ℕ) → ℕ → ℕ → Type 0
IsCut hub defined left left' written written' faults faults' =
    ((script : List ℕ) × IsScript left left' script
    × ((n : ℕ) × Appends written written' (take n (defined script).written)))
    ⊎ (Rose faults faults' × ((taken : List ℕ) × IsUnfinished hub left left' taken
    × ((n : ℕ) × Appends written written' (take n (fault_output hub taken)))))

-- the output failed
abbrev pub OutputFailed : Hub → (List ℕ → Output) → ℕ → Option (List ℕ) → Option (List ℕ)
    → Option (List ℕ) → Option (List ℕ) → ℕ → ℕ → ℕ → ℕ → Type 0
OutputFailed hub defined status left left' written written' input input' out out' =
    status ≡ code_of exit.OutputFault
    → Rose out out' × IsCut hub defined left left' written written' input input'

-- memory ran out: the output grew by the front of all that is defined
abbrev pub RanOut : (List ℕ → Output) → ℕ → Option (List ℕ) → Option (List ℕ) → Option (List ℕ)
    → Option (List ℕ) → Type 0
RanOut defined status left left' written written' = status ≡ code_of exit.NoMemory
    → (script : List ℕ) × IsScript left left' script
    × ((n : ℕ) × Appends written written' (take n (defined script).written))

-- all of this, of a script on a hub, and that no count of faults fell
pub record Outcome (hub : Hub) (defined : List ℕ → Output) (status : ℕ)
    (left left' written written' : Option (List ℕ)) (input input' out out' : ℕ) : Type 0 where
  pub is_status : IsReplayStatus status
  pub whole : IsWhole defined status left written written'
  pub input_fault : InputFailed hub status left left' written written' input input'
  pub output_fault : OutputFailed hub defined status left left' written written' input input' out
      out'
  pub no_memory : RanOut defined status left left' written written'
  pub input_count : input ≤ input'
  pub output_count : out ≤ out'

-- the outcome of a replay on a hub, from its input and output before and after
abbrev pub OutcomeOn : Hub → Stream → Stream → Stream → Stream → ℕ → Type 0
OutcomeOn hub input input' output output' status =
    Outcome hub (replayed hub) status input.told input'.told output.told output'.told input.faults
    input'.faults output.faults output'.faults

-- What a replay on a hub comes to: connections were served, each with the items of its input, and
-- the outcome is that of the hub to which these are given, whatever others are given behind them.
-- So nothing is said of a connection but what follows from the items of its input.
abbrev pub ReplayOutcome : Hub → Stream → Stream → Stream → Stream → ℕ → Type 0
ReplayOutcome hub input input' output output' status =
    (served : List Served) × All IsServed served
    × ((later : List Served)
    → OutcomeOn (serving (served ++ later) hub) input input' output output' status)

-- the last bytes were written, or the output failed in the midst of them
abbrev pub Last : ℕ → List ℕ → ℕ → Option (List ℕ) → Option (List ℕ) → ℕ → ℕ → Type 0
Last status bytes result written written' faults faults' = (faults ≤ faults')
    × ((result ≡ status) × Appends written written' bytes
    ⊎ (result ≡ code_of exit.OutputFault) × Rose faults faults'
    × ((n : ℕ) × Appends written written' (take n bytes)))

-- the last bytes of an ending
abbrev pub Finishes : Ending → ℕ → List ℕ → Option (List ℕ) → Option (List ℕ) → ℕ → ℕ → Type 0
Finishes Ended result said written written' faults faults' =
    Last (code_of exit.Done) (said ++ []) result written written' faults faults'
Finishes (Refused place) result said written written' faults faults' =
    Last (code_of exit.NotAScript) (said ++ refused_line place) result written written' faults
    faults'
    ⊎ Last (code_of exit.NoMemory) (said ++ []) result written written' faults faults'
Finishes InputFault result said written written' faults faults' =
    Last (code_of exit.Fault) (said ++ fault_line) result written written' faults faults'
Finishes OutputFault result said written written' faults faults' =
    (result ≡ code_of exit.OutputFault) × (faults ≤ faults') × Appends written written' []
Finishes NoMemory result said written written' faults faults' =
    Last (code_of exit.NoMemory) (said ++ []) result written written' faults faults'
