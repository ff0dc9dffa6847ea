-- What the outcome of every command says of its status and of the counts.
use Rattle.std.proofs.Common.{◌≡◌, ℕ, ◌≤◌, List, [], length, Option, Some, None, refl, sym, subst, arith, inl, inr}
use Rattle.std.specs.Prelude.{◌⊎◌}
use Rattle.hub_outside.specs.Outside.{Outside, Stream}
use Rattle.hub_replay.specs.Outcome.{IsReplayStatus, ReplayOutcome}
use Rattle.hub_replay_defs.specs.Output.{Output}
use Rattle.hub_replay_defs.specs.Record.{Hub, configured, start}
use Rattle.board_defs.specs.Fold.{fold_of}
use Rattle.board_text_defs.specs.Answers.{board_answer}
use Rattle.hub_main_defs.specs.Words.{Command}
use Rattle.hub_main_defs.specs.Words.Command.{Replay, ReplayWith, Check, Board, Gen}
use Rattle.hub_main_defs.specs.Commands.{board_output}
use Rattle.hub_main_defs.specs.Samples.{gen_output, sample_lines}
use Rattle.hub_main.specs.Offline.{IsExitStatus, OutcomeOf, ReplayWithOutcome}
use Rattle.hub_main.proofs.Commands.{IsAnswer, check_answers, check_status, found_answers, replay_status}

-- ---- what a replay says whatever connections are given

exit_of : (status : ℕ) → IsReplayStatus status → IsExitStatus status
exit_of status is = grind arith

pub replay_exit : (hub : Hub) (input input' output output' : Stream) (status : ℕ) → ReplayOutcome hub input input' output output' status → IsExitStatus status
replay_exit hub input input' output output' status (served, are_served, o) = exit_of status (o []).is_status

pub replay_input : (hub : Hub) (input input' output output' : Stream) (status : ℕ) → ReplayOutcome hub input input' output output' status → input.faults ≤ input'.faults
replay_input hub input input' output output' status (served, are_served, o) = (o []).input_count

pub replay_output_count : (hub : Hub) (input input' output output' : Stream) (status : ℕ) → ReplayOutcome hub input input' output output' status → output.faults ≤ output'.faults
replay_output_count hub input input' output output' status (served, are_served, o) = (o []).output_count

load_exit : (status : ℕ) → (status ≡ 3) ⊎ (status ≡ 4) ⊎ (status ≡ 5) ⊎ (status ≡ 6) → IsExitStatus status
load_exit status is = grind arith

pub configured_exit : (path : List ℕ) (before after : Outside) (status : ℕ) → ReplayWithOutcome path before after status → IsExitStatus status
configured_exit path before after status (inl (o, same)) = load_exit status o.is_status
configured_exit path before after status (inr (plans, loaded, count, o)) = replay_exit (configured plans) before.input after.input before.output after.output status o

pub configured_input : (path : List ℕ) (before after : Outside) (status : ℕ) → ReplayWithOutcome path before after status → before.input.faults ≤ after.input.faults
configured_input path before after status (inl (o, same)) = subst (λ s. before.input.faults ≤ s.faults) (sym same) (omega arith)
configured_input path before after status (inr (plans, loaded, count, o)) = replay_input (configured plans) before.input after.input before.output after.output status o

pub configured_output : (path : List ℕ) (before after : Outside) (status : ℕ) → ReplayWithOutcome path before after status → before.output.faults ≤ after.output.faults
configured_output path before after status (inl (o, same)) = o.output_count
configured_output path before after status (inr (plans, loaded, count, o)) = replay_output_count (configured plans) before.input after.input before.output after.output status o

-- ---- one output, which is made whole before it is printed

answer_exit : (defined : Output) (status : ℕ) → IsAnswer defined → (status ≡ defined.status) ⊎ (status ≡ 5) ⊎ (status ≡ 6) → IsExitStatus status
answer_exit defined status d is = grind arith

answer_no_usage : {A : Type 0} (defined : Output) (status : ℕ) → IsAnswer defined → (status ≡ defined.status) ⊎ (status ≡ 5) ⊎ (status ≡ 6) → status ≡ 2 → A
answer_no_usage defined status d is two = grind arith

-- ---- every command

usage_exit : (status : ℕ) → (status ≡ 2) ⊎ (status ≡ 5) ⊎ (status ≡ 6) → IsExitStatus status
usage_exit status is = grind arith

check_exit : (status : ℕ) → (status ≡ 0) ⊎ (status ≡ 3) ⊎ (status ≡ 4) ⊎ (status ≡ 5) ⊎ (status ≡ 6) → IsExitStatus status
check_exit status is = grind arith

pub command_exit : (command : Option Command) (before after : Outside) (status : ℕ) → OutcomeOf command before after status → IsExitStatus status
command_exit None before after status o = usage_exit status o.is_status
command_exit (Some Replay) before after status o = replay_exit start before.input after.input before.output after.output status o
command_exit (Some (ReplayWith path)) before after status o = configured_exit path before after status o
command_exit (Some (Check path)) before after status o = check_exit status o.is_status
command_exit (Some (Board path asked)) before after status (inl o) = load_exit status o.is_status
command_exit (Some (Board path asked)) before after status (inr (plans, loaded, count, o)) =
    answer_exit (board_output asked plans) status (found_answers (board_answer plans (fold_of (length plans.feeds) []) asked)) o.is_status
command_exit (Some (Gen seed trips messages)) before after status o =
    answer_exit (gen_output seed trips messages) status (check_answers (sample_lines seed trips messages)) o.is_status

load_no_usage : {A : Type 0} (status : ℕ) → (status ≡ 3) ⊎ (status ≡ 4) ⊎ (status ≡ 5) ⊎ (status ≡ 6) → status ≡ 2 → A
load_no_usage status is two = grind arith

-- 2 comes where the words are no command
pub command_usage : (command : Option Command) (before after : Outside) (status : ℕ) → OutcomeOf command before after status → status ≡ 2 → command ≡ None
command_usage None before after status o two = refl
command_usage (Some Replay) before after status (served, are_served, o) two = replay_status status (o []).is_status (inl two)
command_usage (Some (ReplayWith path)) before after status (inl (o, same)) two = load_no_usage status o.is_status two
command_usage (Some (ReplayWith path)) before after status (inr (plans, loaded, count, (served, are_served, o))) two = replay_status status (o []).is_status (inl two)
command_usage (Some (Check path)) before after status o two = check_status status o.is_status (inl two)
command_usage (Some (Board path asked)) before after status (inl o) two = load_no_usage status o.is_status two
command_usage (Some (Board path asked)) before after status (inr (plans, loaded, count, o)) two =
    answer_no_usage (board_output asked plans) status (found_answers (board_answer plans (fold_of (length plans.feeds) []) asked)) o.is_status two
command_usage (Some (Gen seed trips messages)) before after status o two =
    answer_no_usage (gen_output seed trips messages) status (check_answers (sample_lines seed trips messages)) o.is_status two

-- the output's count of faults never falls
pub command_output : (command : Option Command) (before after : Outside) (status : ℕ) → OutcomeOf command before after status → before.output.faults ≤ after.output.faults
command_output None before after status o = o.output_count
command_output (Some Replay) before after status o = replay_output_count start before.input after.input before.output after.output status o
command_output (Some (ReplayWith path)) before after status o = configured_output path before after status o
command_output (Some (Check path)) before after status o = o.output_count
command_output (Some (Board path asked)) before after status (inl o) = o.output_count
command_output (Some (Board path asked)) before after status (inr (plans, loaded, count, o)) = o.output_count
command_output (Some (Gen seed trips messages)) before after status o = o.output_count
