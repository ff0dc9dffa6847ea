-- What `hub` prints, and its status, for a list of words, files and an input.
use Rattle.std.specs.Prelude.{ℕ, List, [], ◌++◌, length, Option, Some, None, Result, Ok, Err, codes}
use Rattle.std.specs.Option.{option_map, option_and_then}
use Rattle.text_defs.specs.Cleaned.{line_feed}
use Rattle.sched_types.specs.Schedules.{Schedules}
use Rattle.board_defs.specs.Fold.{fold_of}
use Rattle.board_text_defs.specs.Answers.{BoardAsked, board_answer}
use Rattle.http_serve_defs.specs.Connections.{Served}
use Rattle.hub_replay_defs.specs.Output.{Output, replayed}
use Rattle.hub_replay_defs.specs.Record.{configured, serving, start}
use Rattle.hub_main_defs.specs.Words.{Command, command_of}
use Rattle.hub_main_defs.specs.Words.Command.{Replay, ReplayWith, Check, Board, Gen}
use Rattle.hub_main_defs.specs.Checks.{check_output}
use Rattle.hub_main_defs.specs.Hubs.{schedules_at}
use Rattle.hub_main_defs.specs.Samples.{gen_output}

abbrev pub usage_line : List ℕ
usage_line = codes "hub: usage" ++ line_feed

-- what is printed for words that are no command
abbrev pub usage : Output
usage = record { written = usage_line; status = 2 }

-- what is printed where the schedule or the stop of a board isn't there
abbrev pub not_found_line : List ℕ
not_found_line = codes "hub: not found" ++ line_feed

abbrev pub found_or_not : Option (List ℕ) → Output
found_or_not None = record { written = not_found_line; status = 8 }
found_or_not (Some bytes) = record { written = bytes; status = 0 }

-- a board of the timetables alone: no feed has said anything
abbrev pub board_output : BoardAsked → Schedules → Output
board_output asked plans = found_or_not (board_answer plans (fold_of (length plans.feeds) []) asked)

-- the replay of a script on the hub of a configuration, to which connections are given
abbrev pub replay_output : List Served → List ℕ → Schedules → Output
replay_output served input plans = replayed (serving served (configured plans)) input

-- what is printed where a configuration or a timetable is refused, and else by its schedules and
-- feeds
abbrev pub with_schedules : (Schedules → Output) → Result Schedules (List ℕ) → Output
with_schedules output (Ok plans) = output plans
with_schedules output (Err line) = record { written = line ++ line_feed; status = 3 }

-- what a command prints, by the connections that are given to its hub, its files and its input
abbrev pub output_by : List Served → Option Command → List (List ℕ × List ℕ) → List ℕ → Output
output_by served None files input = usage
output_by served (Some Replay) files input = replayed (serving served start) input
output_by served (Some (ReplayWith path)) files input =
    with_schedules (replay_output served input) (schedules_at files path)
output_by served (Some (Check path)) files input = check_output files path
output_by served (Some (Board path asked)) files input =
    with_schedules (board_output asked) (schedules_at files path)
output_by served (Some (Gen seed trips messages)) files input = gen_output seed trips messages

unfoldable pub offline : List Served → List (List ℕ) → List (List ℕ × List ℕ) → List ℕ → Output
offline served words files input = output_by served (command_of words) files input

-- the same where the files or the input tell nothing: what a command doesn't look at need not be
-- told
abbrev pub output_where_told : List Served → Option Command → Option (List (List ℕ × List ℕ))
    → Option (List ℕ) → Option Output
output_where_told served None files input = Some usage
output_where_told served (Some Replay) files input =
    option_map (replayed (serving served start)) input
output_where_told served (Some (ReplayWith path)) files input =
    option_and_then
    (λ fs. option_map
    (λ bytes. with_schedules (replay_output served bytes) (schedules_at fs path)) input)
    files
output_where_told served (Some (Check path)) files input =
    option_map (λ fs. check_output fs path) files
output_where_told served (Some (Board path asked)) files input =
    option_map (λ fs. with_schedules (board_output asked) (schedules_at fs path)) files
output_where_told served (Some (Gen seed trips messages)) files input =
    Some (gen_output seed trips messages)

-- the line of a file that can't be read
abbrev pub file_fault_line : List ℕ
file_fault_line = codes "hub: file fault" ++ line_feed
