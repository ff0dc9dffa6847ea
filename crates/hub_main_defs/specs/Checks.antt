-- What `check` says of a configuration and of its timetables.
use Rattle.std.specs.Prelude.{ℕ, nat_lt, if◌then◌else◌, List, [], ◌∷◌, ◌++◌, length, Option, Some, None, Result, Ok, Err, codes}
use Rattle.std.specs.Fmt.{decimal}
use Rattle.hub_outside.specs.Files.{file_at}
use Rattle.sched_types.specs.Timetable.{Timetable, counts_of}
use Rattle.sched_load_defs.specs.Loading.{timetable}
use Rattle.sched_load_defs.specs.declared.conf.PlanConf.{PlanConf}
use Rattle.sched_load_defs.specs.declared.fault.LoadFault.{LoadFault}
use Rattle.hub_config_defs.specs.Conf.{conf_of}
use Rattle.hub_config_defs.specs.Lines.{line_of}
use Rattle.hub_config_defs.specs.declared.conf.HubConf.{HubConf}
use Rattle.hub_config_defs.specs.declared.conf.ScheduleConf.{ScheduleConf}
use Rattle.hub_config_defs.specs.declared.fault.ConfFault.{ConfFault}
use Rattle.answer_defs.specs.Steps.{◌>>=◌}
use Rattle.text_defs.specs.Cleaned.{line_feed}
use Rattle.hub_replay_defs.specs.Output.{Output}
use Rattle.hub_main_defs.specs.Faults.{load_words}

-- the most bytes of a configuration
abbrev pub longest_conf : ℕ
longest_conf = 1048576

-- a configuration, or the line of its fault
abbrev pub conf_or_line : Result HubConf ConfFault → Result HubConf (List ℕ)
conf_or_line (Ok conf) = Ok conf
conf_or_line (Err fault) = Err (line_of fault)

-- the configuration in a file, or the line that tells why there is none
abbrev pub conf_in : Option (List ℕ) → Result HubConf (List ℕ)
conf_in None = Err (codes "hub: config absent")
conf_in (Some bytes) = if nat_lt longest_conf (length bytes) then Err (codes "hub: config long")
    else conf_or_line (conf_of bytes)

-- how a schedule is loaded
abbrev pub plan_conf : ScheduleConf → PlanConf
plan_conf schedule = record { zone = schedule.zone; first = schedule.first; days = schedule.days }

-- a timetable, or the line of its fault
abbrev pub timetable_or_line : List ℕ → Result Timetable LoadFault → Result Timetable (List ℕ)
timetable_or_line name (Ok t) = Ok t
timetable_or_line name (Err fault) =
    Err (codes "hub: load " ++ name ++ codes " " ++ load_words fault)

-- the timetables of the schedules, in their order, or the line of the first fault
unfoldable pub timetables : List (List ℕ × List ℕ) → List ScheduleConf
    → Result (List Timetable) (List ℕ)
timetables files [] = Ok []
timetables files (schedule ∷ more) = do
  first ← timetable_or_line schedule.name (timetable files schedule.folder (plan_conf schedule))
  others ← timetables files more
  Ok (first ∷ others)

-- how many data rows the files of a schedule have, and how many days its window
abbrev pub counts_line : List ℕ → Timetable → List ℕ
counts_line name t = let counts = counts_of t in
    name ++ codes " agencies " ++ decimal counts.agencies ++ codes " stops " ++ decimal counts.stops
    ++ codes " routes " ++ decimal counts.routes
    ++ codes " trips " ++ decimal counts.trips ++ codes " times " ++ decimal counts.times
    ++ codes " days " ++ decimal counts.days ++ line_feed

-- a line for each schedule
abbrev pub counts_lines : List ScheduleConf → List Timetable → List ℕ
counts_lines (schedule ∷ schedules) (t ∷ ts) =
    counts_line schedule.name t ++ counts_lines schedules ts
counts_lines [] ts = []
counts_lines (schedule ∷ schedules) [] = []

-- all lines, or the one line of the first fault
abbrev pub check_lines : List (List ℕ × List ℕ) → List ℕ → Result (List ℕ) (List ℕ)
check_lines files path = do
  conf ← conf_in (file_at files path)
  ts ← timetables files conf.schedules
  Ok (counts_lines conf.schedules ts)

abbrev pub output_of_check : Result (List ℕ) (List ℕ) → Output
output_of_check (Ok lines) = record { written = lines; status = 0 }
output_of_check (Err line) = record { written = line ++ line_feed; status = 3 }

-- what `check` prints, and its status: the configuration counts first, and then its timetables in
-- order
unfoldable pub check_output : List (List ℕ × List ℕ) → List ℕ → Output
check_output files path = output_of_check (check_lines files path)
