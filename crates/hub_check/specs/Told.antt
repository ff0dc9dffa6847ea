-- What a check answers, of what is told.
use Rattle.std.specs.Prelude.{◌≡◌, ℕ, List, [], ◌∷◌, ◌++◌, Result, Ok, Err, Vec, codes}
use Rattle.std.specs.declared.alloc.Global.{Global}
use Rattle.std.specs.Fmt.{decimal}
use Rattle.answer_defs.specs.Steps.{◌>>=◌}
use Rattle.text_defs.specs.Cleaned.{line_feed}
use Rattle.hub_replay_defs.specs.Output.{Output}
use Rattle.sched_types.specs.declared.rows.Counts.{Counts}
use Rattle.hub_config_defs.specs.declared.conf.ScheduleConf.{ScheduleConf}
use Rattle.hub_main_defs.specs.Checks.{counts_line}
use Rattle.hub_load.specs.Told.{Stored, TellsFault, plan_told, with_front}
use Rattle.hub_load.specs.declared.fault.HubFault.{HubFault}
use Rattle.hub_load.specs.declared.fault.HubFault.TheVariants.{Refused, FileFault, NoMemory}

-- the line of one schedule, or why there is none
abbrev pub line_for : Stored → ScheduleConf → Result (List ℕ) (List ℕ)
line_for files schedule = plan_told files schedule >>= λ t. Ok (counts_line schedule.name t)

-- the lines of schedules, one after another
unfoldable pub lines_for : Stored → List ScheduleConf → Result (List ℕ) (List ℕ)
lines_for files [] = Ok []
lines_for files (schedule ∷ more) = line_for files schedule >>= λ line.
    with_front line (lines_for files more)

-- the answer is the output that is told: all lines with status 0, or the line of the first fault
-- with status 3
abbrev pub Checks : Output → Result (Vec ℕ Global) HubFault → Type 0
Checks told (Ok lines) = told ≡ record { written = lines.items; status = 0 }
Checks told (Err (Refused line)) = told ≡ record { written = line.items; status = 3 }
Checks told (Err FileFault) = Unit {0}
Checks told (Err NoMemory) = Unit {0}

-- the line that is told stands behind those that were there
abbrev pub Adds : {B : Type 0} → Result (List ℕ) (List ℕ) → List ℕ → List ℕ → Result B HubFault
    → Type 0
Adds told old new (Ok x) = with_front old told ≡ Ok new
Adds told old new (Err fault) = TellsFault told fault

-- the line of a timetable by its numbers, in two parts
abbrev pub network_text : List ℕ → Counts → List ℕ
network_text name counts = name ++ codes " agencies " ++ decimal counts.agencies ++ codes " stops "
    ++ decimal counts.stops ++ codes " routes " ++ decimal counts.routes

abbrev pub traffic_text : List ℕ → Counts → List ℕ
traffic_text network counts = network ++ codes " trips " ++ decimal counts.trips ++ codes " times "
    ++ decimal counts.times ++ codes " days " ++ decimal counts.days ++ line_feed
