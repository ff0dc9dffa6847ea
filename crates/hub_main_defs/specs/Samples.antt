-- What `gen` says of a sample.
use Rattle.std.specs.Prelude.{ℕ, List, Result, Ok}
use Rattle.answer_defs.specs.Steps.{◌>>=◌}
use Rattle.hub_replay_defs.specs.Output.{Output}
use Rattle.hub_gen_defs.specs.Network.{sample_name}
use Rattle.hub_gen_defs.specs.Run.{sample_line, sample_timetable}
use Rattle.hub_main_defs.specs.Checks.{output_of_check, timetable_or_line}

-- the line of a sample, or the one that tells why its timetable is refused
unfoldable pub sample_lines : ℕ → ℕ → ℕ → Result (List ℕ) (List ℕ)
sample_lines seed trips messages =
    timetable_or_line sample_name (sample_timetable trips) >>= λ t.
    Ok (sample_line seed trips messages t)

-- what `gen` prints, and its status
abbrev pub gen_output : ℕ → ℕ → ℕ → Output
gen_output seed trips messages = output_of_check (sample_lines seed trips messages)
