-- Commands on small folders of files, computed by the definitions.
use Rattle.std.specs.Prelude.{◌≡◌, ℕ, List, true, refl, [], ◌∷◌, ◌++◌, Some, None, Ok, Err, codes}
use Rattle.std.specs.Fmt.{digits}
use Rattle.answer_defs.specs.Steps.{◌>>=◌}
use Rattle.sched_load_defs.specs.CityFiles.{city_folder, stops_txt, trips_txt, stop_times_txt, files_with, behind_agency}
use Rattle.sched_load_defs.proofs.OnFiles.{loading_on_files}
use Rattle.hub_config_defs.specs.declared.conf.ScheduleConf.{ScheduleConf}
use Rattle.text_defs.specs.Cleaned.{line_feed}
use Rattle.text_defs.specs.Numbers.{number}
use Rattle.hub_main_defs.specs.Words.{command_of, serve_of}
use Rattle.hub_main_defs.specs.Words.Command.{Replay, ReplayWith, Check, Board, Gen}
use Rattle.hub_main_defs.specs.Checks.{timetables, counts_lines, conf_in}
use Rattle.hub_main_defs.specs.Commands.{offline, usage_line}

-- commands and other words
pub replay_alone : command_of (codes "replay" ∷ []) ≡ Some Replay
unfolding command_of
replay_alone = refl

pub replay_with : command_of (codes "replay" ∷ codes "hub.toml" ∷ []) ≡ Some (ReplayWith (codes "hub.toml"))
unfolding command_of
replay_with = refl

-- leading zeros are fine up to 20 digits; a word more, and a limit of 0, are no board
abbrev board_words : List ℕ → List (List ℕ)
board_words limit =
    codes "board" ∷ codes "hub.toml" ∷ codes "city" ∷ codes "ST" ∷ codes "00000000001743314000"
    ∷ codes "3600" ∷ limit ∷ codes "json" ∷ []

pub board_asked : (command_of (board_words (codes "50"))
    ≡ Some (Board (codes "hub.toml") (record {
      schedule = codes "city";
      stop = codes "ST";
      at = 1743314000;
      span = 3600;
      limit = 50;
      json = true;
    })))
    × (command_of (board_words (codes "0")) ≡ None)
    × (command_of (board_words (codes "50") ++ codes "x" ∷ []) ≡ None)
unfolding command_of number
board_asked = (refl, refl, refl)

-- a seed of 64 bits, and one more than that; samples that are too large or empty, and a word too few
abbrev gen_words : List ℕ → List ℕ → List ℕ → List (List ℕ)
gen_words seed trips messages = codes "gen" ∷ seed ∷ trips ∷ messages ∷ []

pub sample_asked : (command_of (gen_words (codes "18446744073709551615") (codes "20000") (codes "2000"))
    ≡ Some (Gen 18446744073709551615 20000 2000))
    × (command_of (gen_words (codes "0") (codes "01") (codes "1")) ≡ Some (Gen 0 1 1))
    × (command_of (gen_words (codes "18446744073709551616") (codes "10") (codes "5")) ≡ None)
    × (command_of (gen_words (codes "1") (codes "20001") (codes "5")) ≡ None)
    × (command_of (gen_words (codes "1") (codes "0") (codes "5")) ≡ None)
    × (command_of (gen_words (codes "1") (codes "10") (codes "2001")) ≡ None)
    × (command_of (gen_words (codes "1") (codes "10") (codes "0")) ≡ None)
    × (command_of (codes "gen" ∷ codes "1" ∷ codes "10" ∷ []) ≡ None)
unfolding command_of number
sample_asked = (refl, refl, refl, refl, refl, refl, refl, refl)

-- the words of the server, and others: they are no command of the other kind
pub served : (serve_of (codes "serve" ∷ codes "hub.toml" ∷ []) ≡ Some (codes "hub.toml"))
    × (serve_of (codes "serve" ∷ []) ≡ None)
    × (serve_of (codes "serve" ∷ codes "hub.toml" ∷ codes "hub.toml" ∷ []) ≡ None)
    × (serve_of (codes "serve" ∷ codes "-c" ∷ []) ≡ None)
    × (serve_of (codes "check" ∷ codes "hub.toml" ∷ []) ≡ None)
    × (command_of (codes "serve" ∷ codes "hub.toml" ∷ []) ≡ None)
unfolding serve_of command_of
served = (refl, refl, refl, refl, refl, refl)

pub check_one : command_of (codes "check" ∷ codes "hub.toml" ∷ []) ≡ Some (Check (codes "hub.toml"))
unfolding command_of
check_one = refl

pub check_none : command_of (codes "check" ∷ []) ≡ None
unfolding command_of
check_none = refl

pub check_an_option : command_of (codes "check" ∷ codes "-v" ∷ []) ≡ None
unfolding command_of
check_an_option = refl

pub no_words : command_of [] ≡ None
unfolding command_of
no_words = refl

pub usage_is_said : offline [] [] [] [] ≡ record { written = usage_line; status = 2 }
unfolding offline command_of
usage_is_said = refl

-- the example timetable under the name `city`
abbrev city_schedule : ScheduleConf
city_schedule = record { name = codes "city"; folder = city_folder; zone = codes "CET-1CEST,M3.5.0,M10.5.0/3"; first = 20250329; days = 3; prefix = [] }

pub city_is_counted : (timetables (files_with stops_txt trips_txt stop_times_txt) (city_schedule ∷ []) >>= λ ts. Ok (counts_lines (city_schedule ∷ []) ts))
    ≡ Ok (codes "city agencies 1 stops 5 routes 1 trips 3 times 8 days 3" ++ line_feed)
unfolding loading_on_files timetables digits
city_is_counted = refl

pub missing_is_told : timetables (behind_agency stops_txt trips_txt stop_times_txt) (city_schedule ∷ []) ≡ Err (codes "hub: load city missing agency.txt")
unfolding loading_on_files timetables digits
missing_is_told = refl

pub absent_is_told : conf_in None ≡ Err (codes "hub: config absent")
absent_is_told = refl
