-- Commands on the files of the small city and of its configuration, computed by the definitions.
use Rattle.std.specs.Prelude.{◌≡◌, ℕ, ◌<◌, nat_lt, true, List, [], ◌∷◌, ◌++◌, length, Some, Err, refl, codes, if◌then◌else◌}
use Rattle.std.proofs.Common.{arith, ap}
use Rattle.std.proofs.lemmas.Bool.Decides.{nat_tests}
use Rattle.std.specs.Fmt.{digits}
use Rattle.text_defs.specs.Cleaned.{line_feed}
use Rattle.text_defs.specs.Numbers.{number}
use Rattle.gtfs_rows.specs.declared.column.Column.TheVariants as column
use Rattle.gtfs_rows.specs.declared.fault.RowFault.TheVariants as rows
use Rattle.sched_load_defs.specs.CityFiles.{files_with, stops_txt, trips_txt, stop_times_txt}
use Rattle.sched_load_defs.specs.declared.fault.File.TheVariants as file
use Rattle.sched_load_defs.specs.declared.fault.LoadFault.TheVariants as fault
use Rattle.sched_load_defs.proofs.OnFiles.{loading_on_files}
use Rattle.hub_config_defs.specs.Conf.{conf_of}
use Rattle.hub_config_defs.proofs.OnLiterals.{conf_on_literals}
use Rattle.hub_replay_defs.specs.Output.{Output}
use Rattle.hub_main_defs.specs.Checks.{check_output, conf_in, conf_or_line, longest_conf, timetables}
use Rattle.hub_main_defs.specs.Commands.{offline, usage}
use Rattle.hub_main_defs.specs.Faults.{load_words}
use Rattle.hub_main_defs.specs.Words.{command_of}

-- ---- whole runs

-- a configuration with the small city, and what else it has
abbrev city_toml : List ℕ → List ℕ
city_toml more =
    codes "[[schedule]]\nname = \"city\"\nfolder = \"city\"\nzone = \"CET-1CEST,M3.5.0,M10.5.0/3\"\nfirst = \"20250329\"\ndays = 3\n"
    ++ more

-- the files of the city, and that configuration
abbrev city_files : List ℕ → List (List ℕ × List ℕ)
city_files more = (codes "hub.toml", city_toml more) ∷ files_with stops_txt trips_txt stop_times_txt

abbrev told : List ℕ → ℕ → Output
told line status = record { written = line ++ line_feed; status = status }

-- what `check` prints of it
abbrev checked : List ℕ → Output
checked more = offline [] (codes "check" ∷ codes "hub.toml" ∷ []) (city_files more) []

-- the city alone; with a second timetable whose files are not there, which is told alone; a key
-- that no table has, before any timetable is looked at; a configuration that is not there
checks_are_told :
    (checked [] ≡ told (codes "city agencies 1 stops 5 routes 1 trips 3 times 8 days 3") 0)
    × (checked (codes "[[schedule]]\nname = \"town\"\nfolder = \"town\"\nzone = \"UTC0\"\nfirst = \"20250329\"\ndays = 1\n")
    ≡ told (codes "hub: load town missing agency.txt") 3)
    × (checked (codes "x = 1\n") ≡ told (codes "hub: config schedule 1 x unknown") 3)
    × (offline [] (codes "check" ∷ codes "no.toml" ∷ []) (city_files []) [] ≡ told (codes "hub: config absent") 3)
unfolding conf_on_literals loading_on_files offline command_of check_output timetables digits
checks_are_told = (refl, refl, refl, refl)

-- words with a hyphen in front are no command, also a hyphen alone
hyphens_are_no_words :
    (offline [] (codes "check" ∷ codes "-" ∷ []) [] [] ≡ usage)
    × (offline [] (codes "-" ∷ []) [] [] ≡ usage)
    × (offline [] (codes "board" ∷ codes "hub.toml" ∷ codes "city" ∷ codes "-S" ∷ codes "0" ∷ codes "1" ∷ codes "1" ∷ codes "text" ∷ []) [] [] ≡ usage)
unfolding offline command_of number
hyphens_are_no_words = (refl, refl, refl)

-- ---- lines

-- a configuration of more than 1048576 bytes is told, whatever it says
long_is_told : (bytes : List ℕ) → longest_conf < length bytes → conf_in (Some bytes) ≡ Err (codes "hub: config long")
long_is_told bytes more =
    let long : nat_lt longest_conf (length bytes) ≡ true = grind (arith, nat_tests, more) in
    ap (λ b. if b then Err (codes "hub: config long") else conf_or_line (conf_of bytes)) long

-- the words of each fault of a timetable
faults_are_worded :
    (load_words fault.BadZone ≡ codes "zone")
    × (load_words (fault.MissingFile file.Agency) ≡ codes "missing agency.txt")
    × (load_words (fault.TooLong file.StopTimes) ≡ codes "long stop_times.txt")
    × (load_words (fault.Rows file.Trips rows.TooMany) ≡ codes "many trips.txt")
    × (load_words (fault.Rows file.Stops (rows.MissingColumn column.StopId)) ≡ codes "column stops.txt stop_id")
    × (load_words (fault.Rows file.Routes (rows.BadValue 2 column.RouteType)) ≡ codes "value routes.txt 2 route_type")
    × (load_words (fault.Rows file.Calendar (rows.NotText 3 column.ServiceId)) ≡ codes "text calendar.txt 3 service_id")
    × (load_words (fault.UnknownRef file.Trips 4 column.RouteId) ≡ codes "reference trips.txt 4 route_id")
    × (load_words (fault.Duplicate file.CalendarDates 5) ≡ codes "duplicate calendar_dates.txt 5")
    × (load_words (fault.TripTimes 6) ≡ codes "times 6")
unfolding digits
faults_are_worded = (refl, refl, refl, refl, refl, refl, refl, refl, refl, refl)
