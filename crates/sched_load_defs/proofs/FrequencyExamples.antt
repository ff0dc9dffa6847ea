-- What frequencies.txt makes of the example timetable: each line computes.
use Rattle.std.specs.Prelude.{◌≡◌, refl, ℕ, List, codes, [], ◌∷◌, ◌++◌, map, Some, Result, Ok, Err}
use Rattle.gtfs_rows.specs.declared.column.Column.TheVariants as column
use Rattle.gtfs_rows.specs.declared.fault.RowFault.TheVariants as row_fault
use Rattle.sched_types.specs.declared.rows.Counts.{Counts}
use Rattle.sched_types.specs.declared.rows.Trip.{Trip}
use Rattle.sched_types.specs.declared.rows.Place.{Place}
use Rattle.sched_types.specs.declared.rows.PlanPattern.{PlanPattern}
use Rattle.sched_types.specs.declared.rows.PlanDerived.{PlanDerived}
use Rattle.sched_types.specs.Timetable.{Timetable, counts_of}
use Rattle.sched_types.specs.City.{city}
use Rattle.sched_load_defs.specs.declared.fault.File.TheVariants as file
use Rattle.sched_load_defs.specs.declared.fault.LoadFault.{LoadFault}
use Rattle.sched_load_defs.specs.declared.fault.LoadFault.TheVariants as fault
use Rattle.sched_load_defs.specs.CityFiles.{city_folder, city_conf, stops_txt, trips_txt, stop_times_txt, files_with}
use Rattle.sched_load_defs.specs.Files.{path_of}
use Rattle.sched_load_defs.specs.Loading.{timetable}
use Rattle.sched_load_defs.proofs.OnFiles.{loading_on_files}

-- the example with these rows of frequencies.txt
abbrev outcome : List ℕ → Result Timetable LoadFault
outcome rows = timetable
    ((
      path_of city_folder file.Frequencies,
      codes "trip_id,start_time,end_time,headway_secs,exact_times\n" ++ rows,
    )
    ∷ files_with stops_txt trips_txt stop_times_txt) city_folder city_conf

abbrev in_outcome : {A : Type 0} → (Timetable → A) → Result Timetable LoadFault → Result A LoadFault
in_outcome view (Ok t) = Ok (view t)
in_outcome view (Err e) = Err e

-- T2 from 09:00:00 on, each half hour, for the last time at 09:30:00
abbrev half_hours : List ℕ
half_hours = codes "T2,09:00:00,09:31:00,1800,1\n"

-- it is a pattern of two places and no trip any more; its two trips are the last by their ids
trips : in_outcome (λ t. map (λ trip. trip.id) t.trips) (outcome half_hours)
    ≡ Ok (codes "N1" ∷ codes "T1" ∷ codes "T2@09:00:00" ∷ codes "T2@09:30:00" ∷ [])
unfolding loading_on_files
trips = refl

patterns : in_outcome (λ t. t.patterns) (outcome half_hours)
    ≡ Ok (record { id = codes "T2"; places = 2 } ∷ [])
unfolding loading_on_files
patterns = refl

derived : in_outcome (λ t. t.derived) (outcome half_hours)
    ≡ Ok (record { pattern = 0; start = 32400; trip = 2 } ∷ record { pattern = 0; start = 34200; trip = 3 } ∷ [])
unfolding loading_on_files
derived = refl

-- patterns are rows of trips.txt, and derived trips aren't
counts : in_outcome counts_of (outcome half_hours) ≡ Ok (counts_of city)
unfolding loading_on_files
counts = refl

-- the same row twice gives the same ids twice
twice : outcome (half_hours ++ half_hours) ≡ Err (fault.Duplicate file.Frequencies 3)
unfolding loading_on_files
twice = refl

-- rows without exact times take the pattern out, and give nothing
inexact : in_outcome (λ t. map (λ trip. trip.id) t.trips) (outcome (codes "T2,09:00:00,09:31:00,1800,0\n"))
    ≡ Ok (codes "N1" ∷ codes "T1" ∷ [])
unfolding loading_on_files
inexact = refl

-- a row of a trip that isn't there
no_trip : outcome (codes "T3,09:00:00,09:31:00,1800,1\n") ≡ Err (fault.UnknownRef file.Frequencies 2 column.TripId)
unfolding loading_on_files
no_trip = refl
