-- The stop times of a trip, as they stand in the groups.
use Rattle.std.proofs.Common.{◌≡◌, ℕ, ◌+◌, ◌≤◌, true, false, List, [], ◌∷◌, length, map, refl, ap, ◌∙◌, arith}
use Rattle.std.specs.Prelude.{slice_get, Option, Some, None, bytes_eq, Ok, Err, if◌then◌else◌}
use Rattle.answer_defs.specs.Steps.{unless}
use Rattle.gtfs_rows.specs.declared.rows.StopRow.{StopRow}
use Rattle.gtfs_rows.specs.declared.rows.TripRow.{TripRow}
use Rattle.gtfs_rows.specs.declared.rows.StopTimeRow.{StopTimeRow}
use Rattle.sched_types.specs.Timetable.{number_of}
use Rattle.sched_load_defs.specs.declared.fault.LoadFault.TheVariants as fault
use Rattle.sched_load_defs.specs.Loading.{times_fault, with_times}
use Rattle.sched_load_defs.specs.Numbers.{Dataset, by_id, given_times, stop_times_of}
use Rattle.sched_load_defs.specs.References.{row_at}
use Rattle.sched_load_defs.specs.Times.{are_times, times_of}
use Rattle.sched_load.specs.Course.{given_of}
use Rattle.sched_load_defs.specs.declared.fault.File.TheVariants as file
use Rattle.sched_load_defs.specs.References.{unknown_in_stop_time}
use Rattle.sched_load.specs.declared.tables.Tables.{Tables}
use Rattle.sched_load.specs.Listed.{stay_of, times_seen, visit_of}
use Rattle.sched_load.specs.Tables.{AreRead}
use Rattle.sched_load.proofs.Sound.{refers}
use Rattle.sched_load.proofs.VisitLemmas.{same_visit}
use Rattle.row_tables.proofs.Faults.{faults_from, fault_at, fault_behind, no_fault}
use Rattle.row_tables.proofs.Numbered.{has_by_number, text_itself}
use Rattle.sched_load.proofs.ServiceLemmas.{any_at, some_of}

given_one : (a d : Option ℕ) → times_seen (stay_of a d) ≡ times_of a d
given_one a d = grind arith

-- the given times of visits are those of their rows
pub given_rows : (trips : List TripRow) (stops : List StopRow) (rows : List StopTimeRow) → given_of (map (visit_of trips stops) rows) ≡ given_times rows
given_rows trips stops [] = refl
given_rows trips stops (row ∷ rows) = ap (λ t. t ∷ given_of (map (visit_of trips stops) rows)) (given_one row.arrival_time row.departure_time) ∙ ap (λ ts. times_of row.arrival_time row.departure_time ∷ ts) (given_rows trips stops rows)

-- each row that was read refers to known rows
pub known_rows : (t : Tables) (rows : List StopTimeRow) → AreRead t rows → (i : ℕ) (row : StopTimeRow) → slice_get rows i ≡ Some row → unknown_in_stop_time t.trips t.stops row ≡ None
known_rows t rows read = refers file.StopTimes (unknown_in_stop_time t.trips t.stops) same_visit rows read.sound.stop_times

-- each trip has a number
pub own_trip : (trips : List TripRow) (place : ℕ) (row : TripRow) → slice_get trips place ≡ Some row → (n : ℕ) × (number_of (λ trip. trip.trip_id) (by_id (λ trip. trip.trip_id) trips) row.trip_id ≡ Some n)
own_trip trips place row at =
    some_of _ (has_by_number (λ (trip : TripRow). trip.trip_id) row.trip_id trips ∙ any_at (λ trip. bytes_eq trip.trip_id row.trip_id) trips place row at (text_itself row.trip_id))

module _ (d : Dataset) (place : ℕ) where
  pub record InOrderTo : Type 0 where
    pub told : faults_from (times_fault d) d.trips 0 ≡ faults_from (times_fault d) d.trips place

  pub bad_times : (row : TripRow) → InOrderTo → slice_get d.trips place ≡ Some row → are_times (given_times (stop_times_of d.stop_times row.trip_id)) ≡ false → with_times d ≡ Err (fault.TripTimes (row_at place))
  unfolding with_times
  bad_times row h at e = ap (λ o. unless o d) (h.told ∙ fault_at (times_fault d) d.trips place row _ at (ap (λ b. if b then None else Some (fault.TripTimes (row_at place))) e))

  pub all_times_fine : InOrderTo → length d.trips ≤ place → with_times d ≡ Ok d
  unfolding with_times
  all_times_fine h l = ap (λ o. unless o d) (h.told ∙ no_fault (times_fault d) d.trips place l)

pub in_order_start : (d : Dataset) → InOrderTo d 0
in_order_start d = record { told = refl }

pub in_order_more : (d : Dataset) (place : ℕ) (row : TripRow) → InOrderTo d place → slice_get d.trips place ≡ Some row → are_times (given_times (stop_times_of d.stop_times row.trip_id)) ≡ true → InOrderTo d (place + 1)
in_order_more d place row h at e = record { told = h.told ∙ fault_behind (times_fault d) d.trips place row at (ap (λ b. if b then None else Some (fault.TripTimes (row_at place))) e) }
