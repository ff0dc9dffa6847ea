-- What must be true of a timetable and of rows of frequencies.txt for the rows' trips to be put in.
use Rattle.std.specs.Prelude.{◌≡◌, ℕ, ◌<◌, ◌≤◌, [], length, sum_by, slice_get, Some, IsTrue}
use Rattle.freq_runs.specs.Trips.{time_end}
use Rattle.gtfs_rows.specs.declared.rows.FrequencyRow.{FrequencyRow}
use Rattle.sched_types.specs.declared.rows.Place.{Place}
use Rattle.sched_types.specs.Timetable.{Timetable, IsTimetable, places_of}
use Rattle.sched_load_defs.specs.Files.{most_rows}
use Rattle.sched_load_defs.specs.References.{has_id}

-- The trips are those of trips.txt, each once, with as many places as stop_times.txt has rows at
-- most, at times that a file may have.
pub record IsPlain (t : Timetable) : Type 0 where
  pub timetable : IsTimetable t
  pub no_patterns : t.patterns ≡ []
  pub no_derived : t.derived ≡ []
  pub few_trips : length t.trips ≤ most_rows
  pub few_places : sum_by length t.places ≤ most_rows
  pub arrives_early : (trip i : ℕ) (place : Place) → slice_get (places_of t trip) i ≡ Some place
      → place.arrival < time_end
  pub departs_early : (trip i : ℕ) (place : Place) → slice_get (places_of t trip) i ≡ Some place
      → place.departure < time_end

-- the row's values are in range, and it names a trip
pub record IsRowOf (t : Timetable) (row : FrequencyRow) : Type 0 where
  pub start_is : row.start_time < time_end
  pub end_is : row.end_time < time_end
  pub headway_is : 1 ≤ row.headway_secs
  pub trip_is : IsTrue (has_id (λ trip. trip.id) t.trips row.trip_id)
