-- What frequencies.txt makes of a timetable in which each trip of trips.txt is one trip (GTFS
-- Schedule, frequencies.txt). A trip that any row names is a pattern, and none of the trips any
-- more. In its place come the trips that exact rows derive of it, with its route, service,
-- headsign, direction, stops, stop_sequences and pickup types; that the other rows add no trips is
-- a rule of this project.
use Rattle.std.specs.Prelude.{ℕ, Bool, false, not, ◌==◌, List, [], ◌∷◌, ◌++◌, length, map, filter, zip, Option, Some, None, Result, Ok, Err, slice_get}
use Rattle.std.specs.List.{enumerate_from, flat_map}
use Rattle.std.specs.Ordering.{nat_cmp, ordering_then}
use Rattle.std.specs.declared.cmp.Ordering.{Ordering}
use Rattle.freq_runs.specs.declared.times.PlaceTime.{PlaceTime}
use Rattle.freq_runs.specs.declared.rows.Pattern.{Pattern}
use Rattle.freq_runs.specs.declared.rows.Frequency.{Frequency}
use Rattle.freq_runs.specs.declared.rows.Derived.{Derived}
use Rattle.freq_runs.specs.declared.fault.DeriveFault.{DeriveFault}
use Rattle.freq_runs.specs.declared.fault.DeriveFault.TheVariants as derive
use Rattle.freq_runs.specs.Faults.{derived_trips}
use Rattle.gtfs_rows.specs.declared.fault.RowFault.TheVariants as row_fault
use Rattle.gtfs_rows.specs.declared.rows.FrequencyRow.{FrequencyRow}
use Rattle.sched_types.specs.declared.rows.Trip.{Trip}
use Rattle.sched_types.specs.declared.rows.Place.{Place}
use Rattle.sched_types.specs.declared.rows.PlanPattern.{PlanPattern}
use Rattle.sched_types.specs.declared.rows.PlanDerived.{PlanDerived}
use Rattle.sched_types.specs.Timetable.{Timetable}
use Rattle.sched_load_defs.specs.declared.fault.File.TheVariants as file
use Rattle.sched_load_defs.specs.declared.fault.LoadFault.{LoadFault}
use Rattle.sched_load_defs.specs.declared.fault.LoadFault.TheVariants as fault
use Rattle.sched_load_defs.specs.References.{has_id, row_at}
use Rattle.sched_load_defs.specs.Numbers.{by_id, known_number, rows_by_key}

-- a trip with its places
abbrev pub TimedTrip : Type 0
TimedTrip = Trip × List Place

abbrev pub id_of : TimedTrip → List ℕ
id_of (trip, places) = trip.id

abbrev pub timed_trips : Timetable → List TimedTrip
timed_trips t = zip t.trips t.places

-- a row names the trip
abbrev pub is_named : List FrequencyRow → TimedTrip → Bool
is_named rows timed = has_id (λ row. row.trip_id) rows (id_of timed)

-- the patterns, and the trips that are none
unfoldable pub patterns_in : List FrequencyRow → Timetable → List TimedTrip
patterns_in rows t = filter (is_named rows) (timed_trips t)

unfoldable pub other_trips : List FrequencyRow → Timetable → List TimedTrip
other_trips rows t = filter (λ timed. not (is_named rows timed)) (timed_trips t)

-- a pattern, as trips are derived of it
abbrev pub place_time : Place → PlaceTime
place_time place = record { arrival = place.arrival; departure = place.departure }

abbrev pub pattern_of : TimedTrip → Pattern
pattern_of (trip, places) = record { id = trip.id; times = map place_time places }

-- exact_times 1 says that trips run at just these times; 0 and an empty one that they don't
abbrev pub is_exact : Option ℕ → Bool
is_exact None = false
is_exact (Some exact) = exact == 1

abbrev pub frequency_of : List TimedTrip → ℕ × FrequencyRow → Frequency
frequency_of patterns (place, row) = record {
  row = row_at place;
  pattern = known_number id_of patterns row.trip_id;
  start = row.start_time;
  end = row.end_time;
  headway = row.headway_secs;
  exact = is_exact row.exact_times;
}

-- the trips that the rows derive, or their first fault; the ids of all trips of trips.txt are taken
unfoldable pub derived_of : List FrequencyRow → Timetable → Result (List Derived) DeriveFault
derived_of rows t =
    derived_trips (map pattern_of (patterns_in rows t)) (map (λ trip. trip.id) t.trips)
    (map (frequency_of (patterns_in rows t)) (enumerate_from 0 rows))

-- a place of a pattern at another time
abbrev pub at_time : Place × PlaceTime → Place
at_time (place, time) = record place { arrival = time.arrival; departure = time.departure }

-- a derived trip with its places
abbrev pub trip_of_pattern : Derived → Option TimedTrip → List TimedTrip
trip_of_pattern derived None = []
trip_of_pattern derived (Some (trip, places)) =
    (record trip { id = derived.id }, map at_time (zip places derived.times)) ∷ []

abbrev pub timed_of : List TimedTrip → Derived → List TimedTrip
timed_of patterns derived = trip_of_pattern derived (slice_get patterns derived.pattern)

-- all trips by rising bytes of their ids: those that are no patterns, and the derived ones
unfoldable pub all_trips : List FrequencyRow → Timetable → List Derived → List TimedTrip
all_trips rows t derived =
    by_id id_of (other_trips rows t ++ flat_map (timed_of (patterns_in rows t)) derived)

abbrev pub plan_pattern : TimedTrip → PlanPattern
plan_pattern (trip, places) = record { id = trip.id; places = length places }

-- which of the trips a derived one is
abbrev pub plan_derived : List TimedTrip → Derived → PlanDerived
plan_derived timed derived = record {
  pattern = derived.pattern;
  start = derived.start;
  trip = known_number id_of timed derived.id;
}

-- by the patterns, and then by the starts
abbrev pub start_cmp : ℕ × ℕ → ℕ × ℕ → Ordering
start_cmp (pattern, start) (other, later) =
    ordering_then (nat_cmp pattern other) (nat_cmp start later)

abbrev pub start_of : PlanDerived → ℕ × ℕ
start_of derived = (derived.pattern, derived.start)

unfoldable pub plan_deriveds : List TimedTrip → List Derived → List PlanDerived
plan_deriveds timed derived = rows_by_key start_cmp start_of (map (plan_derived timed) derived)

-- the timetable with these derived trips in place of the patterns
unfoldable pub with_derived : List FrequencyRow → Timetable → List Derived → Timetable
with_derived rows t derived = record t {
  trips = map (λ timed. timed.0) (all_trips rows t derived);
  places = map (λ timed. timed.1) (all_trips rows t derived);
  patterns = map plan_pattern (patterns_in rows t);
  derived = plan_deriveds (all_trips rows t derived) derived;
}

-- the same, or the fault of the derived trips
abbrev pub with_derived_or : List FrequencyRow → Timetable → Result (List Derived) DeriveFault
    → Result Timetable DeriveFault
with_derived_or rows t (Ok derived) = Ok (with_derived rows t derived)
with_derived_or rows t (Err e) = Err e

-- the timetable with the trips that the rows derive in place of those that they name, or their
-- first fault
unfoldable pub with_frequencies : List FrequencyRow → Timetable → Result Timetable DeriveFault
with_frequencies rows t = with_derived_or rows t (derived_of rows t)

-- what loading tells of that fault
abbrev pub load_fault_of : DeriveFault → LoadFault
load_fault_of derive.TooMany = fault.Rows file.Frequencies row_fault.TooMany
load_fault_of (derive.Duplicate row) = fault.Duplicate file.Frequencies row
load_fault_of derive.NoMemory = fault.NoMemory

abbrev pub load_answer_of : Result Timetable DeriveFault → Result Timetable LoadFault
load_answer_of (Ok t) = Ok t
load_answer_of (Err e) = Err (load_fault_of e)
