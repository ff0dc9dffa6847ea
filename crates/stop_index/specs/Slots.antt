-- The departures of a timetable's runs at a stop, between two instants.
use Rattle.std.specs.Prelude.{ℕ, Bool, ◌&&◌, ◌==◌, List, map, filter, ℤ, pos, ◌+ℤ◌, int_le, int_lt}
use Rattle.std.specs.List.{flat_map}
use Rattle.std.specs.Ordering.{int_cmp, nat_cmp, ordering_then}
use Rattle.std.specs.declared.cmp.Ordering.{Ordering}
use Rattle.order.specs.Order.{ordered}
use Rattle.sched_types.specs.declared.rows.Place.{Place}
use Rattle.sched_types.specs.declared.rows.Run.{Run}
use Rattle.sched_types.specs.Runs.{all_runs, departures_of}
use Rattle.sched_types.specs.Timetable.{Timetable, base_of}
use Rattle.stop_index.specs.declared.slot.Slot.{Slot}

-- a numbered place is at that very stop
abbrev pub is_at : ℕ → ℕ × Place → Bool
is_at stop numbered = numbered.1.stop == stop

-- The departure of a run from a numbered place: at the instant from which the times of its day are
-- counted, plus the time of departure (GTFS Schedule, stop_times.txt, departure_time; "Field
-- Types", Time).
abbrev pub slot_of : Timetable → Run → ℕ × Place → Slot
slot_of t run numbered = record {
  at = base_of t run.day +ℤ pos numbered.1.departure;
  run = run;
  place = numbered.0;
}

-- the departures of a run at a stop
abbrev pub run_slots : Timetable → ℕ → Run → List Slot
run_slots t stop run = map (slot_of t run) (filter (is_at stop) (departures_of t run.trip))

-- all departures at a stop, in no order
abbrev pub slots_at : Timetable → ℕ → List Slot
slots_at t stop = flat_map (run_slots t stop) (all_runs t)

-- from one instant on, and before another
abbrev pub is_between : ℤ → ℤ → Slot → Bool
is_between start end slot = int_le start slot.at && int_lt slot.at end

-- by the instant, the trip, the day and the place
abbrev pub slot_cmp : Slot → Slot → Ordering
slot_cmp a b =
    ordering_then (int_cmp a.at b.at)
    (ordering_then (nat_cmp a.run.trip b.run.trip)
    (ordering_then (nat_cmp a.run.day b.run.day) (nat_cmp a.place b.place)))

-- the departures at a stop from one instant on and before another, in order
unfoldable pub slots_between : Timetable → ℕ → ℤ → ℤ → List Slot
slots_between t stop start end =
    ordered slot_cmp (filter (is_between start end) (slots_at t stop))
