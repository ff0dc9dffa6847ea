-- What an iterator over the departures of a stop has left.
use Rattle.std.specs.Prelude.{◌≡◌, ℕ, ◌≤◌, Bool, ◌&&◌, ◌==◌, if◌then◌else◌, List, [], length, map, filter, count_by, ℤ, pos, ◌+ℤ◌, int_le, int_lt}
use Rattle.std.specs.List.{flat_map, range_with_len}
use Rattle.std.specs.List.Sorted.{IsSorted}
use Rattle.std.specs.Ordering.{is_lt}
use Rattle.order.specs.Order.{ordered}
use Rattle.sched_types.specs.Timetable.{Timetable, is_run, base_of}
use Rattle.stop_index.specs.declared.reached.Reached.{Reached}
use Rattle.stop_index.specs.declared.reached.Reached.TheVariants.{Instant, Departure}
use Rattle.stop_index.specs.declared.slot.Slot.{Slot}
use Rattle.stop_index.specs.declared.trip_departure.TripDeparture.{TripDeparture}
use Rattle.stop_index.specs.Slots.{slot_cmp}
use Rattle.stop_index.specs.Index.{departure_cmp, days_are_rising}

-- a trip's departure on a day whose times are counted from base
abbrev pub slot_at : ℤ → ℕ → TripDeparture → Slot
slot_at base day departure = record {
  at = base +ℤ pos departure.seconds;
  run = record { trip = departure.trip; day = day };
  place = departure.place;
}

-- the trip runs on that day
abbrev pub runs_on : Timetable → ℕ → TripDeparture → Bool
runs_on t day departure = is_run t (record { trip = departure.trip; day = day })

-- the runs of a day whose times are counted from base, by their departures
abbrev pub slots_from : Timetable → ℤ → ℕ → List TripDeparture → List Slot
slots_from t base day departures = map (slot_at base day) (filter (runs_on t day) departures)

-- those of a day, and of all days before one
abbrev pub slots_on : Timetable → List TripDeparture → ℕ → List Slot
slots_on t departures day = slots_from t (base_of t day) day departures

abbrev pub slots_before : Timetable → List TripDeparture → ℕ → List Slot
slots_before t departures day = flat_map (slots_on t departures) (range_with_len 0 day)

-- the same without those of one day
abbrev pub others_on : Timetable → List TripDeparture → ℕ → ℕ → List Slot
others_on t departures apart day = if day == apart then [] else slots_on t departures day

abbrev pub others_before : Timetable → List TripDeparture → ℕ → ℕ → List Slot
others_before t departures apart day =
    flat_map (others_on t departures apart) (range_with_len 0 day)

-- a departure comes after what was reached
abbrev pub is_ahead : Reached → Slot → Bool
is_ahead (Instant start) slot = int_le start slot.at
is_ahead (Departure last) slot = is_lt (slot_cmp last slot)

-- the instant before which none comes after what was reached
abbrev pub instant_of : Reached → ℤ
instant_of (Instant start) = start
instant_of (Departure last) = last.at

-- a departure leaves before an instant
abbrev pub is_before : ℤ → Slot → Bool
is_before end slot = int_lt slot.at end

-- a departure is left
abbrev pub is_left : Reached → ℤ → Slot → Bool
is_left reached end slot = is_ahead reached slot && is_before end slot

-- all that are left, in order
unfoldable pub slots_left : Timetable → List TripDeparture → Reached → ℤ → List Slot
slots_left t departures reached end =
    ordered slot_cmp
    (filter (is_left reached end) (slots_before t departures (length t.bases)))

-- a departure is that of a trip from that place
abbrev pub is_from : ℕ → ℕ → TripDeparture → Bool
is_from trip place departure = (departure.trip == trip) && (departure.place == place)

-- departures of trips in order, each once
pub record AreDepartures (departures : List TripDeparture) : Type 0 where
  pub sorted : IsSorted departure_cmp departures
  pub once : (trip place : ℕ)
      → count_by (is_from trip place) departures ≤ 1

-- on no day before that one a departure comes after what was reached
pub record IsOver (t : Timetable) (departures : List TripDeparture) (reached : Reached)
    (day : ℕ) : Type 0 where
  pub within : day ≤ length t.bases
  pub none : count_by (is_ahead reached) (slots_before t departures day) ≡ 0

-- what an iterator keeps is right
pub record IsReady (t : Timetable) (departures : List TripDeparture) (rise : Bool)
    (reached : Reached) (first_day : ℕ) : Type 0 where
  pub are : AreDepartures departures
  pub rise_is : rise ≡ days_are_rising t
  pub over : IsOver t departures reached first_day
