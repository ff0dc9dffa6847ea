-- Where an iterator over the departures of a stop stands: at one day, next to all others.
use Rattle.std.specs.Prelude.{◌≡◌, ℕ, List, length, filter, Option, ℤ}
use Rattle.std.specs.List.Sorted.{IsSorted}
use Rattle.sched_types.specs.Timetable.{Timetable, IsSmall}
use Rattle.stop_index.specs.declared.reached.Reached.{Reached}
use Rattle.stop_index.specs.declared.slot.Slot.{Slot}
use Rattle.stop_index.specs.declared.trip_departure.TripDeparture.{TripDeparture}
use Rattle.stop_index.specs.Index.{departure_cmp}
use Rattle.stop_index.specs.Left.{is_ahead, is_left, slots_from, slots_on, others_before}
use Rattle.stop_index.specs.First.{IsFirst}

-- a day's departures, in order, whose runs are those of the day that come after what was reached
pub record IsAhead (t : Timetable) (departures : List TripDeparture) (reached : Reached) (day : ℕ)
    (base : ℤ) (ahead : List TripDeparture) : Type 0 where
  pub small : IsSmall base
  pub sorted : IsSorted departure_cmp ahead
  pub runs : slots_from t base day ahead ≡ filter (is_ahead reached) (slots_on t departures day)

-- and the first that is left of all other days
pub record Stands (t : Timetable) (departures : List TripDeparture) (reached : Reached) (end : ℤ)
    (day : ℕ) (base : ℤ) (ahead : List TripDeparture) (other : Option Slot) : Type 0 where
  pub here : IsAhead t departures reached day base ahead
  pub others : IsFirst (is_left reached end) (others_before t departures day (length t.bases)) other
