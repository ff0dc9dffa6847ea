-- What an iterator has left, before and after it hands out a departure.
use Rattle.std.proofs.Common.{◌≡◌, List, [], ◌∷◌, length, ℤ, Some, None}
use Rattle.sched_types.specs.Timetable.{Timetable}
use Rattle.stop_index.specs.declared.reached.Reached.{Reached}
use Rattle.stop_index.specs.declared.reached.Reached.TheVariants.{Departure}
use Rattle.stop_index.specs.declared.slot.Slot.{Slot}
use Rattle.stop_index.specs.declared.trip_departure.TripDeparture.{TripDeparture}
use Rattle.stop_index.specs.Left.{is_left, slots_before, slots_left, AreDepartures}
use Rattle.stop_index.specs.First.{IsFirst}
use Rattle.stop_index.proofs.Ahead.{left_ahead}
use Rattle.stop_index.proofs.Firsts.{next_left, none_left}
use Rattle.stop_index.proofs.DaySlots.{once_before}

module _ (t : Timetable) (departures : List TripDeparture) (reached : Reached) (end : ℤ) where
  pub nothing_left : IsFirst (is_left reached end) (slots_before t departures (length t.bases)) None → slots_left t departures reached end ≡ []
  unfolding slots_left
  nothing_left none = none_left (is_left reached end) (slots_before t departures (length t.bases)) none

  pub first_is_left : (slot : Slot) → AreDepartures departures → IsFirst (is_left reached end) (slots_before t departures (length t.bases)) (Some slot)
      → slots_left t departures reached end ≡ slot ∷ slots_left t departures (Departure slot) end
  unfolding slots_left
  first_is_left slot are first =
      next_left reached end slot (left_ahead reached end slot first.passing) (slots_before t departures (length t.bases)) first (once_before t departures are.once slot (length t.bases))
