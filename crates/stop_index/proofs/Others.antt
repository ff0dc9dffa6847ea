-- The departures of all days but one, next to those of that one.
use Rattle.std.proofs.Common.{◌≡◌, ℕ, Bool, true, false, nat_eq, Option, List, [], filter, slice_get, count_by, refl, subst, sym}
use Rattle.std.specs.Prelude.{if◌then◌else◌}
use Rattle.std.specs.List.Sorted.{IsSorted}
use Rattle.order.proofs.Laws.{IsRising}
use Rattle.sched_types.specs.Timetable.{Timetable}
use Rattle.stop_index.specs.declared.slot.Slot.{Slot}
use Rattle.stop_index.specs.declared.trip_departure.TripDeparture.{TripDeparture}
use Rattle.stop_index.specs.Index.{departure_cmp}
use Rattle.stop_index.specs.Left.{slots_on, others_on}
use Rattle.stop_index.specs.First.{IsFirst}
use Rattle.stop_index.proofs.Instants.{slot_total}
use Rattle.stop_index.proofs.DaySlots.{rising_of, rising_slots}
use Rattle.stop_index.proofs.Firsts.{first_of_rising}

module _ (p : Slot → Bool) (t : Timetable) (departures : List TripDeparture) (apart day : ℕ) where
  -- where none of a day passes, none of it does where one day is set apart
  pub none_other : count_by p (slots_on t departures day) ≡ 0 → count_by p (others_on t departures apart day) ≡ 0
  none_other none = by_day (nat_eq day apart) where
    by_day : (b : Bool) → count_by p (if b then [] else slots_on t departures day) ≡ 0
    by_day true = refl
    by_day false = none

  -- the first in the list is the first in order
  pub other_found : (r : Option Slot) → IsSorted departure_cmp departures → r ≡ slice_get (filter p (others_on t departures apart day)) 0 → IsFirst p (others_on t departures apart day) r
  other_found r sorted is =
      subst (λ o. IsFirst p (others_on t departures apart day) o) (sym is)
      (first_of_rising p (others_on t departures apart day) (by_day (nat_eq day apart)))
    where
      by_day : (b : Bool) → IsRising slot_total (if b then [] else slots_on t departures day)
      by_day true = tt
      by_day false = rising_slots t day departures (rising_of departures sorted)
