-- The first of some departures.
use Rattle.std.specs.Prelude.{◌≡◌, ℕ, ◌<◌, Bool, true, ◌&&◌, if◌then◌else◌, List, filter, slice_get, Option, Some, None, count_by, ℤ, pos, ◌+ℤ◌}
use Rattle.std.specs.Ordering.{is_eq, is_gt, is_lt}
use Rattle.sched_types.specs.Timetable.{Timetable}
use Rattle.stop_index.specs.declared.slot.Slot.{Slot}
use Rattle.stop_index.specs.declared.trip_departure.TripDeparture.{TripDeparture}
use Rattle.stop_index.specs.Slots.{slot_cmp}
use Rattle.stop_index.specs.Left.{is_before, slots_from}

-- it is one of those that pass, and none of them goes before it
pub record IsFirstSlot (passes : Slot → Bool) (slots : List Slot) (slot : Slot) : Type 0 where
  pub passing : passes slot ≡ true
  pub among : 0 < count_by (λ other. is_eq (slot_cmp slot other)) slots
  pub first : count_by (λ other. passes other && is_gt (slot_cmp slot other)) slots ≡ 0

-- the first of those that pass, where one does
abbrev pub IsFirst : (Slot → Bool) → List Slot → Option Slot → Type 0
IsFirst passes slots None = count_by passes slots ≡ 0
IsFirst passes slots (Some slot) = IsFirstSlot passes slots slot

-- the earlier of two, and of two that tie the former
abbrev pub earlier_of : Option Slot → Option Slot → Option Slot
earlier_of None found = found
earlier_of (Some best) None = Some best
earlier_of (Some best) (Some found) =
    if is_lt (slot_cmp found best) then Some found else Some best

-- it goes before another one, if there is one
abbrev pub goes_before : Slot → Option Slot → Bool
goes_before slot None = true
goes_before slot (Some other) = is_lt (slot_cmp slot other)

-- the instant after the best, or the end where there is none
abbrev pub until_of : Option Slot → ℤ → ℤ
until_of None end = end
until_of (Some best) end = best.at +ℤ pos 1

-- the first of the runs of a day, if it leaves before an instant
abbrev pub soonest : Timetable → ℤ → ℕ → ℤ → List TripDeparture → Option Slot
soonest t base day end departures =
    slice_get (filter (is_before end) (slots_from t base day departures)) 0
