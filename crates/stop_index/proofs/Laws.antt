-- Laws of what is promised: one timetable has one index, and of the departures between two instants each comes once.
use Rattle.std.proofs.Common.{◌≡◌, ℕ, ◌≤◌, length, filter, count_by, ℤ, ◌&&◌, sym, ◌∙◌, arith}
use Rattle.std.proofs.lemmas.Bool.{and_parts}
use Rattle.order.proofs.Laws.{IsRising, rising_ordered}
use Rattle.sched_types.specs.Timetable.{Timetable}
use Rattle.stop_index.specs.declared.slot.Slot.{Slot}
use Rattle.stop_index.specs.Slots.{slots_at, is_between, slots_between}
use Rattle.stop_index.specs.Index.{Index, departures_at, index_of}
use Rattle.order.proofs.Counts.{count_fewer, count-filter}
use Rattle.order.proofs.Ordered.{ordered_items}
use Rattle.stop_index.proofs.Instants.{slot_total}
use Rattle.stop_index.proofs.Firsts.{is_same}
use Rattle.stop_index.proofs.DaySlots.{once_before}
use Rattle.stop_index.proofs.SameSlots.{all_same, departures_are}

-- two indexes that were built of one timetable are equal
pub one_index : (t : Timetable) (a b : Index) → a ≡ index_of t → b ≡ index_of t → a ≡ b
one_index t a b first second = first ∙ sym second

-- no departure goes before an earlier one
pub between_rises : (t : Timetable) (stop : ℕ) (start end : ℤ) → IsRising slot_total (slots_between t stop start end)
unfolding slots_between
between_rises t stop start end = rising_ordered slot_total (filter (is_between start end) (slots_at t stop))

-- none comes twice
pub between_once : (t : Timetable) (stop : ℕ) (start end : ℤ) (slot : Slot) → count_by (is_same slot) (slots_between t stop start end) ≤ 1
unfolding slots_between
between_once t stop start end slot =
    omega (
      arith,
      (ordered_items slot_total (filter (is_between start end) (slots_at t stop))).counts (is_same slot),
      count-filter (is_between start end) (is_same slot) (slots_at t stop),
      count_fewer (is_same slot) (λ x. is_between start end x && is_same slot x) (λ x e. (and_parts (is_between start end x) (is_same slot x) e).1) (slots_at t stop),
      (all_same t stop).counts (is_same slot),
      once_before t (departures_at t stop) (departures_are t stop).once slot (length t.bases),
    )
