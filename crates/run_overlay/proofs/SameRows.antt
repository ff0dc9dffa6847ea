-- Departures of which the same is known are equal.
use Rattle.std.proofs.Common.{◌≡◌, ℤ, ◌&&◌, true, Option, Some, None, refl, ap}
use Rattle.std.specs.Prelude.{◌==◌}
use Rattle.std.specs.Ordering.{int_eq}
use Rattle.std.proofs.lemmas.Bool.{and_parts, eqb-true}
use Rattle.std.proofs.lemmas.Bool.Decides.{Decides-int_eq}
use Rattle.run_overlay.specs.declared.row.LiveRow.{LiveRow}
use Rattle.run_overlay.specs.declared.slot.LiveSlot.{LiveSlot}
use Rattle.run_overlay.specs.declared.slot.SlotState.{SlotState}
use Rattle.run_overlay.specs.declared.slot.SlotState.TheVariants as told
use Rattle.run_overlay.specs.Turning.{same_delay, same_row, same_slot, same_state}

same_state_so : (a b : SlotState) → same_state a b ≡ true → a ≡ b
same_state_so told.Scheduled told.Scheduled e = refl
same_state_so told.Scheduled told.Live e = cc
same_state_so told.Scheduled told.Skipped e = cc
same_state_so told.Scheduled told.Canceled e = cc
same_state_so told.Live told.Scheduled e = cc
same_state_so told.Live told.Live e = refl
same_state_so told.Live told.Skipped e = cc
same_state_so told.Live told.Canceled e = cc
same_state_so told.Skipped told.Scheduled e = cc
same_state_so told.Skipped told.Live e = cc
same_state_so told.Skipped told.Skipped e = refl
same_state_so told.Skipped told.Canceled e = cc
same_state_so told.Canceled told.Scheduled e = cc
same_state_so told.Canceled told.Live e = cc
same_state_so told.Canceled told.Skipped e = cc
same_state_so told.Canceled told.Canceled e = refl

same_delay_so : (a b : Option ℤ) → same_delay a b ≡ true → a ≡ b
same_delay_so None None e = refl
same_delay_so (Some a) (Some b) e = ap Some ((Decides-int_eq a b).0 e)
same_delay_so None (Some b) e = cc
same_delay_so (Some a) None e = cc

same_slot_so : (a b : LiveSlot) → same_slot a b ≡ true → a ≡ b
same_slot_so a b e =
    let by_run = (a.run.trip == b.run.trip) && (a.run.day == b.run.day) in
    let four = and_parts (int_eq a.at b.at && by_run && (a.place == b.place) && same_state a.state b.state) (same_delay a.delay b.delay) e in
    let three = and_parts (int_eq a.at b.at && by_run && (a.place == b.place)) (same_state a.state b.state) four.0 in
    let two = and_parts (int_eq a.at b.at && by_run) (a.place == b.place) three.0 in
    let one = and_parts (int_eq a.at b.at) by_run two.0 in
    let run = and_parts (a.run.trip == b.run.trip) (a.run.day == b.run.day) one.1 in
    λ i. record {
      at = (Decides-int_eq a.at b.at).0 one.0 i;
      run = record { trip = eqb-true a.run.trip b.run.trip run.0 i; day = eqb-true a.run.day b.run.day run.1 i };
      place = eqb-true a.place b.place two.1 i;
      state = same_state_so a.state b.state three.1 i;
      delay = same_delay_so a.delay b.delay four.1 i;
    }

pub same_row_so : (a b : LiveRow) → same_row a b ≡ true → a ≡ b
same_row_so a b e =
    let both = and_parts (a.stop == b.stop) (same_slot a.slot b.slot) e in
    λ i. record { stop = eqb-true a.stop b.stop both.0 i; slot = same_slot_so a.slot b.slot both.1 i }
