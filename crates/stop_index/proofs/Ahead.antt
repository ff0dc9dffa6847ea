-- Which departures are still to come, and which of them are left before an end.
use Rattle.std.proofs.Common.{◌≡◌, Bool, true, false, ℤ, ◌≤ℤ◌, ◌<ℤ◌, int_lt, refl, arith}
use Rattle.std.specs.Ordering.{is_gt}
use Rattle.std.proofs.lemmas.Bool.{and_parts, and_from, and_right}
use Rattle.std.proofs.lemmas.Int.{ints}
use Rattle.stop_index.specs.declared.reached.Reached.{Reached}
use Rattle.stop_index.specs.declared.reached.Reached.TheVariants.{Instant, Departure}
use Rattle.stop_index.specs.declared.slot.Slot.{Slot}
use Rattle.stop_index.specs.Slots.{slot_cmp}
use Rattle.stop_index.specs.Left.{is_ahead, is_left, instant_of}
use Rattle.order.proofs.Ordered.{below_not_above, below_through}
use Rattle.stop_index.proofs.Instants.{slot_total, at_up, lt_is, lt_not, is_lt_z, le_is, is_le_z}

-- what comes after what is ahead is ahead
pub ahead_up : (reached : Reached) (a b : Slot) → is_gt (slot_cmp a b) ≡ false → is_ahead reached a ≡ true → is_ahead reached b ≡ true
ahead_up (Instant start) a b up e =
    let later : a.at ≤ℤ b.at = at_up a b up in
    let from : start ≤ℤ a.at = is_le_z start a.at e in
    le_is start b.at (omega (arith, ints))
ahead_up (Departure last) a b up e = below_through slot_total last a b e up

-- nothing that is ahead leaves before the instant that was reached
pub ahead_from : (reached : Reached) (slot : Slot) → is_ahead reached slot ≡ true → instant_of reached ≤ℤ slot.at
ahead_from (Instant start) slot e = is_le_z start slot.at e
ahead_from (Departure last) slot e = at_up last slot (below_not_above (slot_cmp last slot) e)

pub not_ahead : (reached : Reached) (slot : Slot) → slot.at <ℤ instant_of reached → is_ahead reached slot ≡ false
not_ahead reached slot before = by_test (is_ahead reached slot) refl where
  by_test : (b : Bool) → is_ahead reached slot ≡ b → b ≡ false
  by_test true e = let from : instant_of reached ≤ℤ slot.at = ahead_from reached slot e in absurd (omega (arith, ints))
  by_test false e = refl

-- what is left is ahead, and leaves before the end
pub left_ahead : (reached : Reached) (end : ℤ) (slot : Slot) → is_left reached end slot ≡ true → is_ahead reached slot ≡ true
left_ahead reached end slot e = (and_parts (is_ahead reached slot) (int_lt slot.at end) e).0

pub left_before : (reached : Reached) (end : ℤ) (slot : Slot) → is_left reached end slot ≡ true → slot.at <ℤ end
left_before reached end slot e = is_lt_z slot.at end ((and_parts (is_ahead reached slot) (int_lt slot.at end) e).1)

pub left_from : (reached : Reached) (end : ℤ) (slot : Slot) → is_ahead reached slot ≡ true → slot.at <ℤ end → is_left reached end slot ≡ true
left_from reached end slot ahead before = and_from (is_ahead reached slot) (int_lt slot.at end) ahead (lt_is slot.at end before)

pub not_left : (reached : Reached) (end : ℤ) (slot : Slot) → end ≤ℤ slot.at → is_left reached end slot ≡ false
not_left reached end slot late = and_right (is_ahead reached slot) (int_lt slot.at end) (lt_not slot.at end late)

-- what is ahead of a departure that was ahead was ahead too
pub was_ahead : (reached : Reached) (x y : Slot) → is_ahead reached x ≡ true → is_ahead (Departure x) y ≡ true → is_ahead reached y ≡ true
was_ahead reached x y ahead after = ahead_up reached x y (below_not_above (slot_cmp x y) after) ahead
