-- Nothing changes, and each seat so far knows what was published.
use Rattle.std.proofs.Common.{◌≡◌, ℕ, ◌<◌, slice_index_or}
use Rattle.hub_shared.specs.Seats.{SeatSeen}
use Rattle.hub_shared.specs.Calls.{Ends}
use Rattle.hub_shared.proofs.closing.level_all.Given as goal

abbrev pub invariant-loop-i : goal.invariant-loop-i
invariant-loop-i l =
    (l.seats ≡ l.fn.seats) × (l.publisher ≡ l.fn.publisher) × (l.desk ≡ l.fn.desk)
    × ((i : ℕ) (none : SeatSeen) → i < l.i → Ends (slice_index_or l.fn.seats i none) l.fn.publisher.line)
