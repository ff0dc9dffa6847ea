-- All that is looked at are trips.
use Rattle.std.proofs.Common.{◌-◌, ◌≤◌, length}
use Rattle.trip_match.proofs.neighbours.trip_among.Given as goal

abbrev pub invariant-loop-low : goal.invariant-loop-low
invariant-loop-low l = l.high ≤ length l.plan.trips

abbrev pub decreases-loop-low : goal.decreases-loop-low
decreases-loop-low l = l.high - l.low
