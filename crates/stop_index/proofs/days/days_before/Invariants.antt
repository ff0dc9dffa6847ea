-- The days before `low` end before the instant, and those from `high` on don't.
use Rattle.std.proofs.Common.{◌-◌}
use Rattle.stop_index.proofs.DayLemmas.{AreBefore}
use Rattle.stop_index.proofs.days.days_before.Given as goal

abbrev pub invariant-loop-low : goal.invariant-loop-low
invariant-loop-low l = AreBefore l.plan l.longest l.instant l.low l.high

abbrev pub decreases-loop-low : goal.decreases-loop-low
decreases-loop-low l = l.high - l.low
