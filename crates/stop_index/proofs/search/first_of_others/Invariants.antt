-- The first of the departures of the days so far, but the one that is set apart.
use Rattle.stop_index.specs.Left.{is_left, others_before}
use Rattle.stop_index.specs.First.{IsFirst}
use Rattle.stop_index.proofs.search.first_of_others.Given as goal

abbrev pub invariant-loop-day : goal.invariant-loop-day
invariant-loop-day l = IsFirst (is_left l.reached l.end) (others_before l.plan l.departures l.apart l.day) l.best
