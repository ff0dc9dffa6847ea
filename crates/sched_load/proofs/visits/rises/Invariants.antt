use Rattle.sched_load.proofs.TwinLemmas.{AreEnds}
use Rattle.sched_load.proofs.visits.rises.Given as goal

-- the stop times so far rise, and each ends below what is kept of its trip
abbrev pub invariant-loop-visit : goal.invariant-loop-visit
invariant-loop-visit l = AreEnds l.ends.items l.visits l.visit-index l.trips
