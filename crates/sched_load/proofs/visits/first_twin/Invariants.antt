use Rattle.sched_load.proofs.TwinLemmas.{AreSeen}
use Rattle.sched_load.proofs.visits.first_twin.Given as goal

-- the keys of the stop times so far, of which none has an earlier twin
abbrev pub invariant-loop-place : goal.invariant-loop-place
invariant-loop-place l = AreSeen l.seen.entries l.visits l.place
