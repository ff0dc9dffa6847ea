use Rattle.sched_load.proofs.FrequencyLemmas.{AreKnown}
use Rattle.sched_load.proofs.frequencies.check_trips.Given as goal

abbrev pub invariant-loop-place : goal.invariant-loop-place
invariant-loop-place l = AreKnown l.trips l.rows l.place
