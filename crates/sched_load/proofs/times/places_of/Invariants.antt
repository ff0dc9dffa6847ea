use Rattle.sched_load.proofs.TimeLemmas.{Fills}
use Rattle.sched_load.proofs.times.places_of.Given as goal

abbrev pub invariant-loop-i : goal.invariant-loop-i
invariant-loop-i l = Fills l.visits l.i l.course l.places.items
