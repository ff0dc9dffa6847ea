use Rattle.sched_load.proofs.TimeLemmas.{Follows}
use Rattle.sched_load.proofs.times.are_in_order.Given as goal

abbrev pub invariant-loop-visit : goal.invariant-loop-visit
invariant-loop-visit l = Follows l.visits l.visit-index l.before
