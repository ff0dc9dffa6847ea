use Rattle.sched_load.proofs.TwinLemmas.{rises_apart}
use Rattle.sched_load.proofs.visits.twin_of.Goals as goal

pub returns-then-is_rising-clause-value : goal.returns-then-is_rising-clause-value
returns-then-is_rising-clause-value c = rises_apart c.args.visits.now (rw c.if-is_rising.true at c.requires)
