use Rattle.std.proofs.Common.{subst}
use Rattle.sched_load.specs.Course.{Knows}
use Rattle.sched_load.proofs.TimeLemmas.{known_steps}
use Rattle.sched_load.proofs.times.found_ahead.Goals as goal

pub returns-in-Some-clause-steps : goal.returns-in-Some-clause-steps
returns-in-Some-clause-steps c = known_steps c.in-Some.found c.args.rest.now (subst (λ known. Knows known c.args.rest.now) c.in-Some.is c.requires.known)
