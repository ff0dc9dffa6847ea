use Rattle.sched_load.proofs.TimeLemmas.{step_timed, step_untimed}
use Rattle.sched_load.proofs.times.step.Goals as goal

pub returns-in-Some : goal.returns-in-Some
returns-in-Some c = step_timed c.args.course c.args.visit c.args.rest.now c.in-Some.stay c.in-Some.is

pub returns-in-None : goal.returns-in-None
returns-in-None c = step_untimed c.args.course c.args.visit c.args.rest.now c.found_ahead-ahead.result c.nearer.result c.between-time.result c.in-None.is c.found_ahead-ahead.ensures.value c.nearer.ensures c.between-time.ensures
