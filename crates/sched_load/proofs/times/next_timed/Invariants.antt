use Rattle.std.proofs.Common.{◌≡◌, ◌+◌, drop}
use Rattle.sched_load_defs.specs.Times.{next_timed}
use Rattle.sched_load.specs.Course.{given_of}
use Rattle.sched_load.proofs.times.next_timed.Given as goal

abbrev pub invariant-loop-place : goal.invariant-loop-place
invariant-loop-place l = next_timed 1 (given_of l.visits) ≡ next_timed (l.place + 1) (given_of (drop l.place l.visits))
