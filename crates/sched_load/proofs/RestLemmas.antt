-- The visits behind a place, as a slice has them.
use Rattle.std.proofs.Common.{ℕ, ◌-◌, List, length, take, drop, subst, arith}
use Rattle.std.proofs.Common.{length-drop}
use Rattle.sched_load.specs.declared.visits.Visit.{Visit}
use Rattle.sched_load.specs.declared.visits.Stay.{Stay}
use Rattle.sched_load.specs.declared.times.Course.{Course}
use Rattle.sched_load.specs.Course.{Steps}
use Rattle.sched_load.proofs.BuildLemmas.{take_past}

pub steps_rest : (before after : Course) (stay : Stay) (visit : Visit) (visits : List Visit) (n : ℕ) → Steps before after stay visit (take (length visits - n) (drop n visits)) → Steps before after stay visit (drop n visits)
steps_rest before after stay visit visits n s = let l = length-drop n visits in subst (Steps before after stay visit) (take_past (drop n visits) (length visits - n) (omega (arith, l))) s
