use Rattle.std.proofs.Common.{◌≡◌, map, take}
use Rattle.std.specs.Prelude.{zip}
use Rattle.sched_load.specs.Days.{active_by}
use Rattle.sched_load.specs.Listed.{entries_of}
use Rattle.sched_load.proofs.days.active_lists.Given as goal

abbrev pub invariant-loop-number : goal.invariant-loop-number
invariant-loop-number l = map (λ v. v.items) l.lists.items ≡ map (active_by l.calendar l.first l.days) (take l.number (zip l.services (entries_of l.exceptions)))
