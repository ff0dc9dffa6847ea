use Rattle.std.proofs.Common.{◌≡◌, take}
use Rattle.sched_types.specs.Sound.{days_marked}
use Rattle.sched_types.proofs.running.marked_days.Given as goal

abbrev pub invariant-loop-day : goal.invariant-loop-day
invariant-loop-day l = l.marks.items ≡ days_marked l.count (take l.day-index l.days)
