use Rattle.sched_types.proofs.Days.{IsWindow}
use Rattle.sched_types.proofs.dates.dates_from.Given as goal

abbrev pub invariant-loop : goal.invariant-loop
invariant-loop l = IsWindow l.first l.counter l.dates.items l.date
