use Rattle.std.proofs.Common.{◌≡◌, map, take}
use Rattle.sched_load_defs.specs.Numbers.{by_id}
use Rattle.sched_load.specs.Built.{stop_in}
use Rattle.sched_load.proofs.build.stops_of.Given as goal

abbrev pub invariant-loop-number : goal.invariant-loop-number
invariant-loop-number l = l.list.items ≡ map (stop_in l.stops) (take l.number (by_id (λ row. row.stop_id) l.stops))
