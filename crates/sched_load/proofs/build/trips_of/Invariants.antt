use Rattle.std.proofs.Common.{◌≡◌, map, take}
use Rattle.sched_load_defs.specs.Numbers.{by_id}
use Rattle.sched_load.specs.Built.{trip_in}
use Rattle.sched_load.proofs.build.trips_of.Given as goal

abbrev pub invariant-loop-number : goal.invariant-loop-number
invariant-loop-number l = l.list.items ≡ map (trip_in l.routes l.services) (take l.number (by_id (λ row. row.trip_id) l.trips))
