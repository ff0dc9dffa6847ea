use Rattle.std.proofs.Common.{◌≡◌, map, take}
use Rattle.sched_load_defs.specs.Numbers.{by_id}
use Rattle.sched_load.specs.Built.{route_in}
use Rattle.sched_load.proofs.build.routes_of.Given as goal

abbrev pub invariant-loop-number : goal.invariant-loop-number
invariant-loop-number l = l.list.items ≡ map (route_in l.agencies) (take l.number (by_id (λ row. row.route_id) l.routes))
