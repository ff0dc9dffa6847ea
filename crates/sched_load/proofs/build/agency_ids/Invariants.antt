use Rattle.std.proofs.Common.{◌≡◌, map, take}
use Rattle.sched_load_defs.specs.Numbers.{by_id}
use Rattle.sched_load.proofs.build.agency_ids.Given as goal

abbrev pub invariant-loop-number : goal.invariant-loop-number
invariant-loop-number l = l.ids.items ≡ map (λ row. row.agency_id) (take l.number (by_id (λ row. row.agency_id) l.agencies))
