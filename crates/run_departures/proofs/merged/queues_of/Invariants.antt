-- With the sources of the children that are left these are all.
use Rattle.std.proofs.Common.{◌≡◌, ◌++◌, drop, filter, not, nat_eq}
use Rattle.std.specs.List.{flat_map}
use Rattle.run_departures.specs.Board.{sources}
use Rattle.run_departures.specs.Sources.{sources_at}
use Rattle.run_departures.proofs.merged.queues_of.Given as goal

abbrev pub invariant-loop-child : goal.invariant-loop-child
invariant-loop-child l =
    l.queues.items ++ flat_map (sources_at l.plan l.feeds l.asked) (filter (λ stop. not (nat_eq stop l.asked.stop)) (drop l.child-index l.child-items))
    ≡ sources l.plan l.feeds l.asked
