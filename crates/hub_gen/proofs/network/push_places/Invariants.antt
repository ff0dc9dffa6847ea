-- The lines of the numbers that were gone over stand behind what was there.
use Rattle.hub_gen_defs.specs.Network.{stop_time_line}
use Rattle.hub_gen.proofs.Ranges.{Appended}
use Rattle.hub_gen.proofs.network.push_places.Given as goal

abbrev pub invariant-loop-place : goal.invariant-loop-place
invariant-loop-place l = Appended (stop_time_line l.trip) l.initial.out.items l.out.items l.place
