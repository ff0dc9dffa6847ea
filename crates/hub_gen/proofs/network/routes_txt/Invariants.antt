-- The lines of the numbers that were gone over stand behind what was there.
use Rattle.hub_gen_defs.specs.Network.{route_line}
use Rattle.hub_gen.proofs.Ranges.{Appended}
use Rattle.hub_gen.proofs.network.routes_txt.Given as goal

abbrev pub invariant-loop-route : goal.invariant-loop-route
invariant-loop-route l = Appended route_line l.initial.file.items l.file.items l.route
