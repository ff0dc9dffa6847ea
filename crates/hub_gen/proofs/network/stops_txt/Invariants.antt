-- The lines of the numbers that were gone over stand behind what was there.
use Rattle.hub_gen_defs.specs.Network.{stop_line}
use Rattle.hub_gen.proofs.Ranges.{Appended}
use Rattle.hub_gen.proofs.network.stops_txt.Given as goal

abbrev pub invariant-loop-stop : goal.invariant-loop-stop
invariant-loop-stop l = Appended stop_line l.initial.file.items l.file.items l.stop
