-- The lines of the numbers that were gone over stand behind what was there.
use Rattle.hub_gen_defs.specs.Network.{trip_line}
use Rattle.hub_gen.proofs.Ranges.{Appended}
use Rattle.hub_gen.proofs.network.trips_txt.Given as goal

abbrev pub invariant-loop-trip : goal.invariant-loop-trip
invariant-loop-trip l = Appended trip_line l.initial.file.items l.file.items l.trip
