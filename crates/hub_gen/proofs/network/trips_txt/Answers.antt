-- Each turn appends the line of its number.
use Rattle.std.proofs.Common.{arith}
use Rattle.hub_gen_defs.specs.Network.{trip_line, trips_txt}
use Rattle.hub_gen.proofs.Ranges.{begins, ends, goes_on}
use Rattle.hub_gen.proofs.network.trips_txt.Goals as goal

pub loop-trip-init : goal.loop-trip-init
loop-trip-init c = begins _ _

pub loop-trip-preserved : goal.loop-trip-preserved
loop-trip-preserved c = goes_on _ _ _ _ c.loop-trip.trip c.loop-trip.invariant c.in_ok-push_trip.ensures

pub returns : goal.returns
unfolding trips_txt
returns c = ends trip_line _ _ _ c.loop-trip.trip c.args.trips c.loop-trip.invariant c.in_ok-file.ensures (omega arith)
