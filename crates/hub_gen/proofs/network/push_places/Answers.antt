-- Each turn appends the line of its number.
use Rattle.std.proofs.Common.{arith, refl}
use Rattle.hub_gen_defs.specs.Network.{stop_time_line}
use Rattle.hub_gen.proofs.Ranges.{begins, ends, goes_on}
use Rattle.hub_gen.proofs.network.push_places.Goals as goal

pub loop-place-init : goal.loop-place-init
loop-place-init c = begins _ _

pub loop-place-preserved : goal.loop-place-preserved
loop-place-preserved c = goes_on _ _ _ _ c.loop-place.place c.loop-place.invariant c.in_ok-push_stop_time.ensures

pub returns : goal.returns
returns c = ends (stop_time_line c.args.trip) _ _ _ c.loop-place.place 20 c.loop-place.invariant refl (omega arith)
