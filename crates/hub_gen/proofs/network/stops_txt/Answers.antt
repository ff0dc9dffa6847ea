-- Each turn appends the line of its number.
use Rattle.std.proofs.Common.{arith}
use Rattle.hub_gen_defs.specs.Network.{stop_line, stops_txt}
use Rattle.hub_gen.proofs.Ranges.{begins, ends, goes_on}
use Rattle.hub_gen.proofs.network.stops_txt.Goals as goal

pub loop-stop-init : goal.loop-stop-init
loop-stop-init c = begins _ _

pub loop-stop-preserved : goal.loop-stop-preserved
loop-stop-preserved c = goes_on _ _ _ _ c.loop-stop.stop c.loop-stop.invariant c.in_ok-push_stop.ensures

pub returns : goal.returns
unfolding stops_txt
returns c = ends stop_line _ _ _ c.loop-stop.stop 100 c.loop-stop.invariant c.in_ok-file.ensures (omega arith)
