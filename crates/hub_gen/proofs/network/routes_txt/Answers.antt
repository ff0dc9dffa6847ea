-- Each turn appends the line of its number.
use Rattle.std.proofs.Common.{arith}
use Rattle.hub_gen_defs.specs.Network.{route_line, routes_txt}
use Rattle.hub_gen.proofs.Ranges.{begins, ends, goes_on}
use Rattle.hub_gen.proofs.network.routes_txt.Goals as goal

pub loop-route-init : goal.loop-route-init
loop-route-init c = begins _ _

pub loop-route-preserved : goal.loop-route-preserved
loop-route-preserved c = goes_on _ _ _ _ c.loop-route.route c.loop-route.invariant c.in_ok-push_route.ensures

pub returns : goal.returns
unfolding routes_txt
returns c = ends route_line _ _ _ c.loop-route.route 10 c.loop-route.invariant c.in_ok-file.ensures (omega arith)
