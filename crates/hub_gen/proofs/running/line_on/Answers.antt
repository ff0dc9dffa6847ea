-- The hub is new, and the messages are offered to it.
use Rattle.std.specs.Arc.{arc_value}
use Rattle.hub_gen.proofs.LineLaws.{line_on_is}
use Rattle.hub_gen.proofs.running.line_on.Goals as goal

pub returns : goal.returns
returns c =
    let offered = c.in_ok-offer_all.ensures in
    line_on_is c.args.trips c.args.messages (arc_value c.in_ok-plans_of.field-0) c.args.plan c.args.offers.now c.in_ok-hub.hub c.offer_all.new.hub c.line_of.result
    c.in_ok-hub.ensures c.in_ok-plans_of.ensures offered.history offered.plans c.line_of.ensures
