-- Nothing was accepted.
use Rattle.std.proofs.Common.{◌≡◌, rules}
use Rattle.std.specs.Arc.{arc_value}
use Rattle.hub_shared.proofs.Taking.{locked_first}
use Rattle.hub_shared.proofs.opening.open_hub.Goals as goal

pub invariant_of-locked : goal.invariant_of-locked
invariant_of-locked g c =
    let same : arc_value c.in_ok-view.view ≡ c.in_ok-core.core = search rules in
    locked_first c.in_ok-core.core (arc_value c.in_ok-view.view) c.in_ok-publisher.field-0.publisher c.in_ok-desk.field-0.desk c.in_ok-core.ensures.stands same c.in_ok-publisher.ensures.log c.in_ok-publisher.ensures.feeds
    c.in_ok-publisher.ensures.plans c.in_ok-desk.ensures.counts
