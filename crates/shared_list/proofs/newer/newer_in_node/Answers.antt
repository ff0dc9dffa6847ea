-- A node whose newest item is no newer has none.
use Rattle.shared_list.specs.Parts.{node_items}
use Rattle.shared_list.proofs.Stamped.{none_newer}
use Rattle.shared_list.proofs.newer.newer_in_node.Goals as goal

pub returns-else-newest-than-clause-step : goal.returns-else-newest-than-clause-step
returns-else-newest-than-clause-step g c = none_newer g.T.Keyed.stamp_of c.newest.result c.args.than (node_items c.args.node.now) c.newest.ensures c.if-newest-than.false
