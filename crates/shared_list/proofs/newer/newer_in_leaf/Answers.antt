-- A leaf whose newest item is no newer has none.
use Rattle.shared_list.proofs.Stamped.{none_newer}
use Rattle.shared_list.proofs.newer.newer_in_leaf.Goals as goal

pub returns-else-newest-than : goal.returns-else-newest-than
returns-else-newest-than g c = none_newer g.T.Keyed.stamp_of c.newest.result c.args.than c.args.leaf.now.items.items c.newest.ensures c.if-newest-than.false
