-- What is newer is in the nodes that are left.
use Rattle.std.proofs.Common.{length}
use Rattle.shared_list.specs.Parts.{node_items, IsFilled}
use Rattle.shared_list.proofs.Stamped.{NewerLeft}
use Rattle.shared_list.proofs.newer.newer_in_nodes.Given as goal

abbrev pub invariant-nodes : goal.invariant-nodes
invariant-nodes g l = NewerLeft g.T.Keyed.stamp_of node_items (IsFilled g.T.Keyed.stamp_of) l.than l.left l.fn.nodes

abbrev pub decreases-nodes : goal.decreases-nodes
decreases-nodes g l = length l.left
