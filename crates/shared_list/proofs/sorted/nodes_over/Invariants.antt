-- The nodes have the pieces that were gone over.
use Rattle.shared_list.proofs.Pieces.{NodesSoFar}
use Rattle.shared_list.proofs.sorted.nodes_over.Given as goal

abbrev pub invariant-loop-parts : goal.invariant-loop-parts
invariant-loop-parts g l = NodesSoFar g.T.Keyed.stamp_of l.nodes.items l.parts-iterator.rest.items l.fn.pieces.items
