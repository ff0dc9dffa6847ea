-- The leaves have the pieces that were gone over.
use Rattle.shared_list.proofs.Pieces.{LeavesSoFar}
use Rattle.shared_list.proofs.sorted.leaves_of.Given as goal

abbrev pub invariant-loop-piece : goal.invariant-loop-piece
invariant-loop-piece g l = LeavesSoFar g.T.Keyed.stamp_of l.leaves.items l.piece-iterator.rest.items l.fn.pieces.items
