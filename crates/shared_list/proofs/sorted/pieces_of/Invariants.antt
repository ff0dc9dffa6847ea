-- What is left and the pieces that were cut off are all there is.
use Rattle.std.proofs.Common.{length}
use Rattle.shared_list.proofs.Pieces.{IsCut}
use Rattle.shared_list.proofs.sorted.pieces_of.Given as goal

abbrev pub invariant-pieces : goal.invariant-pieces
invariant-pieces g l = IsCut l.fn.items.items l.left.items l.pieces.items

abbrev pub decreases-pieces : goal.decreases-pieces
decreases-pieces g l = length l.left.items
