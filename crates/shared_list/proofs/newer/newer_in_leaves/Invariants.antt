-- What is newer is in the leaves that are left.
use Rattle.std.proofs.Common.{length}
use Rattle.shared_list.specs.Parts.{leaf_items, IsDated}
use Rattle.shared_list.proofs.Stamped.{NewerLeft}
use Rattle.shared_list.proofs.newer.newer_in_leaves.Given as goal

abbrev pub invariant-leaves : goal.invariant-leaves
invariant-leaves g l = NewerLeft g.T.Keyed.stamp_of leaf_items (IsDated g.T.Keyed.stamp_of) l.than l.left l.fn.leaves

abbrev pub decreases-leaves : goal.decreases-leaves
decreases-leaves g l = length l.left
