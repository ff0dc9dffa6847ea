-- What is newer is among the items that are left.
use Rattle.std.proofs.Common.{◌≡◌, length}
use Rattle.shared_list.specs.Stamps.{newer}
use Rattle.shared_list.proofs.newer.newer_item.Given as goal

abbrev pub invariant-items : goal.invariant-items
invariant-items g l = newer g.T.Keyed.stamp_of l.than l.left ≡ newer g.T.Keyed.stamp_of l.than l.fn.items

abbrev pub decreases-items : goal.decreases-items
decreases-items g l = length l.left
