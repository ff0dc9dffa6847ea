-- None of the items that were gone over is newer.
use Rattle.std.proofs.Common.{take}
use Rattle.shared_list.specs.Stamps.{NoneAbove}
use Rattle.shared_list.proofs.leaf.newest_of.Given as goal

abbrev pub invariant-loop-item : goal.invariant-loop-item
invariant-loop-item g l = NoneAbove g.T.Keyed.stamp_of l.newest (take l.item-index l.items)
