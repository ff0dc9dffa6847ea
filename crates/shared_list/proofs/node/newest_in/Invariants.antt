-- No item of the parts that were gone over is newer.
use Rattle.std.proofs.Common.{take}
use Rattle.shared_list.specs.Parts.{items_in}
use Rattle.shared_list.specs.Stamps.{NoneAbove}
use Rattle.shared_list.proofs.node.newest_in.Given as goal

abbrev pub invariant-loop-part : goal.invariant-loop-part
invariant-loop-part g l = NoneAbove g.P.Item.Keyed.stamp_of l.newest (items_in g.P.Part.items (take l.part-index l.parts))
