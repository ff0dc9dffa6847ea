-- The items that were gone over are copied.
use Rattle.std.proofs.Common.{◌≡◌, take}
use Rattle.shared_list.proofs.keyed.Keyed.copies.Given as goal

abbrev pub invariant-loop-item : goal.invariant-loop-item
invariant-loop-item g l = l.same.items ≡ take l.item-index l.items.items
