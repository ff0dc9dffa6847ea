-- What is copied so far is the front of the list.
use Rattle.std.proofs.Common.{◌≡◌, take}
use Rattle.rt_types.proofs.items.ItemsCopied.copy.Given as goal

abbrev pub invariant-loop-item : goal.invariant-loop-item
invariant-loop-item g l = l.items.items ≡ take l.item-index l.item-items
