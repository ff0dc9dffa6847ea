-- Those that were gone over.
use Rattle.std.proofs.Common.{◌≡◌, take}
use Rattle.board_added.proofs.choice.copies.Given as goal

abbrev pub invariant-loop-update : goal.invariant-loop-update
invariant-loop-update l = l.copies.items ≡ take l.update-index l.all
