-- The parts that were gone over are shared.
use Rattle.std.proofs.Common.{◌≡◌, take, map}
use Rattle.shared_list.proofs.shared.share.Given as goal

abbrev pub invariant-loop-part : goal.invariant-loop-part
invariant-loop-part g l = map (λ share. share.value) l.same.items ≡ map (λ share. share.value) (take l.part-index l.parts.items)
