-- One piece more is cut off.
use Rattle.std.proofs.Common.{◌<◌, length, arith}
use Rattle.std.proofs.lemmas.Grind.{common_steps}
use Rattle.shared_list.proofs.Pieces.{cut_goes_on}
use Rattle.shared_list.proofs.sorted.pieces_of.Goals as goal

pub pieces-preserved : goal.pieces-preserved
pieces-preserved g c =
    let less : c.saturating_sub-at.result < length c.pieces.left.items = grind (arith, common_steps, c.requires) in
    cut_goes_on c.args.items.items c.pieces.left.items c.split_off.new.self.items c.saturating_sub-at.result c.in_ok-split_off.field-0 c.pieces.pieces.items c.push.new.self.items c.pieces.invariant less
    c.in_ok-split_off.ensures.items c.in_ok-split_off.ensures.tail c.in_ok-push.ensures.items
