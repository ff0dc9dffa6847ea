-- The item may be the newest.
use Rattle.std.proofs.Common.{◌≡◌, append-nil, sym, ap, ◌∙◌, arith}
use Rattle.shared_list.specs.Order.{entries}
use Rattle.shared_list.proofs.Stamped.{none_above_put}
use Rattle.shared_list.proofs.leaf.LeafPart.put_item.Goals as goal

pub returns-in-None-clause-sound : goal.returns-in-None-clause-sound
returns-in-None-clause-sound g c =
    let whole : c.split_off.new.items.items ≡ c.put_among.new.items.items = sym (append-nil c.split_off.new.items.items) ∙ rw c.in-None.is at c.in_ok-back.ensures.parts in
    none_above_put g.T.Keyed.stamp_of g.T.Keyed.key_cmp g.T.Keyed.key_of c.args.self.now.newest c.max-newest.result (g.T.Keyed.key_of c.args.item) c.args.item c.args.self.now.items.items c.split_off.new.items.items
    c.requires.sound (omega (arith, c.max-newest.ensures)) (omega (arith, c.max-newest.ensures, c.stamp.ensures))
    (ap (entries g.T.Keyed.key_of) whole ∙ c.in_ok-replaced.ensures.put)
