-- A node of no parts has no items.
use Rattle.std.proofs.Common.{◌≡◌, length, vec_len, rules}
use Rattle.shared_list.specs.Parts.{items_in}
use Rattle.shared_list.proofs.PartLemmas.{tells_left}
use Rattle.shared_list.proofs.Stamped.{none_above_without}
use Rattle.shared_list.proofs.node.NodePart.take_out.Goals as goal

pub returns-clause-left : goal.returns-clause-left
returns-clause-left g c =
    let parts = c.take_out_shared.new.parts in
    let long : vec_len parts ≡ length parts.items = search rules in
    tells_left g.P.Part.items g.P.Part.sound parts.items (vec_len parts) c.is_empty.result c.in_ok-taken.ensures.sound long c.is_empty.ensures

pub returns-clause-sound : goal.returns-clause-sound
returns-clause-sound g c = (
  c.in_ok-taken.ensures.sound,
  none_above_without g.P.Item.Keyed.stamp_of g.P.Item.Keyed.key_cmp g.P.Item.Keyed.key_of c.args.self.now.newest (g.K.KeyFor.sought c.args.key) (items_in g.P.Part.items c.args.self.now.parts.items) (items_in g.P.Part.items c.take_out_shared.new.parts.items) c.requires.sound.1 c.in_ok-taken.ensures.without,
)
