-- No item comes, so none is newer.
use Rattle.shared_list.proofs.Stamped.{none_above_without}
use Rattle.shared_list.proofs.leaf.LeafPart.take_out.Goals as goal

pub returns-clause-sound : goal.returns-clause-sound
returns-clause-sound g c =
    none_above_without g.T.Keyed.stamp_of g.T.Keyed.key_cmp g.T.Keyed.key_of c.args.self.now.newest (g.K.KeyFor.sought c.args.key) c.args.self.now.items.items c.take_among-taken.new.items.items c.requires.sound c.take_among-taken.ensures.without
