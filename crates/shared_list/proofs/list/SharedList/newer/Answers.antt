-- What is newer in the nodes is what is newer in the list.
use Rattle.std.proofs.Common.{ap, sym}
use Rattle.shared_list.specs.Parts.{items_in, node_items}
use Rattle.shared_list.specs.Stamps.{newer}
use Rattle.shared_list.proofs.Places.{items_entries}
use Rattle.shared_list.proofs.list.SharedList.newer.Goals as goal

pub returns : goal.returns
returns g c =
    rw (c.among.ensures, c.nodes.ensures, ← c.self.view_is)
    (ap (newer g.T.Keyed.stamp_of c.args.than) (sym (items_entries g.T.Keyed.key_of (items_in node_items c.self.inside.nodes))))
