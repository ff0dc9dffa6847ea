-- The items of the nodes are those of the list, and its keys are theirs.
use Rattle.std.proofs.Common.{sym}
use Rattle.shared_list.specs.Parts.{items_in, node_items}
use Rattle.shared_list.proofs.Places.{items_entries, keyed_entries}
use Rattle.shared_list.proofs.list.SharedList.iter.Goals as goal

pub returns-clause-items : goal.returns-clause-items
returns-clause-items g c = rw (c.over.ensures, c.nodes.ensures, ← c.self.view_is) (sym (items_entries g.T.Keyed.key_of (items_in node_items c.self.inside.nodes)))

pub returns-clause-keyed : goal.returns-clause-keyed
returns-clause-keyed g c = rw (← c.self.view_is) (keyed_entries g.T.Keyed.key_of (items_in node_items c.self.inside.nodes))
