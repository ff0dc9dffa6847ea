-- The items of the nodes from the key on are those of the list.
use Rattle.std.proofs.Common.{refl}
use Rattle.shared_list.specs.Parts.{items_in, node_items}
use Rattle.shared_list.proofs.Places.{keyed_entries}
use Rattle.shared_list.proofs.list.SharedList.from.Goals as goal

pub returns-clause-items : goal.returns-clause-items
returns-clause-items g c = rw (c.starting.ensures, c.nodes.ensures, ← c.self.view_is) refl

pub returns-clause-keyed : goal.returns-clause-keyed
returns-clause-keyed g c = rw (← c.self.view_is) (keyed_entries g.T.Keyed.key_of (items_in node_items c.self.inside.nodes))
