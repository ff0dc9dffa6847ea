-- The item stands in the place that was found.
use Rattle.std.proofs.Common.{sym, ap, ◌∙◌, Some}
use Rattle.shared_list.proofs.Places.{find_at, find_gap}
use Rattle.shared_list.proofs.leaf.LeafPart.item_of.Goals as goal

pub returns-in-Ok : goal.returns-in-Ok
returns-in-Ok g c =
    ap (λ x. Some x) c.index.ensures
    ∙ sym (find_at g.met.T.Keyed.total g.T.Keyed.key_of c.args.self.now.items.items (g.K.KeyFor.sought c.args.key) c.in-Ok.at _ (rw c.as_slice.ensures.value at c.in-Ok.ensures))

pub returns-in-Err : goal.returns-in-Err
returns-in-Err g c = sym (find_gap g.met.T.Keyed.total g.T.Keyed.key_of c.args.self.now.items.items (g.K.KeyFor.sought c.args.key) c.in-Err.field-0 (rw c.as_slice.ensures.value at c.in-Err.ensures))
