-- The item goes from the place that was found.
use Rattle.std.proofs.Common.{Some, sym, ap, ◌∙◌}
use Rattle.shared_list.specs.Order.{entries}
use Rattle.shared_list.proofs.Places.{without_at, without_gap, find_at, find_gap}
use Rattle.shared_list.proofs.leaf.take_among.Goals as goal

pub returns-in-Ok-clause-without : goal.returns-in-Ok-clause-without
returns-in-Ok-clause-without g c =
    ap (entries g.T.Keyed.key_of) c.remove.ensures.items
    ∙ without_at g.met.T.Keyed.total g.T.Keyed.key_of c.args.items.now.items (g.K.KeyFor.sought c.args.key) c.in-Ok.at (rw c.as_slice.ensures.value at c.in-Ok.ensures)

pub returns-in-Ok-clause-taken : goal.returns-in-Ok-clause-taken
returns-in-Ok-clause-taken g c = ap Some c.remove.ensures.value ∙ sym (find_at g.met.T.Keyed.total g.T.Keyed.key_of c.args.items.now.items (g.K.KeyFor.sought c.args.key) c.in-Ok.at c.remove.result (rw c.as_slice.ensures.value at c.in-Ok.ensures))

pub returns-in-Err-clause-without : goal.returns-in-Err-clause-without
returns-in-Err-clause-without g c = sym (without_gap g.met.T.Keyed.total g.T.Keyed.key_of c.args.items.now.items (g.K.KeyFor.sought c.args.key) c.in-Err.field-0 (rw c.as_slice.ensures.value at c.in-Err.ensures))

pub returns-in-Err-clause-taken : goal.returns-in-Err-clause-taken
returns-in-Err-clause-taken g c = sym (find_gap g.met.T.Keyed.total g.T.Keyed.key_of c.args.items.now.items (g.K.KeyFor.sought c.args.key) c.in-Err.field-0 (rw c.as_slice.ensures.value at c.in-Err.ensures))
