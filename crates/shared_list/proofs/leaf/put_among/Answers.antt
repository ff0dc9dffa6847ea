-- The item stands in the place that was found.
use Rattle.std.proofs.Common.{Some, set, ap, sym, ◌∙◌}
use Rattle.shared_list.specs.Order.{entries}
use Rattle.shared_list.proofs.Places.{put_at, put_gap, find_at, find_gap}
use Rattle.shared_list.proofs.leaf.put_among.Goals as goal

pub returns-in-Ok-clause-put : goal.returns-in-Ok-clause-put
returns-in-Ok-clause-put g c =
    ap (λ x. entries g.T.Keyed.key_of (set c.args.items.now.items c.in-Ok.at x)) c.replace-old.ensures.after
    ∙ put_at g.met.T.Keyed.total g.T.Keyed.key_of g.met.T.Keyed.exact c.args.items.now.items c.args.item c.in-Ok.at (rw c.as_slice.ensures.value at c.in-Ok.ensures)

pub returns-in-Ok-clause-replaced : goal.returns-in-Ok-clause-replaced
returns-in-Ok-clause-replaced g c =
    ap Some (c.replace-old.ensures.value ∙ c.index_mut.ensures.value)
    ∙ sym (find_at g.met.T.Keyed.total g.T.Keyed.key_of c.args.items.now.items (g.T.Keyed.key_of c.args.item) c.in-Ok.at _ (rw c.as_slice.ensures.value at c.in-Ok.ensures))

pub returns-in_ok-insert-in-Err-clause-put : goal.returns-in_ok-insert-in-Err-clause-put
returns-in_ok-insert-in-Err-clause-put g c =
    ap (entries g.T.Keyed.key_of) c.in_ok-insert-in-Err.ensures.items
    ∙ put_gap g.met.T.Keyed.total g.T.Keyed.key_of c.args.items.now.items c.args.item c.in-Err.at (rw c.as_slice.ensures.value at c.in-Err.ensures)

pub returns-in_ok-insert-in-Err-clause-replaced : goal.returns-in_ok-insert-in-Err-clause-replaced
returns-in_ok-insert-in-Err-clause-replaced g c = sym (find_gap g.met.T.Keyed.total g.T.Keyed.key_of c.args.items.now.items (g.T.Keyed.key_of c.args.item) c.in-Err.at (rw c.as_slice.ensures.value at c.in-Err.ensures))
