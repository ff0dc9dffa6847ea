-- What the items that are left make of the list so far is what all make of nothing.
use Rattle.std.proofs.Common.{◌≡◌, []}
use Rattle.std.specs.Prelude.{fold}
use Rattle.keyed_lists.specs.Keyed.{with_item}
use Rattle.keyed_lists.proofs.listed.put_all.Given as goal

abbrev pub invariant-loop-item : goal.invariant-loop-item
invariant-loop-item g l =
    fold (with_item g.T.Keyed.key_cmp g.T.Keyed.key_of) l.list l.item-iterator.rest.items
    ≡ fold (with_item g.T.Keyed.key_cmp g.T.Keyed.key_of) [] l.fn.items.items
