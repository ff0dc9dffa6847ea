-- The lists so far, and those that are left, are all.
use Rattle.std.proofs.Common.{map}
use Rattle.stop_index.proofs.FlatLemmas.{IsFlat}
use Rattle.stop_index.proofs.flat.flattened.Given as goal

abbrev pub invariant-loop-list : goal.invariant-loop-list
invariant-loop-list l =
    IsFlat l.offsets.items l.departures.items (map (λ v. v.items) l.list-iterator.rest.items) (map (λ v. v.items) l.fn.lists.items)
