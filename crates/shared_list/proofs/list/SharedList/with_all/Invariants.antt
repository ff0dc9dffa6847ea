-- What the changes that are left make of the list so far is what all make of the first.
use Rattle.std.proofs.Common.{◌≡◌}
use Rattle.shared_list.specs.Changes.{after_changes}
use Rattle.shared_list.proofs.list.SharedList.with_all.Given as goal

abbrev pub invariant-loop-change : goal.invariant-loop-change
invariant-loop-change g l =
    after_changes g.T.Keyed.key_cmp g.T.Keyed.key_of g.K.KeyFor.sought l.list l.change-iterator.rest.items
    ≡ after_changes g.T.Keyed.key_cmp g.T.Keyed.key_of g.K.KeyFor.sought l.fn.self l.fn.changes.items
