-- The items so far, and those of the changes that are left, are all.
use Rattle.std.proofs.Common.{◌≡◌, ◌++◌}
use Rattle.keyed_lists.specs.Keyed.{items_put}
use Rattle.keyed_lists.proofs.changes.items_put.Given as goal

abbrev pub invariant-loop-change : goal.invariant-loop-change
invariant-loop-change g l = l.items.items ++ items_put l.change-iterator.rest.items ≡ items_put l.fn.changes.items
