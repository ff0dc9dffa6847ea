-- What was taken is renamed, and the rest is still to come.
use Rattle.std.specs.Prelude.{◌≡◌, ◌++◌, map}
use Rattle.feed_write.proofs.renaming.ItemsRenamed.renamed.Given as goal

abbrev pub invariant-loop-item : goal.invariant-loop-item
invariant-loop-item g l = l.items.items ++ map (g.T.Renamed.under l.prefix) l.item-iterator.rest.items ≡ map (g.T.Renamed.under l.prefix) l.fn.self
