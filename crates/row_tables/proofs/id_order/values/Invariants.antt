use Rattle.std.proofs.Common.{◌≡◌, ◌++◌, map}
use Rattle.row_tables.specs.Order.{texts_seen}
use Rattle.row_tables.proofs.id_order.values.Given as goal

abbrev pub invariant-loop-value : goal.invariant-loop-value
invariant-loop-value l = l.values.items ++ map (λ entry. entry.1) (texts_seen l.value-iterator) ≡ map (λ entry. entry.1) (texts_seen l.places.entries)
