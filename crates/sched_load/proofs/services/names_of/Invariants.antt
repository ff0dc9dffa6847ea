use Rattle.std.proofs.Common.{◌≡◌, ◌++◌, map}
use Rattle.row_tables.specs.Order.{texts_seen}
use Rattle.sched_load.proofs.services.names_of.Given as goal

abbrev pub invariant-loop-id : goal.invariant-loop-id
invariant-loop-id l = l.names.items ++ map (λ entry. entry.0) (texts_seen l.id-iterator) ≡ map (λ entry. entry.0) (texts_seen l.ids.entries)
