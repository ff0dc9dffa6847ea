-- What the entities that are left make of the table is what all make of the first.
use Rattle.std.proofs.Common.{◌≡◌, drop}
use Rattle.entity_table.proofs.TableLemmas.{after_each}
use Rattle.entity_table.proofs.changes.apply.Given as goal

abbrev pub invariant-loop-entity : goal.invariant-loop-entity
invariant-loop-entity l =
    after_each l.stamp l.next (drop l.entity-index l.entity-items) ≡ after_each l.stamp l.initial.next l.entity-items
