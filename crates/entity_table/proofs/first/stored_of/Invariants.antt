-- Those so far, and the entities that are left, are all.
use Rattle.std.proofs.Common.{◌≡◌, ◌++◌, map}
use Rattle.entity_table.specs.AllAtOnce.{with_stamp}
use Rattle.entity_table.proofs.first.stored_of.Given as goal

abbrev pub invariant-loop-entity : goal.invariant-loop-entity
invariant-loop-entity l = l.all.items ++ map (with_stamp l.stamp) l.entity-iterator.rest.items ≡ map (with_stamp l.stamp) l.fn.entities.items
