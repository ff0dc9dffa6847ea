-- What the entities that are left make of the table so far is what all make of nothing.
use Rattle.std.proofs.Common.{◌≡◌, []}
use Rattle.std.specs.Prelude.{fold}
use Rattle.entity_table.specs.AllAtOnce.{and_stored}
use Rattle.entity_table.proofs.first.put_each.Given as goal

abbrev pub invariant-loop-stored : goal.invariant-loop-stored
invariant-loop-stored l = fold and_stored l.table l.stored-iterator.rest.items ≡ fold and_stored [] l.fn.all.items
