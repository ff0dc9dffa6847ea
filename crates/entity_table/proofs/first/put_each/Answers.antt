-- At the end no entity is left.
use Rattle.std.proofs.Common.{◌≡◌, [], arith, ap, ◌∙◌, sym}
use Rattle.std.specs.Prelude.{fold}
use Rattle.std.proofs.lemmas.Grind.{common_steps}
use Rattle.entity_table.specs.AllAtOnce.{and_stored}
use Rattle.entity_table.proofs.first.put_each.Goals as goal

pub returns : goal.returns
returns c =
    let none : c.loop-stored.stored-iterator.rest.items ≡ [] = grind (arith, common_steps) in
    sym (ap (fold and_stored c.loop-stored.table) none) ∙ c.loop-stored.invariant
