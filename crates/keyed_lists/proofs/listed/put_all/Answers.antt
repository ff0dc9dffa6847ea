-- At the end no item is left.
use Rattle.std.proofs.Common.{◌≡◌, [], arith, ap, ◌∙◌, sym}
use Rattle.std.specs.Prelude.{fold}
use Rattle.std.proofs.lemmas.Grind.{common_steps}
use Rattle.keyed_lists.specs.Keyed.{by_key, with_item}
use Rattle.keyed_lists.proofs.listed.put_all.Goals as goal

pub returns : goal.returns
unfolding by_key
returns g c =
    let none : c.loop-item.item-iterator.rest.items ≡ [] = grind (arith, common_steps) in
    sym (ap (fold (with_item g.T.Keyed.key_cmp g.T.Keyed.key_of) c.loop-item.list) none) ∙ c.loop-item.invariant
