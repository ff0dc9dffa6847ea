-- What stands from the key on stands in its part and in the later ones.
use Rattle.std.proofs.Common.{◌+◌, ◌++◌, drop, refl, ap, sym, ◌∙◌, subst}
use Rattle.std.proofs.lemmas.List.{take_rest}
use Rattle.shared_list.specs.Order.{items_from, Rises}
use Rattle.shared_list.specs.Parts.{items_in}
use Rattle.shared_list.proofs.PartLemmas.{from_here, Rises-here}
use Rattle.shared_list.proofs.shared.part_and_rest.Goals as goal

pub returns-clause-from : goal.returns-clause-from
returns-clause-from g c =
    from_here g.met.P.Item.Keyed.total g.P.Item.Keyed.key_of g.P.Part.items g.P.Part.sound (g.K.KeyFor.sought c.args.key) c.args.parts.now c.home-at.result c.index-parts-at.result c.home-at.ensures c.index-parts-at.is (c.home-at.result + 1) refl
    ∙ ap (λ part. items_from g.P.Item.Keyed.key_cmp g.P.Item.Keyed.key_of (g.K.KeyFor.sought c.args.key) (g.P.Part.items part) ++ items_in g.P.Part.items (drop (c.home-at.result + 1) c.args.parts.now)) (sym c.deref.ensures)
    ∙ ap (λ shares. items_from g.P.Item.Keyed.key_cmp g.P.Item.Keyed.key_of (g.K.KeyFor.sought c.args.key) (g.P.Part.items c.deref.result.now) ++ items_in g.P.Part.items shares) (sym (take_rest c.args.parts.now (c.home-at.result + 1)))

pub returns-clause-rising : goal.returns-clause-rising
returns-clause-rising g c =
    subst (λ part. Rises g.P.Item.Keyed.key_cmp g.P.Item.Keyed.key_of (g.P.Part.items part)) (sym c.deref.ensures)
    (Rises-here g.met.P.Item.Keyed.total g.P.Item.Keyed.key_of g.P.Part.items g.P.Part.sound (g.K.KeyFor.sought c.args.key) c.args.parts.now c.home-at.result c.index-parts-at.result c.home-at.ensures c.index-parts-at.is c.requires.sound c.requires.rising)
