-- The key stands in its part or nowhere.
use Rattle.std.proofs.Common.{sym, ap, ◌∙◌, subst}
use Rattle.shared_list.specs.Order.{item_with, Rises}
use Rattle.shared_list.proofs.PartLemmas.{good_here, Rises-here, find_here}
use Rattle.shared_list.proofs.shared.item_in.Goals as goal

pub item_of-requires-clause-sound : goal.item_of-requires-clause-sound
item_of-requires-clause-sound g c =
    subst (λ part. g.P.Part.sound part) (sym c.deref.ensures)
    (good_here g.met.P.Item.Keyed.total g.P.Item.Keyed.key_of g.P.Part.items g.P.Part.sound (g.K.KeyFor.sought c.args.key) c.args.parts.now c.home.result c.index-parts-home.result c.home.ensures c.index-parts-home.is c.requires.sound).0

pub item_of-requires-clause-rising : goal.item_of-requires-clause-rising
item_of-requires-clause-rising g c =
    subst (λ part. Rises g.P.Item.Keyed.key_cmp g.P.Item.Keyed.key_of (g.P.Part.items part)) (sym c.deref.ensures)
    (Rises-here g.met.P.Item.Keyed.total g.P.Item.Keyed.key_of g.P.Part.items g.P.Part.sound (g.K.KeyFor.sought c.args.key) c.args.parts.now c.home.result c.index-parts-home.result c.home.ensures c.index-parts-home.is c.requires.sound c.requires.rising)

pub returns : goal.returns
returns g c =
    c.item_of.ensures
    ∙ ap (λ part. item_with g.P.Item.Keyed.key_cmp g.P.Item.Keyed.key_of (g.K.KeyFor.sought c.args.key) (g.P.Part.items part)) c.deref.ensures
    ∙ find_here g.met.P.Item.Keyed.total g.P.Item.Keyed.key_of g.P.Part.items g.P.Part.sound (g.K.KeyFor.sought c.args.key) c.args.parts.now c.home.result c.index-parts-home.result c.home.ensures c.index-parts-home.is
