-- One part more is gone over.
use Rattle.std.proofs.Common.{◌+◌, refl, subst, arith}
use Rattle.std.proofs.lemmas.Grind.{common_steps}
use Rattle.std.proofs.lemmas.List.{take_all}
use Rattle.shared_list.specs.Parts.{items_in}
use Rattle.shared_list.specs.Stamps.{NoneAbove}
use Rattle.shared_list.proofs.Stamped.{parts_next}
use Rattle.shared_list.proofs.node.newest_in.Goals as goal

pub loop-part-preserved : goal.loop-part-preserved
loop-part-preserved g c =
    parts_next g.P.Item.Keyed.stamp_of g.P.Part.items c.loop-part.newest c.newest.result c.max-newest.result c.loop-part.part-index (c.loop-part.part-index + 1) c.args.parts.now c.part-item.result refl
    c.loop-part.invariant c.part-item.is c.loop-part-test.true
    (grind (arith, common_steps, c.max-newest.ensures))
    (subst (λ part. NoneAbove g.P.Item.Keyed.stamp_of c.newest.result (g.P.Part.items part)) c.deref.ensures c.newest.ensures)
    (grind (arith, common_steps, c.max-newest.ensures))

pub returns : goal.returns
returns g c =
    subst (λ parts. NoneAbove g.P.Item.Keyed.stamp_of c.loop-part.newest (items_in g.P.Part.items parts)) (take_all c.loop-part.part-index c.args.parts.now c.loop-part-test.false) c.loop-part.invariant
