-- The nodes have the pieces, one each.
use Rattle.std.proofs.Common.{◌≡◌, [], sym, ap, ◌∙◌, subst, arith}
use Rattle.std.proofs.lemmas.Grind.{common_steps}
use Rattle.shared_list.specs.Parts.{items_in, leaf_items, node_items, IsFilled}
use Rattle.shared_list.proofs.Pieces.{in_leaves, FitsNode, all_in_leaves, fit_nodes, made_begins, made_first, made_goes_on, made_ends}
use Rattle.shared_list.proofs.sorted.nodes_over.Goals as goal

pub loop-parts-init : goal.loop-parts-init
loop-parts-init g c =
    let stamp = g.T.Keyed.stamp_of in
    made_begins node_items (IsFilled stamp) (in_leaves stamp) (FitsNode stamp) c.in_ok-nodes.nodes.items c.into_iter-parts-iterator.result.rest.items c.args.pieces.items c.in_ok-nodes.ensures.items c.into_iter-parts-iterator.ensures.into_iter_gives.0
    (fit_nodes stamp c.args.pieces.items c.requires.filled c.requires.sound)

pub of-requires : goal.of-requires
of-requires g c =
    let stamp = g.T.Keyed.stamp_of in
    (made_first node_items (IsFilled stamp) (in_leaves stamp) (FitsNode stamp) c.loop-parts.nodes.items c.loop-parts.parts-iterator.rest.items c.next.new.self.rest.items c.args.pieces.items c.in-Some.parts c.loop-parts.invariant c.in-Some.ensures.steps.0).0

pub loop-parts-preserved : goal.loop-parts-preserved
loop-parts-preserved g c =
    let stamp = g.T.Keyed.stamp_of in
    made_goes_on node_items (IsFilled stamp) (in_leaves stamp) (FitsNode stamp) c.loop-parts.nodes.items c.push.new.self.items c.loop-parts.parts-iterator.rest.items c.next.new.self.rest.items c.args.pieces.items c.in-Some.parts c.in_ok-new.field-0
    c.loop-parts.invariant c.in-Some.ensures.steps.0
    (ap node_items c.in_ok-new.ensures.ok ∙ ap (items_in leaf_items) c.of.ensures.parts)
    (subst (λ node. IsFilled stamp node) (sym c.in_ok-new.ensures.ok) c.of.ensures.sound)
    (made_first node_items (IsFilled stamp) (in_leaves stamp) (FitsNode stamp) c.loop-parts.nodes.items c.loop-parts.parts-iterator.rest.items c.next.new.self.rest.items c.args.pieces.items c.in-Some.parts c.loop-parts.invariant c.in-Some.ensures.steps.0).1
    c.in_ok-push.ensures.items

pub returns-clause-items : goal.returns-clause-items
returns-clause-items g c =
    let none : c.loop-parts.parts-iterator.rest.items ≡ [] = grind (arith, common_steps) in
    made_ends node_items (IsFilled g.T.Keyed.stamp_of) (in_leaves g.T.Keyed.stamp_of) (FitsNode g.T.Keyed.stamp_of) c.loop-parts.nodes.items c.loop-parts.parts-iterator.rest.items c.args.pieces.items c.loop-parts.invariant none
    ∙ all_in_leaves g.T.Keyed.stamp_of c.args.pieces.items
