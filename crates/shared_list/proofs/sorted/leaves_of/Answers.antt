-- The leaves have the pieces, one each.
use Rattle.std.proofs.Common.{◌≡◌, ◌<◌, [], length, sym, ap, ◌∙◌, subst, arith}
use Rattle.std.proofs.lemmas.Grind.{common_steps}
use Rattle.shared_list.specs.Parts.{leaf_items, IsDated}
use Rattle.shared_list.proofs.Pieces.{made_first, made_goes_on, made_ends}
use Rattle.shared_list.proofs.sorted.leaves_of.Goals as goal

pub loop-piece-preserved : goal.loop-piece-preserved
loop-piece-preserved g c =
    let stamp = g.T.Keyed.stamp_of in
    made_goes_on leaf_items (IsDated stamp) (λ piece. piece.items) (λ piece. 0 < length piece.items) c.loop-piece.leaves.items c.push.new.self.items c.loop-piece.piece-iterator.rest.items c.next.new.self.rest.items c.args.pieces.items c.in-Some.piece c.in_ok-new.field-0
    c.loop-piece.invariant c.in-Some.ensures.steps.0
    (ap leaf_items c.in_ok-new.ensures.ok ∙ c.of.ensures.items)
    (subst (λ leaf. IsDated stamp leaf) (sym c.in_ok-new.ensures.ok) c.of.ensures.dated)
    (made_first leaf_items (IsDated stamp) (λ piece. piece.items) (λ piece. 0 < length piece.items) c.loop-piece.leaves.items c.loop-piece.piece-iterator.rest.items c.next.new.self.rest.items c.args.pieces.items c.in-Some.piece c.loop-piece.invariant c.in-Some.ensures.steps.0)
    c.in_ok-push.ensures.items

pub returns-clause-items : goal.returns-clause-items
returns-clause-items g c =
    let none : c.loop-piece.piece-iterator.rest.items ≡ [] = grind (arith, common_steps) in
    made_ends leaf_items (IsDated g.T.Keyed.stamp_of) (λ piece. piece.items) (λ piece. 0 < length piece.items) c.loop-piece.leaves.items c.loop-piece.piece-iterator.rest.items c.args.pieces.items c.loop-piece.invariant none
