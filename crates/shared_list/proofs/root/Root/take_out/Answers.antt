-- A key that isn't there takes nothing away.
use Rattle.std.proofs.Common.{◌≡◌, ap, ◌∙◌, sym, subst}
use Rattle.shared_list.specs.Order.{entries, item_with, without}
use Rattle.shared_list.specs.Parts.{items_in, node_items, nodes_of}
use Rattle.shared_list.proofs.ListLemmas.{without_absent, absent}
use Rattle.shared_list.proofs.root.Root.take_out.Goals as goal

pub returns-then-is_none-clause-without : goal.returns-then-is_none-clause-without
returns-then-is_none-clause-without g c =
    let es = entries g.T.Keyed.key_of (items_in node_items c.in-Some.nodes.value.items) in
    let same : es ≡ entries g.T.Keyed.key_of (items_in node_items c.args.self.now) =
    ap (λ nodes. entries g.T.Keyed.key_of (items_in node_items nodes)) (ap nodes_of (sym c.in-Some.is) ∙ c.self.view_is) in
    subst (λ xs. es ≡ without g.T.Keyed.key_cmp (g.K.KeyFor.sought c.args.key) xs) same
    (sym (without_absent g.T.Keyed.key_cmp (g.K.KeyFor.sought c.args.key) es (absent c.item_in.result _ c.is_none.result
    (c.item_in.ensures ∙ ap (λ nodes. item_with g.T.Keyed.key_cmp g.T.Keyed.key_of (g.K.KeyFor.sought c.args.key) (items_in node_items nodes)) (c.as_slice.ensures.value ∙ ap (λ v. v.items) c.deref.ensures))
    c.is_none.ensures c.if-is_none.true)))
