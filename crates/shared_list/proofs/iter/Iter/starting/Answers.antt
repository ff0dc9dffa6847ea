-- From the key on stands what its leaf has, then the later leaves of its node, then the later nodes.
use Rattle.std.proofs.Common.{◌++◌, append_assoc, ap, sym, ◌∙◌}
use Rattle.std.proofs.lemmas.List.{take_rest}
use Rattle.shared_list.specs.Order.{items_from}
use Rattle.shared_list.specs.Parts.{items_in, leaf_items, node_items}
use Rattle.shared_list.proofs.iter.Iter.starting.Goals as goal

pub returns : goal.returns
returns g c =
    let nodes = c.part_and_rest.result.1.now in
    let leaves = c.part_and_rest-2.result.1.now in
    ap (λ xs. xs ++ (items_in leaf_items leaves ++ items_in node_items nodes))
    (take_rest c.as_slice-items.result.now c.start_at.result
    ∙ c.start_at.ensures.start
    ∙ ap (items_from g.T.Keyed.key_cmp g.T.Keyed.key_of (g.K.KeyFor.sought c.args.key)) c.as_slice-items.ensures.value)
    ∙ sym (append_assoc (items_from g.T.Keyed.key_cmp g.T.Keyed.key_of (g.K.KeyFor.sought c.args.key) c.part_and_rest-2.result.0.now.items.items) (items_in leaf_items leaves) (items_in node_items nodes))
    ∙ ap (λ xs. xs ++ items_in node_items nodes)
    (sym c.part_and_rest-2.ensures.from
    ∙ ap (λ shares. items_from g.T.Keyed.key_cmp g.T.Keyed.key_of (g.K.KeyFor.sought c.args.key) (items_in leaf_items shares)) c.as_slice.ensures.value)
    ∙ sym c.part_and_rest.ensures.from
