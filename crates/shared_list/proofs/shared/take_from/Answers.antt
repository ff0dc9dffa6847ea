-- A key that isn't there takes nothing away.
use Rattle.std.proofs.Common.{sym, ap, ◌∙◌}
use Rattle.shared_list.specs.Order.{item_with}
use Rattle.shared_list.proofs.ListLemmas.{without_absent, absent}
use Rattle.shared_list.proofs.shared.take_from.Goals as goal

pub returns-then-is_none-clause-without : goal.returns-then-is_none-clause-without
returns-then-is_none-clause-without g c =
    sym (without_absent g.P.Item.Keyed.key_cmp (g.K.KeyFor.sought c.args.key) _ (absent c.item_of.result _ c.is_none.result
    (c.item_of.ensures ∙ ap (λ part. item_with g.P.Item.Keyed.key_cmp g.P.Item.Keyed.key_of (g.K.KeyFor.sought c.args.key) (g.P.Part.items part)) c.deref.ensures) c.is_none.ensures c.if-is_none.true))

pub returns-then-is_none-clause-taken : goal.returns-then-is_none-clause-taken
returns-then-is_none-clause-taken g c =
    sym (absent c.item_of.result _ c.is_none.result
    (c.item_of.ensures ∙ ap (λ part. item_with g.P.Item.Keyed.key_cmp g.P.Item.Keyed.key_of (g.K.KeyFor.sought c.args.key) (g.P.Part.items part)) c.deref.ensures) c.is_none.ensures c.if-is_none.true)
