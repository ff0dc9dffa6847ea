-- The changes name what goes by the key that is sought.
use Rattle.std.proofs.Common.{ap, sym, ◌∙◌, arith}
use Rattle.shared_list.specs.Changes.{after_changes}
use Rattle.keyed_lists.proofs.Effects.{by_naming}
use Rattle.keyed_lists.specs.Keyed.{by_key}
use Rattle.keyed_lists.proofs.InOrder.{puts_listed}
use Rattle.keyed_lists.proofs.Said.{if_ok_is}
use Rattle.keyed_lists.proofs.changes.changed.Goals as goal

pub returns : goal.returns
returns g c =
    if_ok_is c.with_all.result (λ list. list) _ _
    (ap (λ es. after_changes g.T.Keyed.key_cmp g.T.Keyed.key_of g.K.KeyFor.sought es c.args.changes.items) c.in_ok-share.ensures
    ∙ by_naming g.T.Keyed.key_cmp g.T.Keyed.key_of g.K.KeyFor.sought c.args.list.now c.args.changes.items)
    c.with_all.ensures

-- items that are put into a list of none
pub returns-then-are_puts : goal.returns-then-are_puts
returns-then-are_puts g c =
    if_ok_is c.listed_by_key.result (λ list. list) _ _
    (ap (by_key g.T.Keyed.key_cmp g.T.Keyed.key_of) c.in_ok-items_put.ensures
    ∙ puts_listed g.met.T.Keyed.total g.T.Keyed.key_of g.K.KeyFor.sought c.args.list.now c.args.changes.items (omega (arith, c.len.ensures, c.if-len-eq0.true)) (rw (c.as_slice.ensures.value) at (sym c.are_puts.ensures ∙ c.if-are_puts.true)))
    c.listed_by_key.ensures
