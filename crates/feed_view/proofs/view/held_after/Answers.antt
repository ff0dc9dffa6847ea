-- After a whole data set it does not matter what was held before.
use Rattle.std.proofs.Common.{sym, ◌∙◌}
use Rattle.entity_table.proofs.AtOnce.{whole_after}
use Rattle.keyed_lists.proofs.Said.{if_ok_is}
use Rattle.feed_view.proofs.view.held_after.Goals as goal

pub returns-then-is_whole-clause-table : goal.returns-then-is_whole-clause-table
returns-then-is_whole-clause-table c =
    if_ok_is c.held_first.result (λ held. held.table) _ _
    (whole_after c.args.message c.args.before.now (sym c.is_whole.ensures ∙ c.if-is_whole.true))
    c.held_first.ensures.table
