-- The entities make of nothing what the message makes of it.
use Rattle.std.proofs.Common.{map, ap, ◌∙◌}
use Rattle.entity_table.specs.AllAtOnce.{with_stamp}
use Rattle.keyed_lists.proofs.Said.{if_ok_is}
use Rattle.entity_table.proofs.AtOnce.{first_is}
use Rattle.entity_table.proofs.first.first_table.Goals as goal

pub returns : goal.returns
returns c =
    if_ok_is c.table_of.result (λ table. table) _ _
    (first_is c.unwrap_or-stamp.result c.args.message c.in_ok-all.all.items c.unwrap_or-stamp.ensures
    (c.in_ok-all.ensures ∙ ap (map (with_stamp c.unwrap_or-stamp.result)) c.into_vec.ensures))
    c.table_of.ensures
