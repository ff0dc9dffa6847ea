-- When all entities are gone over, the message is applied.
use Rattle.entity_table.proofs.TableLemmas.{change_end, drop_past, stands_more}
use Rattle.entity_table.proofs.changes.apply.Goals as goal

pub returns-clause-applied : goal.returns-clause-applied
returns-clause-applied c =
    let items = c.as_slice-entity-items.result.now in
    change_end c.loop-entity.next c.in_ok-next.next c.args.table.now c.unwrap_or-stamp.result c.args.message.now items _ (drop_past c.loop-entity.entity-index items c.loop-entity-test.false)
    c.as_slice-entity-items.ensures c.unwrap_or-stamp.ensures c.in_ok-next.ensures c.loop-entity.invariant

pub returns-clause-stands : goal.returns-clause-stands
returns-clause-stands c = λ ms stood. stands_more c.loop-entity.next c.args.table.now c.args.message.now ms (returns-clause-applied c) stood
