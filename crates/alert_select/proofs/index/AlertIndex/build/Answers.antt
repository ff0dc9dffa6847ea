-- All that the table holds is gone over.
use Rattle.alert_select.proofs.Parts.{alerts_built}
use Rattle.alert_select.proofs.index.AlertIndex.build.Goals as goal

pub returns : goal.returns
returns c =
    alerts_built c.loop-stored.alerts c.empty-alerts.result c.args.table.now c.into_iter-stored-iterator.result c.loop-stored.stored-iterator c.iter-stored-items.result
    c.empty-alerts.ensures c.into_iter-stored-iterator.ensures.into_iter_gives c.iter-stored-items.ensures.items c.iter-stored-items.ensures.rising c.iter-stored-items.ensures.keyed c.in-None.ensures.steps.0 c.loop-stored.invariant
