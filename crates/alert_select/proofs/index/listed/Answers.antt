-- What has an alert is put in, in a share of its own.
use Rattle.std.proofs.Common.{ap, ◌∙◌}
use Rattle.std.specs.FinMap.{put}
use Rattle.feed_defs.proofs.Kept.{id_cmp}
use Rattle.alert_select.proofs.Parts.{listed_one}
use Rattle.alert_select.proofs.index.listed.Goals as goal

pub returns-in_ok-put : goal.returns-in_ok-put
returns-in_ok-put c =
    listed_one c.in_ok-put.field-0.table c.args.alerts c.in_ok-new.field-0 c.args.stored.now c.in_ok-copy.field-0 c.is_some.result
    (c.in_ok-put.ensures.table ∙ ap (put id_cmp c.in_ok-new.field-0.entity.id c.in_ok-new.field-0) c.alerts.view_is)
    c.in_ok-new.ensures c.in_ok-copy.ensures c.is_some.ensures c.if-is_some.true
