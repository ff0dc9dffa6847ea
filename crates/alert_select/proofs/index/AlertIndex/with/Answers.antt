-- The alerts of the table before become those of the table after.
use Rattle.std.proofs.Common.{sym, ap, ◌∙◌}
use Rattle.feed_defs.specs.declared.history.Stored.{Stored}
use Rattle.feed_defs.specs.History.{changes_with, changes_without}
use Rattle.alert_select.proofs.Parts.{alert_in, alert_out, no_alert}
use Rattle.alert_select.proofs.index.AlertIndex.with.Goals as goal

pub returns-then-has_alert : goal.returns-then-has_alert
returns-then-has_alert c = λ entities h are held.
    alert_in entities c.args.self (c.args.stored.now.entity.id, c.args.stored.now) h are c.in_ok-changed.changed.table
    (sym c.has_alert.ensures ∙ c.if-has_alert.true)
    (c.in_ok-changed.ensures.table
    ∙ ap (λ (s : Stored). changes_with c.self.inside.alerts (s.entity.id, s)) c.in_ok-copy.ensures
    ∙ ap (λ es. changes_with es (c.args.stored.now.entity.id, c.args.stored.now)) c.self.view_is)

pub returns-then-had_alert : goal.returns-then-had_alert
returns-then-had_alert c = λ entities h are held.
    alert_out entities c.args.self (c.args.stored.now.entity.id, c.args.stored.now) h are c.in_ok-changed-2.changed.table
    (sym c.has_alert.ensures ∙ c.if-has_alert.false)
    (c.in_ok-changed-2.ensures.table
    ∙ ap (λ id. changes_without id c.self-then-had_alert.inside.alerts) (c.as_str.ensures ∙ ap (λ (s : Stored). s.entity.id) c.get.ensures)
    ∙ ap (changes_without c.args.stored.now.entity.id) c.self-then-had_alert.view_is)

pub returns : goal.returns
returns c = λ entities h are held.
    no_alert entities c.args.self (c.args.stored.now.entity.id, c.args.stored.now) h are c.args.before
    (sym c.has_alert.ensures ∙ c.if-has_alert.false)
    held
    (sym c.had_alert.ensures ∙ c.if-had_alert.false)
