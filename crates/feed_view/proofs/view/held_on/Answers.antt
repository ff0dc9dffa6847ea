-- Entity by entity, the table becomes what the message makes of it, and the alerts stay those of the table.
use Rattle.std.proofs.Common.{◌≡◌, [], refl, sym, ap, ◌∙◌, subst, rules, arith}
use Rattle.std.specs.Prelude.{T}
use Rattle.std.specs.FinMap.{find, is_sorted}
use Rattle.std.proofs.lemmas.Grind.{common_steps}
use Rattle.feed_defs.specs.declared.history.Stored.{Stored}
use Rattle.feed_defs.specs.History.{is_full, changes_with}
use Rattle.feed_defs.proofs.Kept.{id_cmp}
use Rattle.feed_defs.proofs.Applied.{sorted_changed}
use Rattle.entity_table.proofs.TableLemmas.{stepped, change_end}
use Rattle.alert_select.specs.FeedAlerts.{alerts_of}
use Rattle.feed_view.proofs.Begun.{begun_sorted, begun_alerts}
use Rattle.feed_view.proofs.view.held_on.Goals as goal

pub loop-entity-init : goal.loop-entity-init
loop-entity-init c = record {
  table = search rules;
  sorted = begun_sorted c.args.before.now c.in_ok-table.table (is_full c.args.message) c.in_ok-table.ensures c.sound.ensures;
  alerts = begun_alerts c.args.before.now c.args.alerts_before.now c.in_ok-table.table c.in_ok-alerts.alerts (is_full c.args.message) c.in_ok-table.ensures c.in_ok-alerts.ensures c.requires;
}

pub loop-entity-preserved : goal.loop-entity-preserved
loop-entity-preserved c =
    let stored : Stored = c.in_ok-stored.stored in
    let copy : Stored = c.in_ok-copy.field-0 in
    let same : copy ≡ stored = c.in_ok-copy.ensures in
    let step : c.in_ok-changed.changed.table ≡ changes_with c.loop-entity.table (stored.entity.id, stored) =
    c.in_ok-changed.ensures.table
    ∙ ap (λ es. changes_with es (copy.entity.id, copy)) c.table-in-loop-entity.view_is
    ∙ ap (λ (s : Stored). changes_with c.loop-entity.table (s.entity.id, s)) same in
    let before : c.in_ok-changed.changed.before ≡ find id_cmp stored.entity.id c.loop-entity.table =
    c.in_ok-changed.ensures.before
    ∙ ap (find id_cmp copy.entity.id) c.table-in-loop-entity.view_is
    ∙ ap (λ (s : Stored). find id_cmp s.entity.id c.loop-entity.table) same in
    record {
      table = stepped c.loop-entity.table c.in_ok-changed.changed.table _ c.unwrap_or-stamp.result c.in-Some.entity stored c.loop-entity.entity-iterator.rest.items c.next.new.self.rest.items
          c.in-Some.ensures.steps.0 c.in_ok-stored.ensures step c.loop-entity.invariant.table;
      sorted = subst (λ es. T (is_sorted id_cmp es)) (sym step) (sorted_changed c.loop-entity.table (stored.entity.id, stored) c.loop-entity.invariant.sorted);
      alerts = c.in_ok-alerts-2.ensures c.loop-entity.table c.loop-entity.invariant.sorted c.loop-entity.invariant.alerts before ∙ ap alerts_of (sym step);
    }

pub returns-clause-table : goal.returns-clause-table
returns-clause-table c =
    let none : c.loop-entity.entity-iterator.rest.items ≡ [] = grind (arith, common_steps) in
    change_end c.loop-entity.table c.in_ok-table.table c.args.before.now c.unwrap_or-stamp.result c.args.message c.args.message.entity _ none refl c.unwrap_or-stamp.ensures c.in_ok-table.ensures c.loop-entity.invariant.table

pub returns-clause-alerts : goal.returns-clause-alerts
returns-clause-alerts c = c.loop-entity.invariant.alerts
