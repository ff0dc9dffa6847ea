-- What the entities that are left make of the table is what all make of the first, and the alerts are the table's.
use Rattle.std.proofs.Common.{◌≡◌}
use Rattle.std.specs.Prelude.{T}
use Rattle.std.specs.FinMap.{is_sorted}
use Rattle.feed_defs.proofs.Kept.{id_cmp}
use Rattle.entity_table.proofs.TableLemmas.{after_each}
use Rattle.alert_select.specs.FeedAlerts.{alerts_of}
use Rattle.feed_view.proofs.view.held_on.Given as goal

abbrev pub invariant-loop-entity : goal.invariant-loop-entity
invariant-loop-entity l = record {
  table : after_each l.stamp l.table l.entity-iterator.rest.items ≡ after_each l.stamp l.initial.table l.fn.message.entity;
  sorted : T (is_sorted id_cmp l.table);
  alerts : l.alerts ≡ alerts_of l.table;
}
