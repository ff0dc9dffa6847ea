-- What a message goes on from.
use Rattle.std.proofs.Common.{◌≡◌, List, [], Bool, true, false, sym, ap, ◌∙◌, subst}
use Rattle.std.specs.Prelude.{T, if◌then◌else◌}
use Rattle.std.specs.FinMap.{is_sorted}
use Rattle.feed_defs.specs.History.{Change}
use Rattle.feed_defs.proofs.Kept.{id_cmp}
use Rattle.sched_types.specs.Timetable.{Timetable}
use Rattle.alert_select.specs.FeedAlerts.{alerts_of}
use Rattle.run_overlay.proofs.Alone.{none_kept}
use Rattle.feed_view.specs.Kept.{IsOver, nothing_seen}

-- it is in order
pub begun_sorted : (table start : List Change) (full : Bool) → start ≡ (if full then [] else table) → T (is_sorted id_cmp table) → T (is_sorted id_cmp start)
begun_sorted table start true begun h = subst (λ es. T (is_sorted id_cmp es)) (sym begun) tt
begun_sorted table start false begun h = subst (λ es. T (is_sorted id_cmp es)) (sym begun) h

-- and has its alerts
pub begun_alerts : (table alerts start begun : List Change) (full : Bool) → start ≡ (if full then [] else table) → begun ≡ (if full then [] else alerts) → alerts ≡ alerts_of table → begun ≡ alerts_of start
begun_alerts table alerts start begun true first from are = from ∙ ap alerts_of (sym first)
begun_alerts table alerts start begun false first from are = from ∙ are ∙ ap alerts_of (sym first)

-- where nothing was sent, nothing comes of it
pub nothing_over : (t : Timetable) → IsOver t nothing_seen
nothing_over t = record { over = sym (none_kept t) }
