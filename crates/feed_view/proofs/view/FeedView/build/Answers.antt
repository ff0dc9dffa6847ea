-- A view over a timetable is told by what its feed says.
use Rattle.std.proofs.Common.{◌≡◌, sym, ap, ◌∙◌}
use Rattle.board_defs.specs.Fold.{FeedFold}
use Rattle.sched_types.specs.Timetable.{Timetable}
use Rattle.std.specs.Prelude.{IfOk}
use Rattle.feed_view.specs.Kept.{FeedSeen, IsOver, seen_of}
use Rattle.run_overlay.specs.Kept.{overlay_of}
use Rattle.feed_view.proofs.view.FeedView.build.Goals as goal

seen_is : (t : Timetable) (fold : FeedFold) (seen : FeedSeen) → IsOver t seen → seen.fold ≡ fold → seen_of t fold ≡ seen
seen_is t fold seen is same = λ i. record {
  fold = sym same i;
  overlay = (ap (λ (f : FeedFold). overlay_of t f.entities) (sym same) ∙ sym is.over) i;
}

pub returns-clause-built : goal.returns-clause-built
returns-clause-built g c = λ i. record {
  fold = record { count = c.args.count; stamp = c.args.stamp; entities = c.args.table };
  overlay = c.in_ok-overlay.ensures i;
}

pub returns-clause-same : goal.returns-clause-same
returns-clause-same g c = λ seen over same. returns-clause-built g c ∙ seen_is c.args.plan.now _ seen over same
