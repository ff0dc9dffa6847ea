-- Nothing was sent, and the indexes are those of the timetables.
use Rattle.std.proofs.Common.{◌≡◌, map, replicate, length, ap, sym, subst, ◌∙◌}
use Rattle.std.specs.Arc.{arc_value}
use Rattle.sched_types.specs.Schedules.{Schedules}
use Rattle.board_defs.specs.Views.{HubKept, IsHub, nothing_kept}
use Rattle.board_defs.proofs.ViewLaws.{IsHub-first}
use Rattle.feed_view.specs.Kept.{kept_of}
use Rattle.board_parts.specs.Whole.{indexes_of}
use Rattle.board_parts.proofs.Overs.{first_over, kept_each, kept_nothing}
use Rattle.board_parts.proofs.view.HubView.first.Goals as goal

pub returns : goal.returns
returns c =
    let items = c.in_ok-feeds.feeds.items in
    let named = c.feeds.ensures ∙ ap (λ (s : Schedules). s.feeds) c.deref.ensures in
    let none : map (λ feed. kept_of (arc_value feed)) items ≡ replicate (length c.args.plans.value.feeds) nothing_kept =
    kept_each arc_value items ∙ ap (map kept_of) c.in_ok-feeds.ensures ∙ kept_nothing (length c.feeds.result.now) ∙ ap (λ fs. replicate (length fs) nothing_kept) named in
    ap (λ (feeds : _). let kept : HubKept = record { plans = c.args.plans.value; feeds = feeds; entries = 0 } in kept) none

pub invariant_of-result : goal.invariant_of-result
invariant_of-result c = record {
  hub = subst IsHub (sym (returns c)) (IsHub-first c.args.plans.value);
  indexed = c.in_ok-indexes.ensures.ok ∙ c.in_ok-build.ensures ∙ ap indexes_of c.deref-2.ensures;
  over = first_over c.args.plans.value (map arc_value c.in_ok-feeds.feeds.items) (length c.feeds.result.now) c.in_ok-feeds.ensures;
}
