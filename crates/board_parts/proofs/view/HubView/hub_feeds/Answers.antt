-- What the feeds say is what is kept of them.
use Rattle.std.proofs.Common.{map, ap, ◌∙◌}
use Rattle.std.specs.Arc.{arc_value}
use Rattle.board_defs.specs.Feeds.{feeds_from}
use Rattle.board_defs.specs.Views.{FeedKept, folds_of}
use Rattle.sched_types.specs.Schedules.{Schedules}
use Rattle.board_parts.proofs.Overs.{folds_each}
use Rattle.board_parts.proofs.view.HubView.hub_feeds.Goals as goal

pub returns : goal.returns
returns c =
    c.over.ensures
    ∙ ap (feeds_from 0 c.feeds.result.now) (folds_each arc_value c.feeds-2.result.now ∙ ap (map (λ (kept : FeedKept). kept.fold)) c.feeds-2.ensures)
    ∙ ap (λ feeds. feeds_from 0 feeds (folds_of c.args.self.now)) (c.feeds.ensures ∙ ap (λ (s : Schedules). s.feeds) c.plans.ensures)
