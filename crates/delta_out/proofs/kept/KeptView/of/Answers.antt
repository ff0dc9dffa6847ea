-- What each feed says is kept.
use Rattle.std.proofs.Common.{map, ap, ◌∙◌}
use Rattle.std.specs.Arc.{arc_value}
use Rattle.board_defs.specs.Views.{FeedKept}
use Rattle.board_parts.proofs.Overs.{folds_each}
use Rattle.delta_out.proofs.kept.KeptView.of.Goals as goal

pub returns : goal.returns
returns c = λ i. record {
  number = c.entries.ensures i;
  folds = (c.in_ok-feeds_of.ensures ∙ folds_each arc_value c.feeds.result.now ∙ ap (map (λ (kept : FeedKept). kept.fold)) c.feeds.ensures) i;
}
