-- Nothing comes to nothing on every timetable.
use Rattle.std.proofs.Common.{sym, ap, ◌∙◌}
use Rattle.run_overlay.specs.Kept.{overlay_of}
use Rattle.feed_view.proofs.view.FeedView.empty.Goals as goal

pub returns-clause-over : goal.returns-clause-over
returns-clause-over c = λ t. record { over = c.empty-3.ensures.every t ∙ ap (overlay_of t) (sym c.empty.ensures) }
