-- The count of steps is one of its own.
use Rattle.feed_view.proofs.view.FeedView.after.Given as goal

abbrev pub ghosts-uncounted : goal.ghosts-uncounted
ghosts-uncounted a = record { name = a.blank.name; parts = a.blank.parts }
