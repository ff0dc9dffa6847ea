-- What is left of the schedule's feeds is what there was at first.
use Rattle.std.proofs.Common.{◌≡◌, length, filter}
use Rattle.board_defs.specs.Feeds.{is_of_schedule}
use Rattle.board_parts.proofs.feeds.next_of.Given as goal

abbrev pub invariant-loop-feed : goal.invariant-loop-feed
invariant-loop-feed l = filter (is_of_schedule l.schedule) l.all ≡ filter (is_of_schedule l.schedule) l.initial.all

abbrev pub decreases-loop-feed : goal.decreases-loop-feed
decreases-loop-feed l = length l.all
