-- The feeds so far, and those that are left, are those of the schedule.
use Rattle.board_core.proofs.FeedLists.{AreSoFar}
use Rattle.board_core.proofs.feeds.feeds_of.Given as goal

abbrev pub invariant-loop-number : goal.invariant-loop-number
invariant-loop-number l = AreSoFar l.view l.schedule l.number l.feeds.items
