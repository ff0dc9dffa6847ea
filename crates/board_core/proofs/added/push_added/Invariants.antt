-- What was appended, and what is left to append, are all.
use Rattle.std.proofs.Common.{◌≡◌, ◌++◌}
use Rattle.board_core.specs.FeedsOfSchedule.{hub_feed_of}
use Rattle.board_core.proofs.AddedTrips.{stored_updates}
use Rattle.board_core.proofs.added.push_added.Given as goal

abbrev pub invariant-loop-stored : goal.invariant-loop-stored
invariant-loop-stored l =
    l.updates.items ++ stored_updates l.at (hub_feed_of l.one) l.stored-iterator
    ≡ l.initial.updates.items ++ stored_updates l.at (hub_feed_of l.one) l.initial.stored-iterator
