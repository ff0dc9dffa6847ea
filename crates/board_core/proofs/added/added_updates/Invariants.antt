-- The updates of the feeds so far, and those of the feeds that are left, are all.
use Rattle.std.proofs.Common.{◌≡◌, ◌++◌, drop, map}
use Rattle.board_core.specs.FeedsOfSchedule.{hub_feed_of}
use Rattle.board_core.proofs.AddedTrips.{added_in}
use Rattle.board_core.proofs.added.added_updates.Given as goal

abbrev pub invariant-loop-one : goal.invariant-loop-one
invariant-loop-one l =
    l.updates.items ++ added_in l.plan l.at (map hub_feed_of (drop l.one-index l.feeds)) ≡ added_in l.plan l.at (map hub_feed_of l.feeds)
