-- One feed more was gone over.
use Rattle.std.proofs.Common.{map}
use Rattle.board_core.specs.FeedsOfSchedule.{hub_feed_of}
use Rattle.board_core.proofs.AddedTrips.{added_in, feed_more}
use Rattle.board_core.proofs.added.added_updates.Goals as goal

pub loop-one-preserved : goal.loop-one-preserved
loop-one-preserved c =
    let feeds = c.args.feeds.now in
    feed_more c.args.plan.now c.args.at feeds c.loop-one.one-index c.one-item.result c.loop-one.updates.items c.push_added.new.updates.items
    (added_in c.args.plan.now c.args.at (map hub_feed_of feeds)) c.loop-one-test.true c.one-item.is c.loop-one.invariant c.in_ok-push_added.ensures
