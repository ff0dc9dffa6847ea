use Rattle.std.proofs.Common.{length}
use Rattle.feed_read.proofs.Events.{TakesIn}
use Rattle.feed_read.proofs.trip_update.plain_event.Given as goal

abbrev pub invariant-fields : goal.invariant-fields
invariant-fields l = TakesIn l.bytes l.rest l.delay l.time l.uncertainty

abbrev pub decreases-fields : goal.decreases-fields
decreases-fields l = length l.rest
