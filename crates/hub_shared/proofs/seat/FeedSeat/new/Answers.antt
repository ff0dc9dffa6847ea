-- A feed that sent nothing.
use Rattle.hub_shared.proofs.Sitting.{begins_seat}
use Rattle.hub_shared.proofs.seat.FeedSeat.new.Goals as goal

pub invariant_of-result : goal.invariant_of-result
invariant_of-result c = begins_seat c.args.key c.args.pass c.args.feed c.requires.key c.requires.log c.requires.feeds c.requires.one c.requires.few
