-- What one ask of the port does.
use Rattle.std.proofs.Common.{false, refl, arith}
use Rattle.hub_shared.proofs.Handed.{exceeds_limit}
use Rattle.hub_shared.proofs.feeding.ask.Goals as goal

pub returns-in-TooLong-clause-asked : goal.returns-in-TooLong-clause-asked
returns-in-TooLong-clause-asked g c = record {
  asked = record {
    bytes = c.in-TooLong.ensures.answer.1;
    gives = c.in-TooLong.ensures.answer.3;
    sorts = λ first given s. record {
      starved = false;
      sorts = exceeds_limit first c.args.seat.now c.args.seat.now given c.in-TooLong.ensures.answer.1 c.args.tally.now s c.in-TooLong.ensures.answer.2 refl;
    };
    counted = omega arith;
  };
  told = c.next.ensures.told;
  fallen = c.in-TooLong.ensures.cause;
}
