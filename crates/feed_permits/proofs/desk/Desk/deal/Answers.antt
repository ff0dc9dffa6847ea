-- The next key is handed out.
use Rattle.std.proofs.Common.{arith}
use Rattle.feed_permits.proofs.Moves.{deals}
use Rattle.feed_permits.proofs.desk.Desk.deal.Goals as goal

pub split_seat-seat-requires : goal.split_seat-seat-requires
split_seat-seat-requires c = (c.self.invariant.own, omega (arith, c.self.invariant.words), λ s k at. deals s.words s.views _ _ c.self.invariant.deals k at)
