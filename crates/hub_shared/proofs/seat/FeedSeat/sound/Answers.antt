-- What is kept in a seat says it.
use Rattle.std.proofs.Common.{refl}
use Rattle.hub_shared.proofs.Sitting.{sounds}
use Rattle.hub_shared.proofs.seat.FeedSeat.sound.Goals as goal

pub returns : goal.returns
returns c = let seat = c.self.inside in
    rw (← c.self.view_is)
    (sounds seat.key seat.pass seat.feed seat.accepted seat.last seat.receipt c.self.invariant (record { book = seat.pass.line.book; table = seat.key.table; plans = seat.pass.shown.plans }) refl refl)
