-- What a feed offers for a run, as it is compared.
use Rattle.std.specs.Prelude.{Option, Some, None}
use Rattle.order.specs.Order.{greater}
use Rattle.run_departures.specs.declared.winner.Offer.{Offer}
use Rattle.run_departures.specs.Bids.{Bid, bid_cmp}

abbrev pub as_bid : Offer → Bid
as_bid offer = record { stamp = offer.stamp; number = offer.number; id = offer.id.now }

-- the greater of the best so far and of another, if there is one
abbrev pub with_bid : Option Bid → Option Bid → Option Bid
with_bid best None = best
with_bid best (Some bid) = greater bid_cmp best bid
