-- The greatest of the offers so far.
use Rattle.std.proofs.Common.{◌≡◌, take}
use Rattle.std.specs.List.{filter_map}
use Rattle.std.specs.Option.{option_map}
use Rattle.order.specs.Order.{greatest}
use Rattle.run_departures.specs.Bids.{bid_cmp, bid_of}
use Rattle.run_departures.specs.Offered.{as_bid}
use Rattle.run_departures.proofs.winner.winner.Given as goal

abbrev pub invariant-loop-feed : goal.invariant-loop-feed
invariant-loop-feed l = option_map as_bid l.best ≡ greatest bid_cmp (filter_map (bid_of l.at l.run) (take l.feed-index l.feeds))
