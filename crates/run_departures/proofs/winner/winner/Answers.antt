-- One feed more, and at the end all.
use Rattle.std.proofs.Common.{ℕ, Option, ap, sym, ◌∙◌}
use Rattle.std.specs.Option.{option_map}
use Rattle.run_departures.specs.declared.winner.Offer.{Offer}
use Rattle.run_departures.specs.Offered.{as_bid}
use Rattle.run_departures.proofs.Bidding.{more_bids, all_bids}
use Rattle.run_departures.proofs.winner.winner.Goals as goal

pub loop-feed-preserved : goal.loop-feed-preserved
loop-feed-preserved c =
    more_bids c.args.at c.args.run c.args.feeds.now c.loop-feed.feed-index c.feed-item.result (option_map as_bid c.loop-feed.best) (option_map as_bid c.offer_of.result) (option_map as_bid c.greater-best.result)
    c.loop-feed-test.true c.feed-item.is c.loop-feed.invariant c.offer_of.ensures c.greater-best.ensures

pub returns-in-Some : goal.returns-in-Some
returns-in-Some c =
    let number : Option Offer → Option ℕ = λ o. option_map (λ bid. bid.number) (option_map as_bid o) in
    sym (ap number c.in-Some.is) ∙ all_bids c.args.at c.args.run c.args.feeds.now c.loop-feed.feed-index (option_map as_bid c.loop-feed.best) c.loop-feed-test.false c.loop-feed.invariant

pub returns-in-None : goal.returns-in-None
returns-in-None c =
    let number : Option Offer → Option ℕ = λ o. option_map (λ bid. bid.number) (option_map as_bid o) in
    sym (ap number c.in-None.is) ∙ all_bids c.args.at c.args.run c.args.feeds.now c.loop-feed.feed-index (option_map as_bid c.loop-feed.best) c.loop-feed-test.false c.loop-feed.invariant
