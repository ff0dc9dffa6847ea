-- The greatest of the offers of one feed more.
use Rattle.std.proofs.Common.{◌≡◌, ℕ, ◌+◌, ◌<◌, ◌≤◌, Option, Some, None, List, [], ◌∷◌, ◌++◌, length, take, get_or, sym, ap, ◌∙◌, append-nil, arith}
use Rattle.std.specs.List.{cons_option, filter_map}
use Rattle.std.specs.Option.{option_map}
use Rattle.std.proofs.lemmas.List.{take_all, take_more}
use Rattle.std.proofs.lemmas.List.Elements.{filter_map-append}
use Rattle.sched_types.specs.declared.rows.Run.{Run}
use Rattle.order.specs.Order.{greatest}
use Rattle.order.proofs.Laws.{greatest-push}
use Rattle.run_departures.specs.Bids.{Bid, LiveFeed, bid_cmp, bid_of, winner, winning}
use Rattle.run_departures.specs.Offered.{with_bid}

one_more : (bids : List Bid) (bid : Option Bid) → with_bid (greatest bid_cmp bids) bid ≡ greatest bid_cmp (bids ++ cons_option bid [])
one_more bids None = sym (ap (greatest bid_cmp) (append-nil bids))
one_more bids (Some bid) = sym (greatest-push bid_cmp bids bid)

pub more_bids : (at : ℕ) (run : Run) (feeds : List LiveFeed) (i : ℕ) (feed : LiveFeed) (best bid new : Option Bid) → i < length feeds → feed ≡ get_or feeds i feed → best ≡ greatest bid_cmp (filter_map (bid_of at run) (take i feeds))
    → bid ≡ bid_of at run feed → new ≡ with_bid best bid → new ≡ greatest bid_cmp (filter_map (bid_of at run) (take (i + 1) feeds))
more_bids at run feeds i feed best bid new h there so_far is more =
    more
    ∙ ap (λ b. with_bid b bid) so_far
    ∙ ap (with_bid (greatest bid_cmp (filter_map (bid_of at run) (take i feeds)))) (is ∙ ap (bid_of at run) there)
    ∙ one_more (filter_map (bid_of at run) (take i feeds)) (bid_of at run (get_or feeds i feed))
    ∙ ap (greatest bid_cmp)
    (sym (filter_map-append (bid_of at run) (take i feeds) (get_or feeds i feed ∷ []))
    ∙ ap (filter_map (bid_of at run)) (sym (take_more feeds i feed h)))

-- the greatest of all is the one that counts
pub all_bids : (at : ℕ) (run : Run) (feeds : List LiveFeed) (i : ℕ) (best : Option Bid) → length feeds ≤ i → best ≡ greatest bid_cmp (filter_map (bid_of at run) (take i feeds)) → option_map (λ bid. bid.number) best ≡ winning at feeds run
unfolding winner
all_bids at run feeds i best all so_far = grind (arith, take_all)
