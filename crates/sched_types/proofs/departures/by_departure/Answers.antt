use Rattle.std.proofs.Common.{map, rules}
use Rattle.std.proofs.lemmas.Fn.{always_returns_same}
use Rattle.sched_types.specs.Departures.{departure_of}
use Rattle.sched_types.proofs.DepartureOrder.{put_in_order}
use Rattle.sched_types.proofs.departures.by_departure.Goals as goal

pub returns : goal.returns
returns c =
    put_in_order c.args.trips.now (map (λ v. v.items) c.args.places.now) c.in_ok-order.order.items c.sort_by_key.new.self.items c.in_ok-order.ensures
    (c.in_ok-sort_by_key.ensures.sorted (departure_of c.args.trips.now (map (λ v. v.items) c.args.places.now)) (always_returns_same _ _ _ (λ a r f called. search rules)))
    (c.in_ok-sort_by_key.ensures.stable (departure_of c.args.trips.now (map (λ v. v.items) c.args.places.now)) (always_returns_same _ _ _ (λ a r f called. search rules)))
