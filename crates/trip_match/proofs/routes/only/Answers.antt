use Rattle.std.proofs.Common.{get_or, sym, ◌∙◌}
use Rattle.std.proofs.lemmas.List.{get_or_default}
use Rattle.trip_match.proofs.RouteLemmas.{several}
use Rattle.trip_match.proofs.routes.only.Goals as goal

pub returns-then-is_some : goal.returns-then-is_some
returns-then-is_some c =
    several c.args.plan.now c.args.day c.args.trips.now c.loop-trip.trip-index (get_or c.args.trips.now c.loop-trip.trip-index 0) c.loop-trip.found c.loop-trip-test.true (get_or_default c.args.trips.now c.loop-trip.trip-index 0 (get_or c.args.trips.now c.loop-trip.trip-index 0) c.loop-trip-test.true) c.loop-trip.invariant
    (sym c.runs.ensures.value ∙ c.if-runs.true) (sym c.is_some.ensures ∙ c.if-is_some.true)
