-- What the index keeps of the stop are its departures.
use Rattle.std.proofs.Common.{◌≡◌, [], slice_get, unwrap_or, w64, sym, ap, subst, ◌∙◌}
use Rattle.std.proofs.lemmas.Int.{to_z-of_z}
use Rattle.stop_index.specs.declared.reached.Reached.TheVariants.{Instant}
use Rattle.stop_index.specs.declared.trip_departure.TripDeparture.{TripDeparture}
use Rattle.std.specs.Prelude.{List}
use Rattle.stop_index.specs.Index.{Index, departures_at, index_of}
use Rattle.stop_index.specs.Left.{AreDepartures, slots_left}
use Rattle.stop_index.proofs.Instants.{wrapped}
use Rattle.stop_index.proofs.SameSlots.{departures_are, kept_at, left_at_first}
use Rattle.stop_index.proofs.index.StopIndex.between.Goals as goal

pub over-requires-clause-are : goal.over-requires-clause-are
over-requires-clause-are c =
    let kept : c.list.result.now ≡ departures_at c.args.plan.now c.args.stop =
    c.list.ensures ∙ ap (λ (x : Index). unwrap_or (slice_get x.departures c.args.stop) []) (c.self.view_is ∙ c.requires) ∙ kept_at c.args.plan.now c.sound.ensures c.args.stop in
    subst (λ (ds : List TripDeparture). AreDepartures ds) (sym kept) (departures_are c.args.plan.now c.args.stop)

pub over-requires-clause-rise : goal.over-requires-clause-rise
unfolding index_of
over-requires-clause-rise c = ap (λ (x : Index). x.days_rise) (c.self.view_is ∙ c.requires)

pub returns : goal.returns
returns c =
    let kept : c.list.result.now ≡ departures_at c.args.plan.now c.args.stop =
    c.list.ensures ∙ ap (λ (x : Index). unwrap_or (slice_get x.departures c.args.stop) []) (c.self.view_is ∙ c.requires) ∙ kept_at c.args.plan.now c.sound.ensures c.args.stop in
    c.over.ensures
    ∙ ap (λ ds. slots_left c.args.plan.now ds (Instant (wrapped c.args.start)) (wrapped c.args.end)) kept
    ∙ ap (λ z. slots_left c.args.plan.now (departures_at c.args.plan.now c.args.stop) (Instant z) (wrapped c.args.end)) (to_z-of_z w64 c.args.start c.ranges.start)
    ∙ ap (slots_left c.args.plan.now (departures_at c.args.plan.now c.args.stop) (Instant c.args.start)) (to_z-of_z w64 c.args.end c.ranges.end)
    ∙ left_at_first c.args.plan.now c.args.stop c.args.start c.args.end
