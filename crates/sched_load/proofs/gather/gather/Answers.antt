use Rattle.std.proofs.Common.{◌∙◌, ap, sym, length}
use Rattle.std.specs.Prelude.{slice_get}
use Rattle.std.proofs.lemmas.Option.{none-some as none_some}
use Rattle.gtfs_rows.specs.StopTimes.{rows_to_come}
use Rattle.gtfs_rows.specs.declared.rows.TripRow.{TripRow}
use Rattle.sched_load_defs.specs.Numbers.{by_id}
use Rattle.sched_load.proofs.GatherLemmas.{below_pushed, gathering_more, gathering_start, gathering_unknown}
use Rattle.sched_load.proofs.gather.gather.Goals as goal

pub rows-init : goal.rows-init
rows-init c = (
  c.requires.open,
  gathering_start c.args.trips.now c.args.stops.now (rows_to_come c.args.rows.now) c.new-visits.result.items c.new-visits.ensures.items,
  λ i v at. absurd (none_some v (sym (ap (λ vs. slice_get vs i) c.new-visits.ensures.items) ∙ at)),
)

pub returns-in-Err-clause-value : goal.returns-in-Err-clause-value
returns-in-Err-clause-value c =
    let trips = c.args.trips.now in
    let stops = c.args.stops.now in
    let gives = rw c.in-Some.is at c.in_ok-row.ensures.gives in
    let told = c.rows.invariant.1 in
    gathering_unknown trips stops (rows_to_come c.args.rows.now) (rows_to_come c.rows.rows) (rows_to_come c.next.new.self) c.rows.visits c.in-Some.row c.in-Err.column told gives c.in_ok-skip-in-Err.ensures c.in-Err.ensures.value

pub rows-preserved-in_ok-push-in-Ok : goal.rows-preserved-in_ok-push-in-Ok
rows-preserved-in_ok-push-in-Ok c =
    let trips = c.args.trips.now in
    let stops = c.args.stops.now in
    let gives = rw c.in-Some.is at c.in_ok-row.ensures.gives in
    let told = c.rows.invariant.1 in
    let left = rw c.in-Some.is at c.in_ok-row.ensures.open in (
      left,
      gathering_more trips stops (rows_to_come c.args.rows.now) (rows_to_come c.rows.rows) (rows_to_come c.next.new.self) c.rows.visits.items c.push.new.self.items c.in-Some.row c.in-Ok.visit told gives c.in-Ok.ensures.value c.in_ok-push-in-Ok.ensures.items,
      below_pushed (length (by_id (λ (trip : TripRow). trip.trip_id) trips)) c.rows.visits.items c.push.new.self.items c.in-Ok.visit c.rows.invariant.2 c.in-Ok.ensures.below c.in_ok-push-in-Ok.ensures.items,
    )

pub rows-preserved : goal.rows-preserved
rows-preserved c =
    let trips = c.args.trips.now in
    let stops = c.args.stops.now in
    let gives = rw c.in-Some.is at c.in_ok-row.ensures.gives in
    let told = c.rows.invariant.1 in
    let left = rw c.in-Some.is at c.in_ok-row.ensures.open in (
      left,
      gathering_more trips stops (rows_to_come c.args.rows.now) (rows_to_come c.rows.rows) (rows_to_come c.next.new.self) c.rows.visits.items c.push.new.self.items c.in-Some.row c.in-Ok.visit told gives c.in-Ok.ensures.value c.in_ok-push-in-Ok.ensures.items,
      below_pushed (length (by_id (λ (trip : TripRow). trip.trip_id) trips)) c.rows.visits.items c.push.new.self.items c.in-Ok.visit c.rows.invariant.2 c.in-Ok.ensures.below c.in_ok-push-in-Ok.ensures.items,
    )
