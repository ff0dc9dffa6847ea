-- One trip more, and at the end all.
use Rattle.std.proofs.Common.{◌≡◌, [], length, map, ap, ◌∙◌, arith}
use Rattle.std.specs.List.{range_with_len}
use Rattle.sched_types.specs.declared.rows.Counts.{Counts}
use Rattle.stop_index.specs.Gathered.{gathered}
use Rattle.stop_index.proofs.GatherLemmas.{gathers_more, as_many}
use Rattle.stop_index.proofs.gathering.by_stop.Goals as goal

pub loop-trip-init : goal.loop-trip-init
loop-trip-init c = c.in_ok-lists.ensures ∙ ap (λ (counts : Counts). map (λ _. []) (range_with_len 0 counts.stops)) c.counts.ensures

pub add_trip-requires-clause-stops : goal.add_trip-requires-clause-stops
add_trip-requires-clause-stops c = as_many c.args.plan.now c.loop-trip.trip c.loop-trip.lists.items c.loop-trip.invariant

pub loop-trip-preserved : goal.loop-trip-preserved
loop-trip-preserved c = gathers_more c.args.plan.now c.loop-trip.trip (map (λ v. v.items) c.loop-trip.lists.items) (map (λ v. v.items) c.add_trip.new.lists.items) c.loop-trip.invariant c.in_ok-add_trip.ensures

pub returns : goal.returns
returns c =
    let all : c.loop-trip.trip ≡ length c.args.plan.now.trips = omega (arith, c.trips-trip-end.ensures) in
    c.loop-trip.invariant ∙ ap (gathered c.args.plan.now) all
