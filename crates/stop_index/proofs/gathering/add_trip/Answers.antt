-- One place more, and at the end all but the last.
use Rattle.std.proofs.Common.{◌-◌, ◌≤◌, length, map, take, ap, ◌∙◌, arith}
use Rattle.std.proofs.lemmas.List.{length-map}
use Rattle.sched_types.specs.declared.rows.Place.{Place}
use Rattle.stop_index.proofs.GatherLemmas.{adds_none, adds_all, place_within, pushes_more}
use Rattle.stop_index.proofs.gathering.add_trip.Goals as goal

pub loop-i-init : goal.loop-i-init
loop-i-init c = adds_none c.args.trip c.args.plan.now (map (λ v. v.items) c.args.lists.now.items) (length-map c.args.lists.now.items (λ v. v.items) ∙ c.requires.stops)

pub index_mut-list-requires : goal.index_mut-list-requires
index_mut-list-requires c =
    let none : Place = record { stop = 0; sequence = 0; arrival = 0; departure = 0; pickup = 0 } in
    omega (
      arith,
      place_within c.args.plan.now c.sound.ensures c.args.trip c.saturating_sub.result c.loop-i.i c.stop_times-places.result.now none c.stop_times-places.ensures.value c.loop-i-test.true,
      c.loop-i.invariant.size,
      length-map c.loop-i.lists.items (λ v. v.items),
    )

pub loop-i-preserved : goal.loop-i-preserved
loop-i-preserved c =
    let none : Place = record { stop = 0; sequence = 0; arrival = 0; departure = 0; pickup = 0 } in
    pushes_more c.args.plan.now c.args.trip c.loop-i.i (take c.saturating_sub.result c.stop_times-places.result.now) none (map (λ v. v.items) c.args.lists.now.items) c.loop-i.lists.items c.index_mut-list.result.now c.push.new.self
    c.loop-i-test.true
    (place_within c.args.plan.now c.sound.ensures c.args.trip c.saturating_sub.result c.loop-i.i c.stop_times-places.result.now none c.stop_times-places.ensures.value c.loop-i-test.true)
    c.index_mut-list.ensures.value c.in_ok-push.ensures.items c.loop-i.invariant

pub returns : goal.returns
returns c =
    let places = take c.saturating_sub.result c.stop_times-places.result.now in
    let past : length places ≤ c.loop-i.i = omega arith in
    adds_all c.args.trip c.args.plan.now places c.loop-i.i (map (λ v. v.items) c.args.lists.now.items) (map (λ v. v.items) c.loop-i.lists.items) past c.loop-i.invariant
    (ap (λ n. take n c.stop_times-places.result.now) c.saturating_sub.ensures ∙ ap (λ ps. take (length ps - 1) ps) c.stop_times-places.ensures.value)
