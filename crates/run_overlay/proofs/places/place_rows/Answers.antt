-- One place more, and at the end all but the last.
use Rattle.std.proofs.Common.{◌-◌, ◌≤◌, length, take, ap, ◌∙◌, arith}
use Rattle.std.specs.List.{enumerate_from, filter_map}
use Rattle.sched_types.specs.declared.rows.Place.{Place}
use Rattle.run_overlay.specs.Turning.{place_by}
use Rattle.keyed_lists.proofs.Said.{numbered_all, numbered_more}
use Rattle.run_overlay.proofs.places.place_rows.Goals as goal

pub loop-i-preserved : goal.loop-i-preserved
loop-i-preserved c =
    let none : Place = record { stop = 0; sequence = 0; arrival = 0; departure = 0; pickup = 0 } in
    let all = c.stop_times-places.result.now in
    numbered_more (place_by c.args.plan.now c.args.run c.args.relation c.args.states.now) (take (length all - 1) all) c.loop-i.i none c.loop-i.rows.items c.push_some.new.rows.items _ c.place_row-row.result
    c.loop-i-test.true c.loop-i.invariant c.place_row-row.ensures c.in_ok-push_some.ensures

pub returns : goal.returns
returns c =
    let all = c.stop_times-places.result.now in
    let places = take (length all - 1) all in
    let past : length places ≤ c.loop-i.i = omega arith in
    numbered_all (place_by c.args.plan.now c.args.run c.args.relation c.args.states.now) places c.loop-i.i c.loop-i.rows.items _ past c.loop-i.invariant
    ∙ ap (λ ps. filter_map (place_by c.args.plan.now c.args.run c.args.relation c.args.states.now) (enumerate_from 0 (take (length ps - 1) ps))) c.stop_times-places.ensures.value
