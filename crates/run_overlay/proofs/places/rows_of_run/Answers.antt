-- The states of one walk, and what they come to.
use Rattle.std.proofs.Common.{◌≡◌, List, [], ◌++◌, ap, ◌∙◌}
use Rattle.std.specs.List.{filter_map}
use Rattle.rt_types.specs.declared.enums.TripRelation.{TripRelation}
use Rattle.delay_rule_defs.specs.declared.state.StopState.{StopState}
use Rattle.delay_rule_defs.specs.Delays.{states}
use Rattle.sched_types.specs.declared.rows.Run.{Run}
use Rattle.sched_types.specs.Timetable.{Timetable}
use Rattle.sched_types.proofs.TimetableLaws.{run_has, run_trip}
use Rattle.sched_types.specs.Runs.{departures_of}
use Rattle.trip_match_defs.specs.Matching.{relation_of}
use Rattle.run_overlay.specs.Turning.{place_by, rows_with}
use Rattle.keyed_lists.proofs.Said.{if_ok_is}
use Rattle.run_overlay.proofs.places.rows_of_run.Goals as goal

-- what was written into nothing
written : (given all old told : List StopState) → given ≡ all → all ≡ old ++ told → old ≡ [] → given ≡ told
written given all old told is at none = is ∙ at ∙ ap (λ xs. xs ++ told) none

same_rows : (t : Timetable) (run : Run) (kind other : TripRelation) (given told : List StopState) → kind ≡ other → given ≡ told
    → filter_map (place_by t run kind given) (departures_of t run.trip) ≡ filter_map (place_by t run other told) (departures_of t run.trip)
same_rows t run kind other given told e f = λ i. filter_map (place_by t run (e i) (f i)) (departures_of t run.trip)

pub place_rows-requires-clause-trip : goal.place_rows-requires-clause-trip
place_rows-requires-clause-trip g c = run_trip c.args.plan.now c.args.run c.requires

pub place_rows-requires-clause-day : goal.place_rows-requires-clause-day
place_rows-requires-clause-day g c = (run_has c.args.plan.now c.args.run c.requires).day

pub place_rows-requires-clause-many : goal.place_rows-requires-clause-many
place_rows-requires-clause-many g c = (run_has c.args.plan.now c.args.run c.requires).many

pub place_rows-requires-clause-near : goal.place_rows-requires-clause-near
place_rows-requires-clause-near g c = rw (c.as_slice.ensures.value, c.in_ok-walk.ensures.written, c.clear.ensures.items) c.in_ok-walk.ensures.near

pub returns-clause-rows : goal.returns-clause-rows
returns-clause-rows g c =
    let told = states c.args.plan.now c.args.run c.args.update.now in
    if_ok_is c.place_rows.result (λ rows. rows.items) _ (rows_with c.args.plan.now c.args.run c.args.update.now)
    (same_rows c.args.plan.now c.args.run c.unwrap_or-relation.result (relation_of c.args.update.now.trip) c.as_slice.result.now told c.unwrap_or-relation.ensures
    (written c.as_slice.result.now _ _ told c.as_slice.ensures.value c.in_ok-walk.ensures.written c.clear.ensures.items))
    c.place_rows.ensures
