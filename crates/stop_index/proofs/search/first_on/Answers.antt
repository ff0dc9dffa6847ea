-- The first of those that are still to come.
use Rattle.std.proofs.Common.{◌≡◌, filter, slice_get, w64, ap, ◌∙◌}
use Rattle.std.proofs.lemmas.Int.{to_z-of_z}
use Rattle.sched_types.specs.Timetable.{base_of}
use Rattle.stop_index.specs.Left.{is_left, slots_on}
use Rattle.stop_index.proofs.Instants.{wrapped}
use Rattle.stop_index.proofs.DayLemmas.{looked_up}
use Rattle.stop_index.proofs.DaySlots.{ahead_runs, sorted_ahead, soonest_left}
use Rattle.stop_index.proofs.search.first_on.Goals as goal

pub first_run-requires-clause-sorted : goal.first_run-requires-clause-sorted
first_run-requires-clause-sorted c = sorted_ahead c.args.reached.now (wrapped c.base-base.result) c.args.day c.args.departures.now c.ahead_on-ahead.result.now c.ahead_on-ahead.ensures c.requires.sorted

pub returns-in-Some : goal.returns-in-Some
returns-in-Some c =
    let base : wrapped c.base-base.result ≡ base_of c.args.plan.now c.args.day =
    looked_up c.args.plan.now c.args.day c.base-base.result c.base-base.ensures.value c.base-base.ensures.small in
    let runs = ahead_runs c.args.plan.now c.args.departures.now c.args.reached.now c.args.day (wrapped c.base-base.result) c.ahead_on-ahead.result.now c.ahead_on-ahead.ensures base in
    c.in-Some.ensures.first
    ∙ soonest_left c.args.plan.now c.args.departures.now c.args.reached.now c.args.day (wrapped c.base-base.result) (wrapped c.args.end) c.ahead_on-ahead.result.now runs
    ∙ ap (λ z. slice_get (filter (is_left c.args.reached.now z) (slots_on c.args.plan.now c.args.departures.now c.args.day)) 0) (to_z-of_z w64 c.args.end c.ranges.end)

pub returns-in-None : goal.returns-in-None
returns-in-None c =
    let base : wrapped c.base-base.result ≡ base_of c.args.plan.now c.args.day =
    looked_up c.args.plan.now c.args.day c.base-base.result c.base-base.ensures.value c.base-base.ensures.small in
    let runs = ahead_runs c.args.plan.now c.args.departures.now c.args.reached.now c.args.day (wrapped c.base-base.result) c.ahead_on-ahead.result.now c.ahead_on-ahead.ensures base in
    c.in-None.ensures.first
    ∙ soonest_left c.args.plan.now c.args.departures.now c.args.reached.now c.args.day (wrapped c.base-base.result) (wrapped c.args.end) c.ahead_on-ahead.result.now runs
    ∙ ap (λ z. slice_get (filter (is_left c.args.reached.now z) (slots_on c.args.plan.now c.args.departures.now c.args.day)) 0) (to_z-of_z w64 c.args.end c.ranges.end)
