-- The next in order, until one is found that runs.
use Rattle.std.proofs.Common.{◌≡◌, ◌+◌, ◌≤◌, ◌≤ℤ◌, ◌<ℤ◌, List, ◌∷◌, drop, get_or, length, filter, w64, SFits, sym, ap, subst, ◌∙◌, rules, arith}
use Rattle.std.specs.List.Sorted.{IsSorted}
use Rattle.std.proofs.lemmas.Int.{to_z-of_z}
use Rattle.std.proofs.lemmas.List.{drop_all, take_rest}
use Rattle.stop_index.specs.declared.trip_departure.TripDeparture.{TripDeparture}
use Rattle.stop_index.specs.Index.{departure_cmp}
use Rattle.stop_index.specs.Left.{is_before, slot_at, slots_from}
use Rattle.stop_index.proofs.Instants.{wrapped, before_end, from_end}
use Rattle.stop_index.proofs.DaySlots.{run_next, run_found, run_late, soonest_is, soonest_none, sorted_drop}
use Rattle.stop_index.proofs.search.first_run.Goals as goal

pub loop-i-preserved : goal.loop-i-preserved
loop-i-preserved c =
    let none : TripDeparture = record { seconds = 0; trip = 0; place = 0 } in
    run_next c.args.plan.now (wrapped c.args.base) c.args.day c.args.departures.now c.loop-i.i none c.slot_at-slot.result c.loop-i-test.true c.slot_at-slot.ensures (sym c.runs.ensures.value ∙ c.if-runs.false)
    ∙ c.loop-i.invariant

pub returns-then-slot-end-clause-first : goal.returns-then-slot-end-clause-first
returns-then-slot-end-clause-first c =
    let none : TripDeparture = record { seconds = 0; trip = 0; place = 0 } in
    let fits : SFits w64 c.slot_at-slot.result.at = search rules in
    let late : c.args.end ≤ℤ c.slot_at-slot.result.at = subst (λ z. z ≤ℤ c.slot_at-slot.result.at) (to_z-of_z w64 c.args.end c.ranges.end) (from_end (wrapped c.args.end) c.slot_at-slot.result.at fits c.if-slot-end.true) in
    soonest_none c.args.plan.now c.args.base c.args.day c.args.end c.args.departures.now (drop c.loop-i.i c.args.departures.now)
    (subst (λ z. slots_from c.args.plan.now z c.args.day (drop c.loop-i.i c.args.departures.now) ≡ slots_from c.args.plan.now z c.args.day c.args.departures.now) (to_z-of_z w64 c.args.base c.ranges.base) c.loop-i.invariant)
    (run_late c.args.plan.now c.args.base c.args.day c.args.departures.now c.loop-i.i none c.slot_at-slot.result c.loop-i-test.true
    (c.slot_at-slot.ensures ∙ ap (λ b. slot_at b c.args.day (get_or c.args.departures.now c.loop-i.i none)) (to_z-of_z w64 c.args.base c.ranges.base))
    c.args.end c.requires.sorted late)

pub returns-then-runs : goal.returns-then-runs
returns-then-runs c =
    let none : TripDeparture = record { seconds = 0; trip = 0; place = 0 } in
    let fits : SFits w64 c.slot_at-slot.result.at = search rules in
    let early : c.slot_at-slot.result.at <ℤ c.args.end = subst (λ z. c.slot_at-slot.result.at <ℤ z) (to_z-of_z w64 c.args.end c.ranges.end) (before_end (wrapped c.args.end) c.slot_at-slot.result.at fits c.if-slot-end.false) in
    let rest = drop (c.loop-i.i + 1) c.args.departures.now in
    let found : slots_from c.args.plan.now c.args.base c.args.day c.args.departures.now ≡ c.slot_at-slot.result ∷ slots_from c.args.plan.now c.args.base c.args.day rest =
    sym (subst (λ z. slots_from c.args.plan.now z c.args.day (drop c.loop-i.i c.args.departures.now) ≡ slots_from c.args.plan.now z c.args.day c.args.departures.now) (to_z-of_z w64 c.args.base c.ranges.base) c.loop-i.invariant)
    ∙ run_found c.args.plan.now c.args.base c.args.day c.args.departures.now c.loop-i.i none c.slot_at-slot.result c.loop-i-test.true
    (c.slot_at-slot.ensures ∙ ap (λ b. slot_at b c.args.day (get_or c.args.departures.now c.loop-i.i none)) (to_z-of_z w64 c.args.base c.ranges.base))
    (sym c.runs.ensures.value ∙ c.if-runs.true) in
    let whole = take_rest c.args.departures.now (c.loop-i.i + 1) in
    record {
      first = sym (soonest_is (slots_from c.args.plan.now c.args.base c.args.day c.args.departures.now) (slots_from c.args.plan.now c.args.base c.args.day rest) c.slot_at-slot.result c.args.end found early);
      rest = found ∙ ap (λ xs. c.slot_at-slot.result ∷ slots_from c.args.plan.now c.args.base c.args.day xs) (sym whole);
      in_order = subst (λ (xs : List TripDeparture). IsSorted departure_cmp xs) (sym whole) (sorted_drop c.args.departures.now (c.loop-i.i + 1) c.requires.sorted);
    }

pub returns-clause-first : goal.returns-clause-first
returns-clause-first c =
    let past : length c.args.departures.now ≤ c.loop-i.i = omega arith in
    soonest_none c.args.plan.now c.args.base c.args.day c.args.end c.args.departures.now (drop c.loop-i.i c.args.departures.now)
    (subst (λ z. slots_from c.args.plan.now z c.args.day (drop c.loop-i.i c.args.departures.now) ≡ slots_from c.args.plan.now z c.args.day c.args.departures.now) (to_z-of_z w64 c.args.base c.ranges.base) c.loop-i.invariant)
    (ap (λ xs. filter (is_before c.args.end) (slots_from c.args.plan.now c.args.base c.args.day xs)) (drop_all c.loop-i.i c.args.departures.now past))
