use Rattle.std.proofs.Common.{◌≡◌, ◌∙◌, ap, sym, add-one, arith}
use Rattle.text_defs.specs.Dates.{is_day, next_day, date_plus, day_number}
use Rattle.text_defs.proofs.DateLemmas.{IsDay-is_day, is_day-IsDay}
use Rattle.text_defs.proofs.DateLaws.{date_plus-number, before_last}
use Rattle.texts.proofs.dates.date_plus.Goals as goal

pub day_after-date-requires-clause-valid : goal.day_after-date-requires-clause-valid
day_after-date-requires-clause-valid c =
    let made = date_plus-number c.args.first c.loop.counter (IsDay-is_day c.args.first c.requires.valid) (omega (arith, c.loop-test.true)) in
    ap is_day c.loop.invariant ∙ is_day-IsDay (date_plus c.args.first c.loop.counter) made.0

pub day_after-date-requires-clause-not_last : goal.day_after-date-requires-clause-not_last
day_after-date-requires-clause-not_last c =
    let made = date_plus-number c.args.first c.loop.counter (IsDay-is_day c.args.first c.requires.valid) (omega (arith, c.loop-test.true)) in
    let early = before_last (date_plus c.args.first c.loop.counter) made.0 (omega (arith, made.1, c.loop-test.true)) in
    omega (arith, early, c.loop.invariant)

pub loop-preserved : goal.loop-preserved
unfolding date_plus
loop-preserved c =
    c.day_after-date.ensures.value ∙ ap next_day c.loop.invariant
    ∙ sym (ap (date_plus c.args.first) (add-one c.loop.counter))

-- the loop ends at the last of the days
pub returns-clause-valid : goal.returns-clause-valid
returns-clause-valid c =
    let all : c.loop.counter ≡ c.args.days = omega (arith, c.loop-test.false, c.loop.auto.counter-end) in
    let made = date_plus-number c.args.first c.args.days (IsDay-is_day c.args.first c.requires.valid) (omega (arith, c.requires.in_time)) in
    ap is_day (c.loop.invariant ∙ ap (date_plus c.args.first) all) ∙ is_day-IsDay (date_plus c.args.first c.args.days) made.0

pub returns-clause-number : goal.returns-clause-number
returns-clause-number c =
    let all : c.loop.counter ≡ c.args.days = omega (arith, c.loop-test.false, c.loop.auto.counter-end) in
    let made = date_plus-number c.args.first c.args.days (IsDay-is_day c.args.first c.requires.valid) (omega (arith, c.requires.in_time)) in
    ap day_number (c.loop.invariant ∙ ap (date_plus c.args.first) all) ∙ made.1
