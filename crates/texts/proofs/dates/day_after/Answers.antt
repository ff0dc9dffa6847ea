use Rattle.std.proofs.Common.{◌≡◌, ◌∙◌, ap, ◌+◌, ◌*◌, ◌<◌, arith}
use Rattle.text_defs.specs.Dates.{day_number, days_in_month, year_of, month_of, day_of, date_of}
use Rattle.text_defs.proofs.DateLemmas.{IsDay, IsDay-is_day, is_day-IsDay, day_number-same_month, is_day-same_month, day_number-next_month, day_number-next_year}
use Rattle.texts.proofs.dates.day_after.Goals as goal

-- the date is a day, and the length of its month
before_end : (c : goal.Then-day-days_in_month) → IsDay c.args.date × (day_of c.args.date < days_in_month (year_of c.args.date) (month_of c.args.date))
before_end c =
    let length = rw (c.parts_of-year.ensures.year, c.parts_of-year.ensures.month) at c.days_in_month.ensures in
    (IsDay-is_day c.args.date c.requires.valid, omega (arith, length, c.parts_of-year.ensures.day))

pub returns-then-day-days_in_month-clause-valid : goal.returns-then-day-days_in_month-clause-valid
returns-then-day-days_in_month-clause-valid c =
    is_day-IsDay (c.args.date + 1) (is_day-same_month c.args.date (before_end c).0 (before_end c).1)

pub returns-then-day-days_in_month-clause-next : goal.returns-then-day-days_in_month-clause-next
returns-then-day-days_in_month-clause-next c = day_number-same_month c.args.date (before_end c).0 (before_end c).1

pub returns-then-month-lt12-clause-next : goal.returns-then-month-lt12-clause-next
returns-then-month-lt12-clause-next c =
    let length = rw (c.parts_of-year.ensures.year, c.parts_of-year.ensures.month) at c.days_in_month.ensures in
    let same : c.parts_of-year.result.year * 10000 + (c.parts_of-year.result.month + 1) * 100 + 1 ≡ date_of (year_of c.args.date) (month_of c.args.date + 1) 1 =
    omega (arith, c.parts_of-year.ensures.year, c.parts_of-year.ensures.month) in
    ap day_number same
    ∙ day_number-next_month c.args.date (IsDay-is_day c.args.date c.requires.valid)
    (omega (arith, length, c.parts_of-year.ensures.day)) (omega (arith, c.parts_of-year.ensures.month))

pub returns-else-month-lt12-clause-next : goal.returns-else-month-lt12-clause-next
returns-else-month-lt12-clause-next c =
    let length = rw (c.parts_of-year.ensures.year, c.parts_of-year.ensures.month) at c.days_in_month.ensures in
    let same : (c.parts_of-year.result.year + 1) * 10000 + 101 ≡ date_of (year_of c.args.date + 1) 1 1 =
    omega (arith, c.parts_of-year.ensures.year) in
    ap day_number same
    ∙ day_number-next_year c.args.date (IsDay-is_day c.args.date c.requires.valid)
    (omega (arith, length, c.parts_of-year.ensures.day)) (omega (arith, c.parts_of-year.ensures.month))
