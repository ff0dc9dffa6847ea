-- Laws of the calendar's words, for those who count days: the day after is the next number, the order of
-- dates is that of their numbers, and a number has one date.
use Rattle.std.proofs.Common.{◌≡◌, ℕ, zero, suc, ◌+◌, ◌-◌, ◌<◌, ◌≤◌, inl, inr, cond, nat_lt, refl, sym, ap, subst, ◌∙◌, arith}
use Rattle.std.proofs.lemmas.Bool.{cases_lt, cases_order}
use Rattle.std.proofs.lemmas.Bool.Decides.{nat_tests}
use Rattle.text_defs.specs.Dates.{year_of, month_of, day_of, date_of, days_in_month, is_day, days_before_year, days_before_month, day_number, next_day, date_plus}
use Rattle.text_defs.proofs.DateLemmas.{IsDay, IsDay-is_day, days_before_year-suc, days_before_month-suc, days_before_month_bound, digits-date_of, day_number-same_month, is_day-same_month, day_number-next_month, day_number-next_year}

next_if : (a b x y : ℕ) → a < b → cond (nat_lt a b) x y ≡ x
next_if a b x y h = grind (arith, nat_tests)

next_else : (a b x y : ℕ) → b ≤ a → cond (nat_lt a b) x y ≡ y
next_else a b x y h = grind (arith, nat_tests)

next-same_month : (date : ℕ) → day_of date < days_in_month (year_of date) (month_of date) → next_day date ≡ date + 1
unfolding next_day
next-same_month date h = next_if (day_of date) (days_in_month (year_of date) (month_of date)) (date + 1) _ h

next-next_month : (date : ℕ) → days_in_month (year_of date) (month_of date) ≤ day_of date → month_of date < 12 → next_day date ≡ date_of (year_of date) (month_of date + 1) 1
unfolding next_day
next-next_month date h k = next_else (day_of date) (days_in_month (year_of date) (month_of date)) (date + 1) _ h ∙ next_if (month_of date) 12 _ _ k

next-next_year : (date : ℕ) → days_in_month (year_of date) (month_of date) ≤ day_of date → 12 ≤ month_of date → next_day date ≡ date_of (year_of date + 1) 1 1
unfolding next_day
next-next_year date h k = next_else (day_of date) (days_in_month (year_of date) (month_of date)) (date + 1) _ h ∙ next_else (month_of date) 12 _ _ k

-- a date is its digits
date_is : (date : ℕ) → date_of (year_of date) (month_of date) (day_of date) ≡ date
date_is date = omega arith

-- the first day of a month
first-is_day : (year month : ℕ) → year < 10_000 → 1 ≤ month → month ≤ 12 → IsDay (date_of year month 1)
first-is_day year month h low high =
    let digits = digits-date_of year month 1 (omega arith) (omega arith) in
    let long : 28 ≤ days_in_month year month = grind arith in
    record {
      year = rw digits.0 h;
      first_month = rw digits.1 low;
      last_month = rw digits.1 high;
      first_day = omega (arith, digits.2);
      last_day = rw (digits.0, digits.1, digits.2) (omega arith);
    }

-- the day after has the next number
pub day_number-next : (date : ℕ) → IsDay date → day_number (next_day date) ≡ day_number date + 1
day_number-next date h =
    elim (cases_lt (day_of date) (days_in_month (year_of date) (month_of date))) [
      | inl before ↦ ap day_number (next-same_month date before) ∙ day_number-same_month date h before
      | inr last ↦ elim (cases_lt (month_of date) 12) [
        | inl early ↦ ap day_number (next-next_month date last early) ∙ day_number-next_month date h last early
        | inr late ↦ ap day_number (next-next_year date last late) ∙ day_number-next_year date h last late
      ]
    ]

not_last : (date : ℕ) → IsDay date → days_in_month (year_of date) (month_of date) ≤ day_of date → 12 ≤ month_of date → date < 99991231 → year_of date + 1 < 10_000
not_last date h last late early =
    let december : month_of date ≡ 12 = omega (arith, h.last_month) in
    let long : days_in_month (year_of date) (month_of date) ≡ 31 = rw december refl in
    omega (arith, long)

-- and is a day of the calendar, whose last is 31 December 9999
pub IsDay-next : (date : ℕ) → IsDay date → date < 99991231 → IsDay (next_day date)
IsDay-next date h early =
    let year : year_of date < 10_000 = h.year in
    elim (cases_lt (day_of date) (days_in_month (year_of date) (month_of date))) [
      | inl before ↦ subst IsDay (sym (next-same_month date before)) (is_day-same_month date h before)
      | inr last ↦ elim (cases_lt (month_of date) 12) [
        | inl month ↦ subst IsDay (sym (next-next_month date last month)) (first-is_day (year_of date) (month_of date + 1) year (omega arith) (omega arith))
        | inr late ↦ subst IsDay (sym (next-next_year date last late)) (first-is_day (year_of date + 1) 1 (not_last date h last late early) (omega arith) (omega arith))
      ]
    ]

-- a year ends before the next begins
days_before_year-lt : (year later : ℕ) → year < later → days_before_year (year + 1) ≤ days_before_year later
days_before_year-lt year later h = omega arith

-- a month ends before the next begins
days_before_month-lt : (year month more : ℕ) → 1 ≤ month → month + more < 12 → days_before_month year month + days_in_month year month ≤ days_before_month year (month + more + 1)
days_before_month-lt year month zero first last =
    let same : month - 1 + 1 ≡ month = omega arith in
    let next : month - 1 + 2 ≡ month + 0 + 1 = omega arith in
    let step = rw (same, next) at (days_before_month-suc year (month - 1) (omega arith)) in
    omega (arith, step)
days_before_month-lt year month (suc more) first last =
    let same : month + more - 1 + 1 ≡ month + more = omega arith in
    let here : month + more + 1 ≡ month + suc more = omega arith in
    let next : month + more + 2 ≡ month + suc more + 1 = omega arith in
    let step = rw next at (days_before_month-suc year (month + more) (omega arith)) in
    omega (arith, step, days_before_month-lt year month more first (omega arith))

-- a date of an earlier year, or an earlier month of the year, or an earlier day of the month, has a lower number
lt-by_year : (a b : ℕ) → IsDay a → IsDay b → year_of a < year_of b → day_number a < day_number b
unfolding day_number
lt-by_year a b day later h =
    let first : 1 ≤ month_of a = day.first_month in
    let last : month_of a ≤ 12 = day.last_month in
    let lowest : 1 ≤ day_of a = day.first_day in
    let same : month_of a - 1 + 1 ≡ month_of a = omega arith in
    let month = rw same at (days_before_month_bound (year_of a) (month_of a - 1) (omega arith)) in
    omega (arith, month, days_before_year-suc (year_of a), days_before_year-lt (year_of a) (year_of b) h, day.last_day)

lt-by_month : (a b : ℕ) → IsDay a → IsDay b → year_of a ≡ year_of b → month_of a < month_of b → day_number a < day_number b
unfolding day_number
lt-by_month a b day later year h =
    let first : 1 ≤ month_of a = day.first_month in
    let last : month_of b ≤ 12 = later.last_month in
    let lowest : 1 ≤ day_of a = day.first_day in
    let same : month_of a + (month_of b - month_of a - 1) + 1 ≡ month_of b = omega arith in
    let month = rw same at (days_before_month-lt (year_of a) (month_of a) (month_of b - month_of a - 1) first (omega arith)) in
    omega (arith, month, ap days_before_year year, ap (λ y. days_before_month y (month_of b)) year, day.last_day)

lt-by_day : (a b : ℕ) → IsDay a → year_of a ≡ year_of b → month_of a ≡ month_of b → day_of a < day_of b → day_number a < day_number b
unfolding day_number
lt-by_day a b day year month h =
    let lowest : 1 ≤ day_of a = day.first_day in
    omega (arith, ap days_before_year year, ap (λ y. days_before_month y (month_of a)) year, ap (λ m. days_before_month (year_of b) m) month)

-- dates go as their numbers
pub day_number-lt : (a b : ℕ) → IsDay a → IsDay b → a < b → day_number a < day_number b
day_number-lt a b day later h =
    elim (cases_order (year_of a) (year_of b)) [
      | inr (inl lt) ↦ lt-by_year a b day later lt
      | inr (inr gt) ↦ absurd (omega arith)
      | inl year ↦ elim (cases_order (month_of a) (month_of b)) [
        | inr (inl lt) ↦ lt-by_month a b day later year lt
        | inr (inr gt) ↦ absurd (omega arith)
        | inl month ↦ lt-by_day a b day year month (omega arith)
      ]
    ]

-- a number has one date
pub day_number-injective : (a b : ℕ) → IsDay a → IsDay b → day_number a ≡ day_number b → a ≡ b
day_number-injective a b first second e =
    elim (cases_order a b) [
      | inl same ↦ same
      | inr (inl lt) ↦ absurd (omega (arith, day_number-lt a b first second lt))
      | inr (inr gt) ↦ absurd (omega (arith, day_number-lt b a second first gt))
    ]

-- the last day of the calendar
last-is_day : IsDay 99991231
unfolding is_day
last-is_day = IsDay-is_day 99991231 refl

last-number : day_number 99991231 ≡ 3_652_424
unfolding day_number
last-number = refl

-- and no date is later
at_most_last : (date : ℕ) → IsDay date → date ≤ 99991231
at_most_last date day =
    let few : days_in_month (year_of date) (month_of date) ≤ 31 = grind arith in
    omega (arith, day.last_day, few)

-- no date has a higher number
pub day_number_last : (date : ℕ) → IsDay date → day_number date ≤ 3_652_424
day_number_last date day =
    elim (cases_order date 99991231) [
      | inl same ↦ omega (arith, ap day_number same, last-number)
      | inr (inl lt) ↦ omega (arith, day_number-lt date 99991231 day last-is_day lt, last-number)
      | inr (inr gt) ↦ absurd (omega (arith, at_most_last date day))
    ]

-- a lower number is that of an earlier date
pub before_last : (date : ℕ) → IsDay date → day_number date < 3_652_424 → date < 99991231
before_last date day h =
    elim (cases_order date 99991231) [
      | inl same ↦ absurd (omega (arith, ap day_number same, last-number))
      | inr (inl lt) ↦ lt
      | inr (inr gt) ↦ absurd (omega (arith, at_most_last date day))
    ]

-- so many days after a date, within the calendar, comes a date whose number is so much higher
pub date_plus-number : (first days : ℕ) → IsDay first → day_number first + days ≤ 3_652_424
    → IsDay (date_plus first days) × (day_number (date_plus first days) ≡ day_number first + days)
unfolding date_plus
date_plus-number first zero day h = (day, omega arith)
date_plus-number first (suc days) day h =
    let before = date_plus-number first days day (omega arith) in
    let early = before_last (date_plus first days) before.0 (omega (arith, before.1)) in
    (IsDay-next (date_plus first days) before.0 early, omega (arith, day_number-next (date_plus first days) before.0, before.1))

-- and it is the only such date
pub date_plus-is : (first days date : ℕ) → IsDay first → IsDay date → day_number date ≡ day_number first + days → date_plus first days ≡ date
unfolding date_plus
date_plus-is first days date day other e =
    let made = date_plus-number first days day (omega (arith, e, day_number_last date other)) in
    day_number-injective (date_plus first days) date made.0 other (made.1 ∙ sym e)

-- the last day of 2999 and the day 400 days later
window-is_day : IsDay 29991231 × IsDay 30010204
unfolding is_day
window-is_day = (IsDay-is_day 29991231 refl, IsDay-is_day 30010204 refl)

window-numbers : (day_number 29991231 ≡ 1_095_727) × (day_number 30010204 ≡ 1_096_127)
unfolding day_number
window-numbers = (refl, refl)

number_before : (date : ℕ) → IsDay date → date ≤ 29991231 → day_number date ≤ 1_095_727
number_before date day h =
    elim (cases_order date 29991231) [
      | inl same ↦ omega (arith, ap day_number same, window-numbers.0)
      | inr (inl lt) ↦ omega (arith, day_number-lt date 29991231 day window-is_day.0 lt, window-numbers.0)
      | inr (inr gt) ↦ absurd (omega arith)
    ]

not_later : (date : ℕ) → IsDay date → day_number date ≤ 1_096_127 → date ≤ 30010204
not_later date day h =
    elim (cases_lt 30010204 date) [
      | inl lt ↦ absurd (omega (arith, day_number-lt 30010204 date window-is_day.1 day lt, window-numbers.1))
      | inr le ↦ le
    ]

-- a window that begins by the end of 2999 ends by the year 3001
pub date_plus-window : (first days : ℕ) → IsDay first → first ≤ 29991231 → days ≤ 400 → IsDay (date_plus first days) × (date_plus first days ≤ 30010204)
date_plus-window first days day h few =
    let bound : day_number first ≤ 1_095_727 = number_before first day h in
    let made = date_plus-number first days day (omega arith) in
    (made.0, not_later (date_plus first days) made.0 (omega (arith, made.1)))
