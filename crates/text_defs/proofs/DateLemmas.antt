-- The day numbers of neighbouring days.
use Rattle.std.proofs.Common.{◌≡◌, ℕ, zero, suc, ◌+◌, ◌-◌, ◌<◌, ◌≤◌, true, cond, refl, sym, ap, ◌∙◌, arith}
use Rattle.std.proofs.lemmas.Bool.Decides.{nat_tests}
use Rattle.text_defs.specs.Dates.{year_of, month_of, day_of, date_of, is_leap_year, days_in_month, is_day, days_before_year, days_before_month, day_number}

-- 1 for a leap year, and else 0
abbrev pub leap_day : ℕ → ℕ
leap_day year = cond (is_leap_year year) 1 0

-- what a valid date's digits are
pub record IsDay (date : ℕ) : Type 0 where
  pub year : year_of date < 10_000
  pub first_month : 1 ≤ month_of date
  pub last_month : month_of date ≤ 12
  pub first_day : 1 ≤ day_of date
  pub last_day : day_of date ≤ days_in_month (year_of date) (month_of date)

pub IsDay-is_day : (date : ℕ) → is_day date ≡ true → IsDay date
unfolding is_day
IsDay-is_day date h = record {
  year = grind (arith, nat_tests);
  first_month = grind (arith, nat_tests);
  last_month = grind (arith, nat_tests);
  first_day = grind (arith, nat_tests);
  last_day = grind (arith, nat_tests);
}

pub is_day-IsDay : (date : ℕ) → IsDay date → is_day date ≡ true
unfolding is_day
is_day-IsDay date h = grind (arith, nat_tests)

-- a year is 365 days, or 366
pub days_before_year-suc : (year : ℕ) → days_before_year (year + 1) ≡ days_before_year year + 365 + leap_day year
days_before_year-suc year = grind (arith, nat_tests)

-- the days before a month are those before the month before, and its own
pub days_before_month-suc : (year month : ℕ) → month < 11 → days_before_month year (month + 2) ≡ days_before_month year (month + 1) + days_in_month year (month + 1)
days_before_month-suc year zero h = grind arith
days_before_month-suc year (suc zero) h = grind arith
days_before_month-suc year (suc (suc zero)) h = grind arith
days_before_month-suc year (suc (suc (suc zero))) h = grind arith
days_before_month-suc year (suc (suc (suc (suc zero)))) h = grind arith
days_before_month-suc year (suc (suc (suc (suc (suc zero))))) h = grind arith
days_before_month-suc year (suc (suc (suc (suc (suc (suc zero)))))) h = grind arith
days_before_month-suc year (suc (suc (suc (suc (suc (suc (suc zero))))))) h = grind arith
days_before_month-suc year (suc (suc (suc (suc (suc (suc (suc (suc zero)))))))) h = grind arith
days_before_month-suc year (suc (suc (suc (suc (suc (suc (suc (suc (suc zero))))))))) h = grind arith
days_before_month-suc year (suc (suc (suc (suc (suc (suc (suc (suc (suc (suc zero)))))))))) h = grind arith
days_before_month-suc year (suc (suc (suc (suc (suc (suc (suc (suc (suc (suc (suc month))))))))))) h = absurd (omega arith)

-- the last month begins 31 days before the year's end
pub days_before_month-last : (year : ℕ) → days_before_month year 12 + 31 ≡ 365 + leap_day year
days_before_month-last year = grind arith

-- no month begins later
pub days_before_month_bound : (year month : ℕ) → month < 12 → days_before_month year (month + 1) + days_in_month year (month + 1) ≤ 365 + leap_day year
days_before_month_bound year zero h = grind arith
days_before_month_bound year (suc zero) h = grind arith
days_before_month_bound year (suc (suc zero)) h = grind arith
days_before_month_bound year (suc (suc (suc zero))) h = grind arith
days_before_month_bound year (suc (suc (suc (suc zero)))) h = grind arith
days_before_month_bound year (suc (suc (suc (suc (suc zero))))) h = grind arith
days_before_month_bound year (suc (suc (suc (suc (suc (suc zero)))))) h = grind arith
days_before_month_bound year (suc (suc (suc (suc (suc (suc (suc zero))))))) h = grind arith
days_before_month_bound year (suc (suc (suc (suc (suc (suc (suc (suc zero)))))))) h = grind arith
days_before_month_bound year (suc (suc (suc (suc (suc (suc (suc (suc (suc zero))))))))) h = grind arith
days_before_month_bound year (suc (suc (suc (suc (suc (suc (suc (suc (suc (suc zero)))))))))) h = grind arith
days_before_month_bound year (suc (suc (suc (suc (suc (suc (suc (suc (suc (suc (suc zero))))))))))) h = grind arith
days_before_month_bound year (suc (suc (suc (suc (suc (suc (suc (suc (suc (suc (suc (suc month)))))))))))) h = absurd (omega arith)

-- the digits of the date after, in the same month
pub digits-next : (date : ℕ) → day_of date < 99 → (year_of (date + 1) ≡ year_of date) × (month_of (date + 1) ≡ month_of date) × (day_of (date + 1) ≡ day_of date + 1)
digits-next date h = (omega arith, omega arith, omega arith)

-- the digits that a date is made of
pub digits-date_of : (year month day : ℕ) → month < 100 → day < 100 → (year_of (date_of year month day) ≡ year) × (month_of (date_of year month day) ≡ month) × (day_of (date_of year month day) ≡ day)
digits-date_of year month day m d = (omega arith, omega arith, omega arith)

-- a date's number is that of its digits
abbrev number : ℕ → ℕ → ℕ → ℕ
number year month day = days_before_year year + days_before_month year month + (day - 1)

number-is : (date year month day : ℕ) → (year_of date ≡ year) × (month_of date ≡ month) × (day_of date ≡ day) → day_number date ≡ number year month day
unfolding day_number
number-is date year month day (y, m, d) =
    ap (λ v. days_before_year v + days_before_month v (month_of date) + (day_of date - 1)) y
    ∙ ap (λ v. days_before_year year + days_before_month year v + (day_of date - 1)) m
    ∙ ap (λ v. days_before_year year + days_before_month year month + (v - 1)) d

-- within a month
pub day_number-same_month : (date : ℕ) → IsDay date → day_of date < days_in_month (year_of date) (month_of date) → day_number (date + 1) ≡ day_number date + 1
unfolding day_number
day_number-same_month date h below =
    let few : days_in_month (year_of date) (month_of date) ≤ 31 = grind arith in
    let digits = digits-next date (omega arith) in
    let first : 1 ≤ day_of date = h.first_day in
    let e : day_number (date + 1) ≡ number (year_of date) (month_of date) (day_of date + 1) = number-is (date + 1) _ _ _ digits in
    let k : number (year_of date) (month_of date) (day_of date + 1) ≡ day_number date + 1 = omega arith in
    e ∙ k

pub is_day-same_month : (date : ℕ) → IsDay date → day_of date < days_in_month (year_of date) (month_of date) → IsDay (date + 1)
is_day-same_month date h below =
    let few : days_in_month (year_of date) (month_of date) ≤ 31 = grind arith in
    let digits = digits-next date (omega arith) in
    record {
      year = rw digits.0 h.year;
      first_month = rw digits.1 h.first_month;
      last_month = rw digits.1 h.last_month;
      first_day = omega (arith, digits.2);
      last_day = rw (digits.0, digits.1, digits.2) (omega arith);
    }

-- from a month to the next
pub day_number-next_month : (date : ℕ) → IsDay date → days_in_month (year_of date) (month_of date) ≤ day_of date → month_of date < 12 → day_number (date_of (year_of date) (month_of date + 1) 1) ≡ day_number date + 1
unfolding day_number
day_number-next_month date h last early =
    let first : 1 ≤ month_of date = h.first_month in
    let lowest : 1 ≤ day_of date = h.first_day in
    let all : day_of date ≡ days_in_month (year_of date) (month_of date) = omega (arith, h.last_day) in
    let e = number-is (date_of (year_of date) (month_of date + 1) 1) _ _ _ (digits-date_of (year_of date) (month_of date + 1) 1 (omega arith) (omega arith)) in
    let same : month_of date - 1 + 1 ≡ month_of date = omega arith in
    let more : month_of date - 1 + 2 ≡ month_of date + 1 = omega arith in
    let step = rw (same, more) at (days_before_month-suc (year_of date) (month_of date - 1) (omega arith)) in
    e ∙ omega (arith, step)

-- from a year to the next
pub day_number-next_year : (date : ℕ) → IsDay date → days_in_month (year_of date) (month_of date) ≤ day_of date → 12 ≤ month_of date → day_number (date_of (year_of date + 1) 1 1) ≡ day_number date + 1
unfolding day_number
day_number-next_year date h last late =
    let lowest : 1 ≤ day_of date = h.first_day in
    let december : month_of date ≡ 12 = omega (arith, h.last_month) in
    let all : day_of date ≡ days_in_month (year_of date) (month_of date) = omega (arith, h.last_day) in
    let long : days_in_month (year_of date) (month_of date) ≡ 31 = rw december refl in
    let e = number-is (date_of (year_of date + 1) 1 1) _ _ _ (digits-date_of (year_of date + 1) 1 1 (omega arith) (omega arith)) in
    let f : day_number date ≡ number (year_of date) 12 31 = number-is date _ _ _ (refl, december, all ∙ long) in
    let k : number (year_of date + 1) 1 1 ≡ number (year_of date) 12 31 + 1 = omega (arith, days_before_year-suc (year_of date), days_before_month-last (year_of date)) in
    e ∙ (k ∙ ap (λ n. n + 1) (sym f))

-- the days of the first 3002 years
pub day_number_bound : (date : ℕ) → IsDay date → year_of date ≤ 3001 → day_number date ≤ 1_100_000
unfolding day_number
day_number_bound date h few =
    let first : 1 ≤ month_of date = h.first_month in
    let last : month_of date ≤ 12 = h.last_month in
    let same : month_of date - 1 + 1 ≡ month_of date = omega arith in
    let month = rw same at (days_before_month_bound (year_of date) (month_of date - 1) (omega arith)) in
    let leap : leap_day (year_of date) ≤ 1 = grind arith in
    omega (arith, month, leap, h.last_day)
