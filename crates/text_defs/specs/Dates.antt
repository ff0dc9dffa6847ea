-- Days of the Gregorian calendar as GTFS Schedule writes them, "Field Types", Date: the number of
-- eight digits YYYYMMDD. The calendar is carried back to the year 0, as ISO 8601 does.
use Rattle.std.specs.Prelude.{ℕ, zero, suc, ◌+◌, ◌-◌, ◌*◌, ◌/◌, ◌%◌, Bool, not, ◌&&◌, ◌||◌, ◌==◌, nat_le, nat_lt, List, [], ◌∷◌, if◌then◌else◌, slice_index, ℤ, pos, ◌-ℤ◌, Option, Some, None}
use Rattle.std.specs.Option.{option_and_then}
use Rattle.text_defs.specs.Numbers.{digits}

-- the year that the first four digits write
abbrev pub year_of : ℕ → ℕ
year_of date = date / 10_000

-- the month that the next two digits write, from 1 for January
abbrev pub month_of : ℕ → ℕ
month_of date = date / 100 % 100

-- the day of the month that the last two digits write, from 1
abbrev pub day_of : ℕ → ℕ
day_of date = date % 100

-- the eight digits of a year, a month and a day
abbrev pub date_of : ℕ → ℕ → ℕ → ℕ
date_of year month day = year * 10_000 + month * 100 + day

-- every fourth year is a leap year, but of the years that end a century only every fourth
abbrev pub is_leap_year : ℕ → Bool
is_leap_year year = (year % 4 == 0) && (not (year % 100 == 0) || (year % 400 == 0))

-- thirty days have September, April, June and November, February has 28 or 29, and the others have
-- 31
abbrev pub days_in_month : ℕ → ℕ → ℕ
days_in_month year month =
    if month == 2 then (if is_leap_year year then 29 else 28)
    else (if (month == 4) || (month == 6) || (month == 9) || (month == 11) then 30 else 31)

-- the number writes a day that the calendar has, of a year up to 9999
unfoldable pub is_day : ℕ → Bool
is_day date =
    nat_lt (year_of date) 10_000
    && (nat_le 1 (month_of date) && nat_le (month_of date) 12)
    && (nat_le 1 (day_of date)
    && nat_le (day_of date) (days_in_month (year_of date) (month_of date)))

-- the days of the years before, from the year 0 on: 365 each, and one for each leap year among them
abbrev pub days_before_year : ℕ → ℕ
days_before_year year = 365 * year + (year + 3) / 4 - (year + 99) / 100 + (year + 399) / 400

-- the days of the year before the month begins
abbrev pub days_before_month : ℕ → ℕ → ℕ
days_before_month year month =
    slice_index (0 ∷ 31 ∷ 59 ∷ 90 ∷ 120 ∷ 151 ∷ 181 ∷ 212 ∷ 243 ∷ 273 ∷ 304 ∷ 334 ∷ []) (month - 1)
    + (if nat_lt 2 month && is_leap_year year then 1 else 0)

-- how many days lie between 1 January of the year 0 and the date
unfoldable pub day_number : ℕ → ℕ
day_number date =
    days_before_year (year_of date) + days_before_month (year_of date) (month_of date) +
    (day_of date - 1)

-- the same from 1 January 1970, which POSIX takes as the first day of its epoch
abbrev pub epoch_day : ℕ → ℤ
epoch_day date = pos (day_number date) -ℤ pos 719_528

-- the day of the week, from 0 for Monday; 1 January of the year 0 was a Saturday
abbrev pub weekday : ℕ → ℕ
weekday date = (day_number date + 5) % 7

-- the day after: in the same month, on the first of the next month, or on 1 January
unfoldable pub next_day : ℕ → ℕ
next_day date =
    if nat_lt (day_of date) (days_in_month (year_of date) (month_of date)) then date + 1
    else (if nat_lt (month_of date) 12 then date_of (year_of date) (month_of date + 1) 1
    else date_of (year_of date + 1) 1 1)

-- the date so many days after
unfoldable pub date_plus : ℕ → ℕ → ℕ
date_plus first zero = first
date_plus first (suc days) = next_day (date_plus first days)

-- the number, where it writes a day
abbrev pub day_or_none : ℕ → Option ℕ
day_or_none date = if is_day date then Some date else None

-- the date that eight digits YYYYMMDD write, where it is a day of the calendar
unfoldable pub date_in : List ℕ → Option ℕ
date_in bytes = option_and_then day_or_none (digits 8 8 bytes)
