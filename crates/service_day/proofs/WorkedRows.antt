-- Rows of the definitions, computed: days of the calendar, days of services, and bases of service days.
use Rattle.std.specs.Prelude.{◌≡◌, pos, negsuc, true, false, [], ◌∷◌, map, refl, codes, Some, None}
use Rattle.jiff.proofs.OnLiterals.{jiff_on_literals}
use Rattle.text_defs.specs.Dates.{is_day, day_number, epoch_day, weekday, next_day}
use Rattle.service_day.specs.Service.{is_active}
use Rattle.service_day.specs.Zone.{base_of, base_in, rule_of}

-- 29 February is a day of every fourth year, but of 2000 and not of 1900 and 2100
pub days : map is_day (20240229 ∷ 20250229 ∷ 20000229 ∷ 19000229 ∷ 21000229 ∷ 20250431 ∷ 20251231 ∷ 20251301 ∷ 20250100 ∷ 20250001 ∷ 1012025 ∷ 100000101 ∷ [])
    ≡ true ∷ false ∷ true ∷ false ∷ false ∷ false ∷ true ∷ false ∷ false ∷ false ∷ false ∷ false ∷ []
unfolding is_day
days = refl

-- POSIX's epoch begins on 1 January 1970, and its day 20000 is 4 October 2024
pub numbers : map epoch_day (19700101 ∷ 19691231 ∷ 20241004 ∷ 20250330 ∷ []) ≡ pos 0 ∷ negsuc 0 ∷ pos 20_000 ∷ pos 20_177 ∷ []
unfolding day_number
numbers = refl

-- a Sunday, a Monday, a Wednesday and a Tuesday
pub weekdays : map weekday (20250330 ∷ 19000101 ∷ 30010204 ∷ 20000229 ∷ []) ≡ 6 ∷ 0 ∷ 2 ∷ 1 ∷ []
unfolding day_number
weekdays = refl

-- the ends of a month, a February and a year
pub next_days : map next_day (20250330 ∷ 20250331 ∷ 20240228 ∷ 20240229 ∷ 20250228 ∷ 20251231 ∷ []) ≡ 20250331 ∷ 20250401 ∷ 20240229 ∷ 20240301 ∷ 20250301 ∷ 20260101 ∷ []
unfolding next_day
next_days = refl

-- a service of Sundays in 2025: on a Sunday and its ends, on another day, past its end, added and removed
pub services : map (is_active 64 20250105 20250330 (record { date = 20250401; kind = 1 } ∷ record { date = 20250323; kind = 2 } ∷ []))
    (20250105 ∷ 20250330 ∷ 20250329 ∷ 20250406 ∷ 20250401 ∷ 20250323 ∷ [])
    ≡ true ∷ true ∷ false ∷ false ∷ true ∷ false ∷ []
unfolding is_active day_number
services = refl

-- in Berlin the clock goes forward on 30 March 2025: that day's times are counted from 23:00 of the day before
pub forward : base_in (codes "CET-1CEST,M3.5.0,M10.5.0/3") 20250330 ≡ Some (pos 1_743_285_600)
unfolding jiff_on_literals base_of day_number
forward = refl

-- and back on 26 October: they are counted from 1:00
pub back : base_in (codes "CET-1CEST,M3.5.0,M10.5.0/3") 20251026 ≡ Some (pos 1_761_433_200)
unfolding jiff_on_literals base_of day_number
back = refl

-- where the clock is turned at noon, from 12:00 to 13:00 or back, the offset before the change counts
pub at_noon : map (base_in (codes "CET-1CEST,M3.5.0/12,M10.5.0/13")) (20250330 ∷ 20251026 ∷ []) ≡ Some (pos 1_743_289_200) ∷ Some (pos 1_761_429_600) ∷ []
unfolding jiff_on_literals base_of day_number
at_noon = refl

-- no rule: nothing, names of zones, daylight saving time with no days, and what stands round a rule
pub refused : map rule_of ([] ∷ codes "UTC" ∷ codes "Europe/Berlin" ∷ codes "CET-1CEST" ∷ codes ":UTC0" ∷ codes "UTC0 " ∷ [])
    ≡ None ∷ None ∷ None ∷ None ∷ None ∷ None ∷ []
unfolding jiff_on_literals
refused = refl
