-- On which days a service runs: GTFS Schedule, calendar.txt and calendar_dates.txt.
use Rattle.std.specs.Prelude.{ℕ, Bool, ◌&&◌, ◌==◌, nat_le, List, find, Option, Some, None}
use Rattle.std.specs.Int.{bit_at}
use Rattle.text_defs.specs.Dates.{weekday}
use Rattle.service_day.specs.declared.services.Exception.{Exception}

-- the exception for the date, the first if the list has several
abbrev pub exception_on : ℕ → List Exception → Option Exception
exception_on date exceptions = find (λ exception. exception.date == date) exceptions

-- the row of calendar.txt has the date: its flag of that weekday, Monday's the lowest bit, is set,
-- and the date lies from start_date to end_date, both included
abbrev pub is_regular : ℕ → ℕ → ℕ → ℕ → Bool
is_regular flags start end date =
    (bit_at flags (weekday date) == 1) && (nat_le start date && nat_le date end)

-- an exception adds the service with exception_type 1 and removes it with 2; without one the
-- regular answer stands
abbrev pub is_active_by : Option Exception → Bool → Bool
is_active_by None regular = regular
is_active_by (Some exception) regular = exception.kind == 1

-- the service runs on the date
unfoldable pub is_active : ℕ → ℕ → ℕ → List Exception → ℕ → Bool
is_active flags start end exceptions date =
    is_active_by (exception_on date exceptions) (is_regular flags start end date)
