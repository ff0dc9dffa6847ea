-- The services of a dataset, and the days of the window on which each is active (GTFS Schedule,
-- calendar.txt and calendar_dates.txt).
use Rattle.std.specs.Prelude.{ℕ, ◌+◌, ◌*◌, Bool, bytes_eq, List, map, filter, find, Option, Some, None}
use Rattle.std.specs.List.{range_with_len}
use Rattle.gtfs_rows.specs.declared.rows.CalendarRow.{CalendarRow}
use Rattle.gtfs_rows.specs.declared.rows.ExceptionRow.{ExceptionRow}
use Rattle.text_defs.specs.Dates.{date_plus}
use Rattle.service_day.specs.Service.{is_active}
use Rattle.service_day.specs.declared.services.Exception.{Exception}

-- the weekdays on which a service runs, one bit each, Monday's the lowest
abbrev pub flags_of : CalendarRow → ℕ
flags_of row =
    row.monday + 2 * row.tuesday + 4 * row.wednesday + 8 * row.thursday + 16 * row.friday
    + 32 * row.saturday + 64 * row.sunday

-- a service's row of calendar.txt
abbrev pub calendar_of : List CalendarRow → List ℕ → Option CalendarRow
calendar_of rows service = find (λ row. bytes_eq row.service_id service) rows

-- the exceptions of a service, from its rows of calendar_dates.txt
abbrev pub exceptions_of : List ExceptionRow → List ℕ → List Exception
exceptions_of rows service =
    map (λ row. record { date = row.date; kind = row.exception_type })
    (filter (λ row. bytes_eq row.service_id service) rows)

-- the service is active on a date; without a row of calendar.txt it runs on no weekday
abbrev pub is_active_by : Option CalendarRow → List Exception → ℕ → Bool
is_active_by None exceptions date = is_active 0 0 0 exceptions date
is_active_by (Some row) exceptions date =
    is_active (flags_of row) row.start_date row.end_date exceptions date

-- the days of a window on which a service is active, by their numbers from 0
abbrev pub active_days : List CalendarRow → List ExceptionRow → ℕ → ℕ → List ℕ → List ℕ
active_days calendar exceptions first days service =
    filter (λ day. is_active_by (calendar_of calendar service) (exceptions_of exceptions service)
    (date_plus first day))
    (range_with_len 0 days)
