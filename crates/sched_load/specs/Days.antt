-- Whether a service runs on a date, as the loader asks it.
use Rattle.std.specs.Prelude.{◌≡◌, ℕ, ℤ, ◌≤◌, ◌==◌, Bool, bytes_eq, List, [], filter, find, slice_get, Option, Some, None, ⊤}
use Rattle.std.specs.List.{range_with_len}
use Rattle.std.specs.Ordering.{nat_cmp}
use Rattle.std.specs.FinMap.Entries.{find as find_at}
use Rattle.text_defs.specs.Dates.{date_plus}
use Rattle.sched_types.specs.Timetable.{IsSmall}
use Rattle.gtfs_rows.specs.declared.rows.CalendarRow.{CalendarRow}
use Rattle.service_day.specs.declared.services.Exception.{Exception}
use Rattle.sched_load_defs.specs.Services.{flags_of, is_active_by}

-- the flags of a row are seven bits
abbrev pub Flagged : Option CalendarRow → Type 0
Flagged None = ⊤
Flagged (Some row) = flags_of row ≤ 127

-- the exception for the date decides, and else the week
abbrev pub runs_by : Option CalendarRow → Option Exception → ℕ → Bool
runs_by row None date = is_active_by row [] date
runs_by row (Some exception) date = exception.kind == 1

-- the days of a window on which a service with these exceptions is active
abbrev pub active_by : List CalendarRow → ℕ → ℕ → List ℕ × List (ℕ × Exception) → List ℕ
active_by calendar first days (service, exceptions) =
    filter (λ day. runs_by (find (λ row. bytes_eq row.service_id service) calendar)
    (find_at nat_cmp (date_plus first day) exceptions)
    (date_plus first day)) (range_with_len 0 days)

-- the bases of a window are small
abbrev pub EachSmall : List ℤ → Type 0
EachSmall bases = (i : ℕ) (seconds : ℤ) → slice_get bases i ≡ Some seconds → IsSmall seconds
