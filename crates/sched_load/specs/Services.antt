-- The services that the loader gathers.
use Rattle.std.specs.Prelude.{ℕ, List, map, ◌++◌}
use Rattle.std.specs.Cmp.Lexicographic.{slice_cmp}
use Rattle.std.specs.Ordering.{nat_cmp}
use Rattle.gtfs_rows.specs.declared.rows.TripRow.{TripRow}
use Rattle.gtfs_rows.specs.declared.rows.CalendarRow.{CalendarRow}
use Rattle.gtfs_rows.specs.declared.rows.ExceptionRow.{ExceptionRow}
use Rattle.sched_load_defs.specs.Numbers.{by_id, rows_with_keys}

-- ids by rising bytes, each once
abbrev pub ids_gathered : List (List ℕ) → List (List ℕ × Unit {0})
ids_gathered ids = map (λ entry. (entry.0, tt)) (rows_with_keys (slice_cmp nat_cmp) (λ id. id) ids)

-- every service_id that a file names
abbrev pub services_of : List TripRow → List CalendarRow → List ExceptionRow → List (List ℕ)
services_of trips calendar exceptions =
    by_id (λ id. id) (map (λ row. row.service_id) trips ++ map (λ row. row.service_id) calendar
    ++ map (λ row. row.service_id) exceptions)
