-- Rows in groups, as the loader's contracts see them.
use Rattle.std.specs.Prelude.{◌≡◌, ℕ, List, map, Result, Ok, Err, Vec}
use Rattle.std.specs.declared.alloc.Global.{Global}
use Rattle.std.specs.declared.collections.BTreeMap.{BTreeMap}
use Rattle.gtfs_rows.specs.declared.rows.ExceptionRow.{ExceptionRow}
use Rattle.service_day.specs.declared.services.Exception.{Exception}
use Rattle.sched_load_defs.specs.declared.fault.LoadFault.{LoadFault}
use Rattle.row_tables.specs.Alone.{RefusesAlone}
use Rattle.sched_load.specs.Listed.{entries_of, group_of}

-- a file's rows that are consistent, with the entries of their groups, or the first fault
abbrev pub Groups : {R V : Type 0} → Result (List R) LoadFault → List R → List (List (ℕ × V))
    → Result (Vec (BTreeMap ℕ V Global) Global) LoadFault → Type 0
Groups told rows groups (Ok maps) = (told ≡ Ok rows) × (entries_of maps.items ≡ groups)
Groups told rows groups (Err e) = RefusesAlone told e

-- a row of calendar_dates.txt
abbrev pub exception_of : ExceptionRow → Exception
exception_of row = record { date = row.date; kind = row.exception_type }

-- the exceptions of each service by rising dates
abbrev pub exceptions_of : List (List ℕ) → List ExceptionRow → List (List (ℕ × Exception))
exceptions_of services rows =
    map (λ id. group_of (λ row. row.service_id)
    (λ exception. exception.date) exception_of rows id) services
