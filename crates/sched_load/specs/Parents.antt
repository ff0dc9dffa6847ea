-- A check of rows that changes none.
use Rattle.std.specs.Prelude.{◌≡◌, List, Result, Ok, Err}
use Rattle.sched_load_defs.specs.declared.fault.LoadFault.{LoadFault}
use Rattle.row_tables.specs.Alone.{RefusesAlone}

-- the rows pass, or have this fault
abbrev pub Checks : {R : Type 0} → Result (List R) LoadFault → List R → Result (Unit {0}) LoadFault
    → Type 0
Checks told rows (Ok _) = told ≡ Ok rows
Checks told rows (Err e) = RefusesAlone told e
