-- How the rows of a file are held, as contracts see it.
use Rattle.std.specs.Prelude.{◌≡◌, ℕ, Bool, bytes_eq, List, map, slice_get, Some, Result, Ok, Err, Vec}
use Rattle.std.specs.declared.alloc.Global.{Global}
use Rattle.std.specs.Borrow.{Bor}
use Rattle.sched_load_defs.specs.declared.fault.LoadFault.{LoadFault}
use Rattle.sched_load_defs.specs.Numbers.{by_id}
use Rattle.row_tables.specs.Alone.{RefusesAlone}

-- two rows have one id
abbrev pub same_id : {R : Type 0} → (R → List ℕ) → R → R → Bool
same_id id_of a b = bytes_eq (id_of a) (id_of b)

-- places of rows: those of the rows by rising ids
pub record IsOrder {R : Type 0} (id_of : R → List ℕ) (rows : List R) (order : List ℕ) : Type 0 where
  pub rows_are : map (slice_get rows) order ≡ map (λ row. Some row) (by_id id_of rows)

-- a file's rows that are consistent, with their places by rising ids, or the first fault
abbrev pub Orders : {R : Type 0} → Result (List R) LoadFault → (R → List ℕ) → List R
    → Result (Vec ℕ Global) LoadFault → Type 0
Orders told id_of rows (Ok order) = (told ≡ Ok rows) × IsOrder id_of rows order.items
Orders told id_of rows (Err e) = RefusesAlone told e

-- the entries of a map whose keys are texts
abbrev pub texts_seen : {V : Type 0} → List (Bor (List ℕ) × V) → List (List ℕ × V)
texts_seen entries = map (λ entry. ((entry.0).now, entry.1)) entries
