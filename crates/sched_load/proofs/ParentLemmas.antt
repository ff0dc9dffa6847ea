-- The stops whose parent_station is a stop, one after another.
use Rattle.std.proofs.Common.{◌≡◌, ℕ, ◌+◌, Bool, true, false, ◌||◌, List, [], ap, ◌∙◌}
use Rattle.std.specs.Prelude.{slice_get, Some, None, bytes_eq, Err, if◌then◌else◌}
use Rattle.answer_defs.specs.Steps.{unless}
use Rattle.gtfs_rows.specs.declared.column.Column.TheVariants as column
use Rattle.gtfs_rows.specs.declared.rows.StopRow.{StopRow}
use Rattle.sched_load_defs.specs.declared.fault.File.TheVariants as file
use Rattle.sched_load_defs.specs.declared.fault.LoadFault.TheVariants as fault
use Rattle.sched_load_defs.specs.References.{parent_fault, with_parents, has_id, row_at}
use Rattle.row_tables.proofs.Faults.{faults_from, fault_at, fault_behind}

module _ (rows : List StopRow) (n : ℕ) where
  parent_is : (row : StopRow) (fine : Bool) → (bytes_eq row.parent_station [] || has_id (λ stop. stop.stop_id) rows row.parent_station) ≡ fine
      → parent_fault rows (n, row) ≡ (if fine then None else Some (fault.UnknownRef file.Stops (row_at n) column.ParentStation))
  parent_is row fine e = ap (λ b. if b then None else Some (fault.UnknownRef file.Stops (row_at n) column.ParentStation)) e

  pub no_parent : (row : StopRow) → faults_from (parent_fault rows) rows 0 ≡ faults_from (parent_fault rows) rows n → slice_get rows n ≡ Some row → (bytes_eq row.parent_station [] || has_id (λ stop. stop.stop_id) rows row.parent_station) ≡ false
      → with_parents rows ≡ Err (fault.UnknownRef file.Stops (row_at n) column.ParentStation)
  no_parent row told at e = ap (λ o. unless o rows) (told ∙ fault_at (parent_fault rows) rows n row _ at (parent_is row false e))

  pub parents_more : (row : StopRow) → faults_from (parent_fault rows) rows 0 ≡ faults_from (parent_fault rows) rows n → slice_get rows n ≡ Some row → (bytes_eq row.parent_station [] || has_id (λ stop. stop.stop_id) rows row.parent_station) ≡ true
      → faults_from (parent_fault rows) rows 0 ≡ faults_from (parent_fault rows) rows (n + 1)
  parents_more row told at e = told ∙ fault_behind (parent_fault rows) rows n row at (parent_is row true e)
