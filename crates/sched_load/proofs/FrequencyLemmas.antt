-- The rows of frequencies.txt whose trip_id is a trip's, one after another.
use Rattle.std.proofs.Common.{◌≡◌, ℕ, ◌+◌, ◌≤◌, Bool, false, List, [], ◌∷◌, length, take, refl}
use Rattle.std.specs.Prelude.{slice_get, Some, None, Err, Ok}
use Rattle.std.specs.List.{list_any}
use Rattle.gtfs_rows.specs.declared.column.Column.{Column}
use Rattle.gtfs_rows.specs.declared.rows.FrequencyRow.{FrequencyRow}
use Rattle.gtfs_rows.specs.declared.rows.TripRow.{TripRow}
use Rattle.sched_load_defs.specs.declared.fault.File.TheVariants as file
use Rattle.sched_load_defs.specs.declared.fault.LoadFault.TheVariants as fault
use Rattle.sched_load_defs.specs.References.{consistent_frequencies, row_at, unknown_in_frequency}
use Rattle.row_tables.proofs.Faults.{Judged, judged_all, judged_more, judged_start, judged_unknown}

-- no row is like another
abbrev none_alike : FrequencyRow → FrequencyRow → Bool
none_alike a b = false

none_of : (rows : List FrequencyRow) (row : FrequencyRow) → list_any (λ earlier. none_alike earlier row) rows ≡ false
none_of [] row = refl
none_of (other ∷ rows) row = none_of rows row

module _ (trips : List TripRow) (rows : List FrequencyRow) where
  -- what is told of all rows is what is told of those from a place on
  abbrev pub AreKnown : ℕ → Type 0
  AreKnown n = Judged file.Frequencies (unknown_in_frequency trips) none_alike rows n

  pub known_start : AreKnown 0
  known_start = judged_start file.Frequencies (unknown_in_frequency trips) none_alike rows

  pub known_not : (n : ℕ) (row : FrequencyRow) (column : Column) → AreKnown n → slice_get rows n ≡ Some row → unknown_in_frequency trips row ≡ Some column
      → consistent_frequencies trips rows ≡ Err (fault.UnknownRef file.Frequencies (row_at n) column)
  known_not n row column so_far at e = judged_unknown file.Frequencies (unknown_in_frequency trips) none_alike rows n row column so_far at e

  pub known_more : (n : ℕ) (row : FrequencyRow) → AreKnown n → slice_get rows n ≡ Some row → unknown_in_frequency trips row ≡ None → AreKnown (n + 1)
  known_more n row so_far at e = judged_more file.Frequencies (unknown_in_frequency trips) none_alike rows n row so_far at e (none_of (take n rows) row)

  pub known_all : (n : ℕ) → length rows ≤ n → AreKnown n → consistent_frequencies trips rows ≡ Ok rows
  known_all n h so_far = judged_all file.Frequencies (unknown_in_frequency trips) none_alike rows n h so_far
