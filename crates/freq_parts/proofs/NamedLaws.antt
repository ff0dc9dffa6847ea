-- The ids that rows name.
use Rattle.std.proofs.Common.{◌≡◌, ℕ, ◌||◌, List, [], ◌∷◌, map, refl, ap}
use Rattle.std.specs.Str.{bytes_eq}
use Rattle.gtfs_rows.specs.declared.rows.FrequencyRow.{FrequencyRow}
use Rattle.freq_runs.specs.Faults.{has_id}
use Rattle.sched_load_defs.specs.References.{has_id as names_id}

-- an id is among them where a row names it
pub named_by : (rows : List FrequencyRow) (id : List ℕ) → has_id (map (λ row. row.trip_id) rows) id ≡ names_id (λ row. row.trip_id) rows id
named_by [] id = refl
named_by (row ∷ rows) id = ap (λ more. bytes_eq row.trip_id id || more) (named_by rows id)
