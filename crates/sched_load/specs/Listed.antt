-- How the loader holds rows, as its contracts see it.
use Rattle.std.specs.Prelude.{◌≡◌, ℕ, Bool, bytes_eq, List, [], map, filter, slice_get, slice_set, Option, Some, None, is_none, unwrap_or, Result, Ok, Err, Vec, if◌then◌else◌}
use Rattle.std.specs.declared.alloc.Global.{Global}
use Rattle.std.specs.Borrow.{Bor}
use Rattle.std.specs.declared.collections.BTreeMap.{BTreeMap}
use Rattle.std.specs.FinMap.Entries.{put, find}
use Rattle.std.specs.Ordering.{nat_cmp}
use Rattle.gtfs_rows.specs.Tables.{Columns}
use Rattle.gtfs_rows.specs.declared.rows.StopTimeRow.{StopTimeRow}
use Rattle.gtfs_rows.specs.declared.rows.StopRow.{StopRow}
use Rattle.gtfs_rows.specs.declared.rows.TripRow.{TripRow}
use Rattle.sched_load_defs.specs.declared.fault.File.{File}
use Rattle.sched_load_defs.specs.declared.fault.LoadFault.{LoadFault}
use Rattle.sched_load_defs.specs.Files.{required_rows, optional_rows}
use Rattle.sched_load_defs.specs.Numbers.{by_id, rows_with_keys, known_number}
use Rattle.sched_load_defs.specs.Times.{Times}
use Rattle.sched_load.specs.declared.visits.Stay.{Stay}
use Rattle.sched_load.specs.declared.visits.Visit.{Visit}
use Rattle.row_tables.specs.Alone.{RefusesAlone}

-- the rows of a file that must or may be there, of which the bytes are given if there are any
abbrev pub file_rows : {R : Type 0} → Bool → File → Columns R → Option (List ℕ)
    → Result (List R) LoadFault
file_rows required name columns bytes = if required then required_rows name columns bytes
    else optional_rows name columns bytes

-- an empty time takes the other time of its row
abbrev pub stay_of : Option ℕ → Option ℕ → Option Stay
stay_of (Some arrival) (Some departure) = Some (record { arrival = arrival; departure = departure })
stay_of (Some arrival) None = Some (record { arrival = arrival; departure = arrival })
stay_of None (Some departure) = Some (record { arrival = departure; departure = departure })
stay_of None None = None

-- the same as the definitions have it
abbrev pub times_seen : Option Stay → Option Times
times_seen None = None
times_seen (Some stay) = Some (record { arrival = stay.arrival; departure = stay.departure })

-- a row of stop_times.txt, of which the trip and the stop are given by their numbers
abbrev pub visit_of : List TripRow → List StopRow → StopTimeRow → Visit
visit_of trips stops row = record {
  trip = known_number (λ trip. trip.trip_id) (by_id (λ trip. trip.trip_id) trips) row.trip_id;
  stop = known_number (λ stop. stop.stop_id) (by_id (λ stop. stop.stop_id) stops) row.stop_id;
  sequence = row.stop_sequence;
  stay = stay_of row.arrival_time row.departure_time;
  pickup = unwrap_or row.pickup_type 0;
}

-- the rows of a group, by rising keys
abbrev pub group_of : {R V : Type 0} → (R → List ℕ) → (V → ℕ) → (R → V) → List R → List ℕ
    → List (ℕ × V)
group_of id_of key value rows id =
    rows_with_keys nat_cmp key (map value (filter (λ row. bytes_eq (id_of row) id) rows))

-- the entries of maps
abbrev pub entries_of : {V : Type 0} → List (BTreeMap ℕ V Global) → List (List (ℕ × V))
entries_of maps = map (λ m. m.entries) maps

-- what stands under a key in one of many maps
abbrev pub entry_in : {V : Type 0} → List (List (ℕ × V)) → ℕ → ℕ → Option V
entry_in maps number key = find nat_cmp key (unwrap_or (slice_get maps number) [])

-- a value stands under a key in one of the maps, where nothing stood before
abbrev pub PutsNew : {V : Type 0} → List (List (ℕ × V)) → List (List (ℕ × V)) → ℕ → ℕ → V → Bool
    → Type 0
PutsNew before after number key value fresh =
    (fresh ≡ is_none (entry_in before number key))
    × (after ≡ slice_set before number
    (put nat_cmp key value (unwrap_or (slice_get before number) [])))
