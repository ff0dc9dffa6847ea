-- The stop times of all trips, trip by trip, as the loader holds them.
use Rattle.std.specs.Prelude.{◌≡◌, ℕ, ◌+◌, ◌*◌, ◌<◌, Bool, true, false, ◌&&◌, ◌==◌, List, length, map, take, filter, slice_get, Option, Some, None, Result, Ok, Err, IsPermutation, MatchBool, Vec}
use Rattle.std.specs.List.{list_any}
use Rattle.std.specs.List.Sorted.{IsNonDecreasingBy}
use Rattle.std.specs.Ordering.{nat_cmp}
use Rattle.std.specs.declared.alloc.Global.{Global}
use Rattle.answer_defs.specs.Defined.{IsCause}
use Rattle.gtfs_rows.specs.Files.{cause_of}
use Rattle.gtfs_rows.specs.Tables.{stop_times}
use Rattle.gtfs_rows.specs.declared.column.Column.{Column}
use Rattle.gtfs_rows.specs.declared.fault.RowFault.{RowFault}
use Rattle.gtfs_rows.specs.declared.rows.StopRow.{StopRow}
use Rattle.gtfs_rows.specs.declared.rows.TripRow.{TripRow}
use Rattle.gtfs_rows.specs.declared.rows.StopTimeRow.{StopTimeRow}
use Rattle.sched_load_defs.specs.declared.fault.File.TheVariants as file
use Rattle.sched_load_defs.specs.declared.fault.LoadFault.{LoadFault}
use Rattle.sched_load_defs.specs.Numbers.{rows_by_key}
use Rattle.sched_load_defs.specs.References.{consistent_stop_times, unknown_in_stop_time}
use Rattle.sched_load.specs.declared.visits.Visit.{Visit}
use Rattle.sched_load.specs.declared.visits.Gathered.{Gathered}
use Rattle.sched_load.specs.Answer.{AnswersFromFiles}
use Rattle.row_tables.specs.Alone.{RefusesAlone}
use Rattle.sched_load.specs.Listed.{file_rows, visit_of}

-- each element and each behind it are so
pub record Pairs {X : Type 0} (P : X → X → Type 0) (xs : List X) : Type 0 where
  pub at : (i j : ℕ) (x y : X) → i < j → slice_get xs i ≡ Some x → slice_get xs j ≡ Some y → P x y

-- the visits of each trip stand by rising stop_sequence
abbrev pub RisesByTrip : List Visit → Type 0
RisesByTrip visits = Pairs (λ v w. v.trip ≡ w.trip → v.sequence < w.sequence) visits

-- a number for each trip and stop_sequence
abbrev pub key_of : ℕ → ℕ → ℕ
key_of trip sequence = trip * 4294967296 + sequence

-- two visits have one trip and one stop_sequence
abbrev pub is_twin_visit : Visit → Visit → Bool
is_twin_visit v w = (v.trip == w.trip) && (v.sequence == w.sequence)

-- one of the first visits is a twin of this one
abbrev pub has_twin : List Visit → ℕ → Visit → Bool
has_twin visits n w = list_any (λ v. is_twin_visit v w) (take n visits)

-- none of the first visits has an earlier twin
pub record AreApart (visits : List Visit) (n : ℕ) : Type 0 where
  pub apart : (k : ℕ) (w : Visit) → k < n → slice_get visits k ≡ Some w → has_twin visits k w
      ≡ false

-- the first visit that has an earlier twin, if one has
abbrev pub FirstTwin : List Visit → Option ℕ → Type 0
FirstTwin visits None = AreApart visits (length visits)
FirstTwin visits (Some n) = AreApart visits n
    × ((w : Visit) × (slice_get visits n ≡ Some w) × (has_twin visits n w ≡ true))

-- the same elements by keys that don't fall, those of one key in the order that they had
pub record IsSortedStably {X : Type 0} (key : X → ℕ) (xs ys : List X) : Type 0 where
  pub same : IsPermutation xs ys
  pub sorted : IsNonDecreasingBy key ys
  pub stable : (x : X) → filter (λ y. key y == key x) ys ≡ filter (λ y. key y == key x) xs

-- visits by their stop_sequences, unless those of each trip rise
abbrev pub IsSortedUnless : Bool → List Visit → List Visit → Type 0
IsSortedUnless rises before after =
    MatchBool rises (after ≡ before) (IsSortedStably (λ v. v.sequence) before after)

-- visits trip by trip, those of a trip by rising stop_sequence
pub record AreArranged (gathered visits : List Visit) : Type 0 where
  pub same : IsPermutation gathered visits
  pub by_trip : IsNonDecreasingBy (λ v. v.trip) visits
  pub own : (trip : ℕ) → filter (λ v. v.trip == trip) visits
      ≡ rows_by_key nat_cmp (λ v. v.sequence) (filter (λ v. v.trip == trip) gathered)

-- where gathering ended: behind all rows, or at a row with this column unknown
abbrev pub EndsAt : List TripRow → List StopRow → List StopTimeRow → ℕ → Option Column → Type 0
EndsAt trips stops rows n None = n ≡ length rows
EndsAt trips stops rows n (Some column) =
    (row : StopTimeRow) × (slice_get rows n ≡ Some row)
    × (unknown_in_stop_time trips stops row ≡ Some column)

-- the visits of the rows up to the first that refers to nothing
pub record AreGathered (trips : List TripRow) (stops : List StopRow) (rows : List StopTimeRow)
    (visits : List Visit) (unknown : Option Column) : Type 0 where
  pub visits_of : visits ≡ map (visit_of trips stops) (take (length visits) rows)
  pub known : (i : ℕ) (row : StopTimeRow) → i < length visits → slice_get rows i ≡ Some row
      → unknown_in_stop_time trips stops row ≡ None
  pub end : EndsAt trips stops rows (length visits) unknown

-- what is gathered of rows that are defined, or their first fault
abbrev pub Gathers : List TripRow → List StopRow → Result (List StopTimeRow) RowFault
    → Result Gathered RowFault → Type 0
Gathers trips stops defined (Ok g) = (rows : List StopTimeRow) × (defined ≡ Ok rows)
    × AreGathered trips stops rows g.visits.items g.unknown
Gathers trips stops defined (Err e) = IsCause defined (cause_of e)

-- a visit of a row that refers to known rows, or the first column that doesn't
abbrev pub IsVisit : List TripRow → List StopRow → StopTimeRow → Result Visit Column → Type 0
IsVisit trips stops row (Ok visit) = (visit ≡ visit_of trips stops row)
    × (unknown_in_stop_time trips stops row ≡ None)
IsVisit trips stops row (Err column) = unknown_in_stop_time trips stops row ≡ Some column

-- rows that are there, or their first fault
abbrev pub Skips : Result (List StopTimeRow) RowFault → Result (Unit {0}) RowFault → Type 0
Skips defined (Ok _) = (rows : List StopTimeRow) × (defined ≡ Ok rows)
Skips defined (Err e) = IsCause defined (cause_of e)

-- what is gathered of a file that is read
abbrev pub ReadsVisits : List TripRow → List StopRow → Option (List (List ℕ × List ℕ))
    → (List (List ℕ × List ℕ) → Result (List StopTimeRow) LoadFault) → ℕ → ℕ
    → Result Gathered LoadFault → Type 0
ReadsVisits trips stops contents told before after (Ok g) =
    (rows : List StopTimeRow) × AnswersFromFiles contents told before after (Ok rows)
    × ((bytes : Option (List ℕ)) × (file_rows true file.StopTimes stop_times bytes ≡ Ok rows))
    × AreGathered trips stops rows g.visits.items g.unknown
ReadsVisits trips stops contents told before after (Err e) =
    AnswersFromFiles contents told before after (Err e)

-- the visits of rows that are consistent, trip by trip, or the first fault of the rows
abbrev pub Arranges : List TripRow → List StopRow → List StopTimeRow
    → Result (Vec Visit Global) LoadFault → Type 0
Arranges trips stops rows (Ok visits) =
    (consistent_stop_times trips stops rows ≡ Ok rows)
    × AreArranged (map (visit_of trips stops) rows) visits.items
Arranges trips stops rows (Err e) = RefusesAlone (consistent_stop_times trips stops rows) e
