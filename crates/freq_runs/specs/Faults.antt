-- The first fault of the rows of frequencies.txt.
use Rattle.std.specs.Prelude.{ℕ, ◌+◌, nat_lt, Bool, false, ◌||◌, List, [], ◌∷◌, ◌++◌, length, map, sum_by, Option, Some, None, Result, if◌then◌else◌}
use Rattle.std.specs.List.{list_any, flat_map}
use Rattle.std.specs.Str.{bytes_eq}
use Rattle.answer_defs.specs.Choices.{or_else}
use Rattle.answer_defs.specs.Steps.{unless}
use Rattle.freq_runs.specs.declared.rows.Pattern.{Pattern}
use Rattle.freq_runs.specs.declared.rows.Frequency.{Frequency}
use Rattle.freq_runs.specs.declared.rows.Derived.{Derived}
use Rattle.freq_runs.specs.declared.fault.DeriveFault.{DeriveFault}
use Rattle.freq_runs.specs.declared.fault.DeriveFault.TheVariants.{TooMany, Duplicate, NoMemory}
use Rattle.freq_runs.specs.Trips.{trips_of}

-- how many places the derived trips may have in all
abbrev pub most_places : ℕ
most_places = 4_000_000

-- how many places trips have
abbrev pub places_in : List Derived → ℕ
places_in trips = sum_by (λ trip. length trip.times) trips

abbrev pub ids_of : List Derived → List (List ℕ)
ids_of trips = map (λ trip. trip.id) trips

-- the id is among these
abbrev pub has_id : List (List ℕ) → List ℕ → Bool
has_id ids id = list_any (λ other. bytes_eq other id) ids

-- one of the ids is among some that came before, or is there further on the left
abbrev pub comes_again : List (List ℕ) → List (List ℕ) → Bool
comes_again before [] = false
comes_again before (id ∷ ids) = has_id before id || comes_again (before ++ id ∷ []) ids

-- the fault of a row with these trips, where `before` were derived of the rows before it
unfoldable pub fault_of : List (List ℕ) → List Derived → List Derived → ℕ → Option DeriveFault
fault_of taken before trips row =
    if nat_lt most_places (places_in before + places_in trips) then Some TooMany
    else (if comes_again (taken ++ ids_of before) (ids_of trips)
    then Some (Duplicate row) else None)

-- the first fault of rows, where `before` were derived of the rows before them
unfoldable pub first_fault : List Pattern → List (List ℕ) → List Derived → List Frequency
    → Option DeriveFault
first_fault patterns taken before [] = None
first_fault patterns taken before (row ∷ rows) =
    or_else
    (fault_of taken before (trips_of patterns row) row.row)
    (first_fault patterns taken (before ++ trips_of patterns row) rows)

-- the derived trips of all rows, or the first fault
abbrev pub derived_trips : List Pattern → List (List ℕ) → List Frequency
    → Result (List Derived) DeriveFault
derived_trips patterns taken rows =
    unless (first_fault patterns taken [] rows) (flat_map (trips_of patterns) rows)

-- the fault that an error tells; want of memory tells none
abbrev pub cause_of : DeriveFault → Option DeriveFault
cause_of TooMany = Some TooMany
cause_of (Duplicate row) = Some (Duplicate row)
cause_of NoMemory = None
