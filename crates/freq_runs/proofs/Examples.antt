-- The trips of a city's T2, which takes 19 minutes, and their faults.
use Rattle.std.proofs.Common.{◌≡◌, ℕ, ◌+◌, true, false, List, [], ◌∷◌, Some, None, Ok, Err, codes, refl}
use Rattle.std.specs.Fmt.{digits}
use Rattle.freq_runs.specs.declared.times.PlaceTime.{PlaceTime}
use Rattle.freq_runs.specs.declared.rows.Pattern.{Pattern}
use Rattle.freq_runs.specs.declared.rows.Frequency.{Frequency}
use Rattle.freq_runs.specs.declared.rows.Derived.{Derived}
use Rattle.freq_runs.specs.declared.fault.DeriveFault.TheVariants.{TooMany, Duplicate}
use Rattle.freq_runs.specs.Trips.{starts_of, derived_id, times_from, trips_of}
use Rattle.freq_runs.specs.Faults.{most_places, places_in, ids_of, fault_of, first_fault, derived_trips}

-- the times at a place
abbrev at : ℕ → ℕ → PlaceTime
at arrival departure = record { arrival = arrival; departure = departure }

-- T2 from 08:21:00 to 08:40:00, which is at its first place a minute before
abbrev times : List PlaceTime
times = at 30000 30060 ∷ at 31200 31200 ∷ []

abbrev patterns : List Pattern
patterns = record { id = codes "T2"; times = times } ∷ record { id = codes "T3"; times = at 0 0 ∷ [] } ∷ []

-- T2,09:00:00,09:31:00,1800,1 in a row of that number
abbrev half_hourly : ℕ → Frequency
half_hourly row = record {
  row = row;
  pattern = 0;
  start = 32400;
  end = 34260;
  headway = 1800;
  exact = true;
}

-- two starts, at 09:00:00 and at 09:30:00
two_starts : starts_of (half_hourly 2) ≡ 32400 ∷ 34200 ∷ []
two_starts = refl

-- none at the end itself, 09:30:00
end_is_none : starts_of (record (half_hourly 2) { end = 34200 }) ≡ 32400 ∷ []
end_is_none = refl

nothing_backwards : starts_of (record (half_hourly 2) { end = 32000 }) ≡ []
nothing_backwards = refl

-- hours have two digits at least, and may have three
nine : derived_id (codes "T2") 32400 ≡ codes "T2@09:00:00"
unfolding digits
nine = refl

last_second : derived_id (codes "T2") 35999 ≡ codes "T2@09:59:59"
unfolding digits
last_second = refl

hundred : derived_id (codes "N1") 360000 ≡ codes "N1@100:00:00"
unfolding digits
hundred = refl

-- at its first place it only departs, and takes 19 minutes from there
moved_on : times_from times 32400 ≡ at 32400 32400 ∷ at 33540 33540 ∷ []
moved_on = refl

not_exact : trips_of patterns (record (half_hourly 2) { exact = false }) ≡ []
not_exact = refl

one_place : trips_of patterns (record (half_hourly 2) { pattern = 1 }) ≡ []
one_place = refl

abbrev trip : ℕ → List ℕ → ℕ → Derived
trip start id end = record {
  pattern = 0;
  start = start;
  id = id;
  times = at start start ∷ at end end ∷ [];
}

-- both trips, beside T2's own id
derives_two : derived_trips patterns (codes "T2" ∷ []) (half_hourly 2 ∷ []) ≡ Ok (trip 32400 (codes "T2@09:00:00") 33540 ∷ trip 34200 (codes "T2@09:30:00") 35340 ∷ [])
unfolding digits first_fault fault_of
derives_two = refl

-- an equal second row
again : derived_trips patterns (codes "T2" ∷ []) (half_hourly 2 ∷ half_hourly 3 ∷ []) ≡ Err (Duplicate 3)
unfolding digits first_fault fault_of
again = refl

-- a trip of trips.txt that is called so
already : derived_trips patterns (codes "T2" ∷ codes "T2@09:30:00" ∷ []) (half_hourly 2 ∷ half_hourly 3 ∷ []) ≡ Err (Duplicate 2)
unfolding digits first_fault fault_of
already = refl

-- one place too many is too many, whatever the ids are
too_many_by_one : (taken : List (List ℕ)) (before own : List Derived) (row : ℕ) → places_in before + places_in own ≡ most_places + 1 → fault_of taken before own row ≡ Some TooMany
unfolding fault_of
too_many_by_one taken before own row is = rw is refl

-- and just as many as there may be are not
as_many : (before own : List Derived) (row : ℕ) → places_in before + places_in own ≡ most_places → ids_of own ≡ [] → fault_of [] before own row ≡ None
unfolding fault_of
as_many before own row is none = rw (is, none) refl
