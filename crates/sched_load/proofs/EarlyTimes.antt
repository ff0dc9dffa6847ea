-- Where the given times of a trip are below the end of all times, so are those of its places between.
use Rattle.std.proofs.Common.{◌≡◌, ℕ, zero, suc, ◌+◌, ◌-◌, ◌<◌, List, [], ◌∷◌, refl, subst, arith}
use Rattle.std.specs.Prelude.{Option, Some, None, IfSome, slice_get}
use Rattle.std.proofs.Math.Nat.{div-le_of_le-mul}
use Rattle.std.proofs.lemmas.Option.{none-some as none_some, same_Some}
use Rattle.freq_runs.specs.Trips.{time_end}
use Rattle.gtfs_rows.specs.declared.rows.StopTimeRow.{StopTimeRow}
use Rattle.sched_load_defs.specs.Numbers.{given_times}
use Rattle.sched_load_defs.specs.Times.{Times, all_times, next_timed, share_between, times_behind, times_of}
use Rattle.sched_load.proofs.TimeColumns.{IsEarly}

-- the times of a place
pub record AreEarly (times : Times) : Type 0 where
  pub arrival : times.arrival < time_end
  pub departure : times.departure < time_end

-- the given times of places
abbrev AllEarly : List (Option Times) → Type 0
AllEarly [] = Unit {0}
AllEarly (Some times ∷ places) = AreEarly times × AllEarly places
AllEarly (None ∷ places) = AllEarly places

next_early : (steps : ℕ) (places : List (Option Times)) → AllEarly places → IfSome (next_timed steps places) (λ next. next.1 < time_end)
next_early steps [] h = tt
next_early steps (Some times ∷ places) h = h.0.arrival
next_early steps (None ∷ places) h = next_early (steps + 1) places h

-- a place between lies no later than the timed places around it
share_early : (departure behind : ℕ) (next : Option (ℕ × ℕ)) → departure < time_end → IfSome next (λ place. place.1 < time_end) → share_between departure behind next < time_end
share_early departure behind next left reached = grind (arith, div-le_of_le-mul)

behind_early : (departure behind : ℕ) (places : List (Option Times)) → departure < time_end → AllEarly places → (i : ℕ) (times : Times) → slice_get (times_behind departure behind places) i ≡ Some times → AreEarly times
unfolding times_behind
behind_early departure behind [] left h i times at = absurd (none_some times at)
behind_early departure behind (Some given ∷ places) left h zero times at = subst AreEarly (same_Some _ _ at) h.0
behind_early departure behind (Some given ∷ places) left h (suc i) times at = behind_early given.departure 1 places h.0.departure h.1 i times at
behind_early departure behind (None ∷ places) left h zero times at = grind (arith, share_early departure behind (next_timed 1 places) left (next_early 1 places h), next_early 1 places h)
behind_early departure behind (None ∷ places) left h (suc i) times at = behind_early departure (behind + 1) places left h i times at

-- the given times of rows
abbrev pub HasEarly : StopTimeRow → Type 0
HasEarly row = IsEarly row.arrival_time × IsEarly row.departure_time

one_early : (arrival departure : Option ℕ) (places : List (Option Times)) → IsEarly arrival → IsEarly departure → AllEarly places → AllEarly (times_of arrival departure ∷ places)
one_early arrival departure places a d rest = grind arith

given_early : (rows : List StopTimeRow) → ((i : ℕ) (row : StopTimeRow) → slice_get rows i ≡ Some row → HasEarly row) → AllEarly (given_times rows)
given_early [] h = tt
given_early (row ∷ rows) h = one_early row.arrival_time row.departure_time (given_times rows) (h 0 row refl).0 (h 0 row refl).1 (given_early rows (λ i r at. h (suc i) r at))

-- the times of all places of rows
pub all_early : (rows : List StopTimeRow) → ((i : ℕ) (row : StopTimeRow) → slice_get rows i ≡ Some row → HasEarly row) → (i : ℕ) (times : Times) → slice_get (all_times (given_times rows)) i ≡ Some times → AreEarly times
all_early rows h = behind_early 0 0 (given_times rows) (omega arith) (given_early rows h)
