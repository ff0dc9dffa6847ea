-- The places of derived trips.
use Rattle.std.proofs.Common.{◌≡◌, ℕ, zero, suc, ◌*◌, ◌≤◌, true, List, [], ◌∷◌, length, map, refl, ap, ◌∙◌, arith, nat_le}
use Rattle.std.specs.List.{All, range_with_len}
use Rattle.std.proofs.lemmas.List.{length-map}
use Rattle.std.proofs.lemmas.Simd.{map-map}
use Rattle.freq_runs.specs.declared.times.PlaceTime.{PlaceTime}
use Rattle.freq_runs.specs.declared.rows.Pattern.{Pattern}
use Rattle.freq_runs.specs.declared.rows.Frequency.{Frequency}
use Rattle.freq_runs.specs.Trips.{CanMove, ComeAfter, AreInOrder, times_from, starts_of, trips_of_pattern, trip_at}
use Rattle.freq_runs.specs.Faults.{places_in}
use Rattle.freq_runs.proofs.Ranges.{sum_each}

-- what comes in order after a time can be moved from any earlier time
pub can_move : (time departure : ℕ) (places : List PlaceTime) → departure ≤ time → ComeAfter time places → All (CanMove departure) places
can_move time departure [] early come k d l = absurd (omega (arith, l))
can_move time departure (place ∷ places) early come zero d l = record {
  arrives_after = omega (arith, come.0);
  departs_after = omega (arith, come.0, come.1);
  arrives_early = omega (arith, come.1, come.2);
  departs_early = come.2;
}
can_move time departure (place ∷ places) early come (suc k) d l = can_move place.departure departure places (omega (arith, come.0, come.1)) come.3 k d (omega (arith, l))

pub moves : (times : List PlaceTime) (first : PlaceTime) (rest : List PlaceTime) → times ≡ first ∷ rest → AreInOrder times → All (CanMove first.departure) rest
moves times first rest is order = let o = rw is at order in can_move first.departure first.departure rest (omega arith) o.1

-- a derived trip has as many places as its pattern
same_places : (times : List PlaceTime) (start : ℕ) → length (times_from times start) ≡ length times
same_places [] start = refl
same_places (first ∷ rest) start = ap suc (length-map rest _)

pub places_are : (number : ℕ) (pattern : Pattern) (start : ℕ → ℕ) (n : ℕ) → places_in (map (λ x. trip_at number pattern (start x)) (range_with_len 0 n)) ≡ n * length pattern.times
places_are number pattern start n = sum_each (λ trip. length trip.times) (λ x. trip_at number pattern (start x)) (length pattern.times) n (λ x. same_places pattern.times (start x))

-- the trips of an exact row, by its starts
pub trips_are : (pattern : Pattern) (row : Frequency) (start : ℕ → ℕ) (n : ℕ) → row.exact ≡ true → nat_le 2 (length pattern.times) ≡ true → starts_of row ≡ map start (range_with_len 0 n)
    → trips_of_pattern pattern row ≡ map (λ x. trip_at row.pattern pattern (start x)) (range_with_len 0 n)
trips_are pattern row start n exact two starts = rw (exact, two) (ap (map (trip_at row.pattern pattern)) starts ∙ map-map (trip_at row.pattern pattern) start (range_with_len 0 n))
