-- What is true of derived trips: each is that of a pattern at a start, they have few places, and none of their ids was
-- there before.
use Rattle.std.proofs.Common.{◌≡◌, ℕ, suc, ◌+◌, ◌-◌, ◌*◌, ◌<◌, ◌≤◌, Bool, true, false, ◌&&◌, cond, List, [], ◌∷◌, ◌++◌, length, map, get_or, slice_get, Option, Some, None, Result, Ok, Err, refl, sym, ap, subst, ◌∙◌, append_assoc, arith, nat_le, nat_lt}
use Rattle.std.specs.List.{All, flat_map, range_with_len}
use Rattle.std.proofs.lemmas.Bool.{and_parts, ltb-true, ltb-false, leb-true}
use Rattle.std.proofs.lemmas.List.{append-nil, length-map}
use Rattle.std.proofs.lemmas.List.Concat.{flat_map-cons}
use Rattle.std.proofs.lemmas.List.Elements.{All-nil, All-append, All-map, All-weaker, All-head, All-tail, filter_passes}
use Rattle.std.proofs.lemmas.List.Sums.{sum_by-append, sum_by-cons}
use Rattle.std.proofs.lemmas.List.{map-append}
use Rattle.std.proofs.lemmas.Option.{none-some, slice_get-get_or}
use Rattle.answer_defs.specs.Choices.{or_else}
use Rattle.answer_defs.specs.Steps.{unless}
use Rattle.freq_runs.specs.declared.times.PlaceTime.{PlaceTime}
use Rattle.freq_runs.specs.declared.rows.Pattern.{Pattern}
use Rattle.freq_runs.specs.declared.rows.Frequency.{Frequency}
use Rattle.freq_runs.specs.declared.rows.Derived.{Derived}
use Rattle.freq_runs.specs.declared.fault.DeriveFault.{DeriveFault}
use Rattle.freq_runs.specs.declared.fault.DeriveFault.TheVariants.{TooMany, Duplicate}
use Rattle.freq_runs.specs.Trips.{time_end, times_from, trip_at, starts_of, trips_of, trips_of_pattern, IsRow}
use Rattle.freq_runs.specs.Faults.{most_places, places_in, ids_of, comes_again, fault_of, first_fault, derived_trips}
use Rattle.freq_parts.proofs.Apart.{none_again}

-- the trip of a pattern at a start
pub record IsOf (patterns : List Pattern) (derived : Derived) : Type 0 where
  pub pattern : Pattern
  pub at : slice_get patterns derived.pattern ≡ Some pattern
  pub is : derived ≡ trip_at derived.pattern pattern derived.start
  pub early : derived.start < time_end
  pub two : 2 ≤ length pattern.times

pub record AreDerived (patterns : List Pattern) (taken : List (List ℕ)) (derived : List Derived) : Type 0 where
  pub each : All (IsOf patterns) derived
  pub few : places_in derived ≤ most_places
  pub apart : comes_again taken (ids_of derived) ≡ false

pub all_flat : {X Y : Type 0} (P : Y → Type 0) (Q : X → Type 0) (f : X → List Y) (xs : List X) → ((x : X) → Q x → All P (f x)) → All Q xs → All P (flat_map f xs)
all_flat P Q f [] h all = All-nil P
all_flat P Q f (x ∷ xs) h all = All-append P (f x) (flat_map f xs) (h x (All-head Q x xs all)) (all_flat P Q f xs h (All-tail Q x xs all))

looked_up : {X : Type 0} (xs : List X) (i : ℕ) → i < length xs → (x : X) × (slice_get xs i ≡ Some x)
looked_up [] i l = absurd (omega (arith, l))
looked_up (x ∷ xs) i l = (get_or (x ∷ xs) i x, slice_get-get_or (x ∷ xs) i x l)

-- ---- a row

from_starts : (patterns : List Pattern) (pattern : Pattern) (row : Frequency) → slice_get patterns row.pattern ≡ Some pattern → row.end < time_end → 2 ≤ length pattern.times → All (IsOf patterns) (map (trip_at row.pattern pattern) (starts_of row))
from_starts patterns pattern row at early two =
    let starts = map (λ x. row.start + x * row.headway) (range_with_len 0 (row.end - row.start)) in
    All-map (IsOf patterns) (trip_at row.pattern pattern) (starts_of row)
    (All-weaker (λ start. nat_lt start row.end ≡ true) (λ start. IsOf patterns (trip_at row.pattern pattern start))
    (λ start below. record {
      pattern = pattern;
      at = at;
      is = refl;
      early = omega (arith, early, ltb-true start row.end below);
      two = two;
    })
    (starts_of row) (filter_passes (λ start. nat_lt start row.end) starts))

of_row : (patterns : List Pattern) (row : Frequency) → IsRow (length patterns) row → All (IsOf patterns) (trips_of patterns row)
of_row patterns row is =
    let found = looked_up patterns row.pattern is.pattern_is in
    let own : trips_of_pattern found.0 row ≡ trips_of patterns row = rw (found.1) refl in
    subst (All (IsOf patterns)) own (by found.0 found.1 (row.exact && nat_le 2 (length (found.0).times)) refl)
  where
    by : (pattern : Pattern) → slice_get patterns row.pattern ≡ Some pattern → (b : Bool) → (row.exact && nat_le 2 (length pattern.times)) ≡ b → All (IsOf patterns) (cond b (map (trip_at row.pattern pattern) (starts_of row)) [])
    by pattern at true e = from_starts patterns pattern row at is.end_is (leb-true 2 (length pattern.times) (and_parts row.exact (nat_le 2 (length pattern.times)) e).1)
    by pattern at false e = All-nil (IsOf patterns)

-- ---- no fault

none_first : (a b : Option DeriveFault) → or_else a b ≡ None → (a ≡ None) × (b ≡ None)
none_first None b e = (refl, e)
none_first (Some x) b e = absurd (none-some x (sym e))

row_kept : (taken : List (List ℕ)) (before own : List Derived) (row : ℕ) → fault_of taken before own row ≡ None → (places_in before + places_in own ≤ most_places) × (comes_again (taken ++ ids_of before) (ids_of own) ≡ false)
unfolding fault_of
row_kept taken before own row none = by (nat_lt most_places (places_in before + places_in own)) refl (comes_again (taken ++ ids_of before) (ids_of own)) refl none
  where
    by : (many : Bool) → nat_lt most_places (places_in before + places_in own) ≡ many → (again : Bool) → comes_again (taken ++ ids_of before) (ids_of own) ≡ again
        → cond many (Some TooMany) (cond again (Some (Duplicate row)) None) ≡ None → (places_in before + places_in own ≤ most_places) × (comes_again (taken ++ ids_of before) (ids_of own) ≡ false)
    by true few again is e = absurd (none-some TooMany (sym e))
    by false few true is e = absurd (none-some (Duplicate row) (sym e))
    by false few false is e = (ltb-false most_places (places_in before + places_in own) few, is)

rows_kept : (patterns : List Pattern) (taken : List (List ℕ)) (before : List Derived) (rows : List Frequency) → places_in before ≤ most_places → comes_again taken (ids_of before) ≡ false → first_fault patterns taken before rows ≡ None
    → (places_in (before ++ flat_map (trips_of patterns) rows) ≤ most_places) × (comes_again taken (ids_of (before ++ flat_map (trips_of patterns) rows)) ≡ false)
unfolding first_fault
rows_kept patterns taken before [] few apart none =
    (subst (λ ts. places_in ts ≤ most_places) (sym (append-nil before)) few, ap (λ ts. comes_again taken (ids_of ts)) (append-nil before) ∙ apart)
rows_kept patterns taken before (row ∷ rows) few apart none =
    let own = trips_of patterns row in
    let rest = flat_map (trips_of patterns) rows in
    let parts = none_first (fault_of taken before own row.row) (first_fault patterns taken (before ++ own) rows) none in
    let kept = row_kept taken before own row.row parts.0 in
    let more = sum_by-append (λ (trip : Derived). length trip.times) before own in
    let apart_more = ap (comes_again taken) (map-append (λ (trip : Derived). trip.id) before own) ∙ none_again taken (ids_of before) (ids_of own) apart kept.1 in
    let later = rows_kept patterns taken (before ++ own) rows (omega (arith, kept.0, more)) apart_more parts.1 in
    let whole = append_assoc before own rest ∙ ap (λ ts. before ++ ts) (sym (flat_map-cons (trips_of patterns) row rows)) in
    (subst (λ ts. places_in ts ≤ most_places) whole later.0, ap (λ ts. comes_again taken (ids_of ts)) (sym whole) ∙ later.1)

value_of : {X : Type 0} → X → Result X DeriveFault → X
value_of d (Ok x) = x
value_of d (Err e) = d

no_error : {X : Type 0} (e : DeriveFault) (x : X) → Err e ≡ Ok x → ⊥
no_error e x p = cc

pub derived_so : (patterns : List Pattern) (taken : List (List ℕ)) (rows : List Frequency) (derived : List Derived) → All (IsRow (length patterns)) rows → derived_trips patterns taken rows ≡ Ok derived → AreDerived patterns taken derived
unfolding value_of
derived_so patterns taken rows derived are e = by (first_fault patterns taken [] rows) refl e
  where
    by : (fault : Option DeriveFault) → first_fault patterns taken [] rows ≡ fault → unless fault (flat_map (trips_of patterns) rows) ≡ Ok derived → AreDerived patterns taken derived
    by (Some fault) is e = absurd (no_error fault derived e)
    by None is e =
        let own : flat_map (trips_of patterns) rows ≡ derived = ap (value_of derived) e in
        let kept = rows_kept patterns taken [] rows (omega arith) refl is in
        let P : List Derived → Type 0 = AreDerived patterns taken in
        subst P own (record {
          each = all_flat (IsOf patterns) (IsRow (length patterns)) (trips_of patterns) rows (of_row patterns) are;
          few = kept.0;
          apart = kept.1;
        })

-- ---- how many

pub same_places : (times : List PlaceTime) (start : ℕ) → length (times_from times start) ≡ length times
same_places [] start = refl
same_places (first ∷ rest) start = ap suc (length-map rest _)

-- each has a place, so there are no more of them than of their places
pub few_derived : (patterns : List Pattern) (derived : List Derived) → All (IsOf patterns) derived → length derived ≤ places_in derived
few_derived patterns [] all = omega arith
few_derived patterns (one ∷ derived) all =
    let own = All-head (IsOf patterns) one derived all in
    omega (
      arith,
      few_derived patterns derived (All-tail (IsOf patterns) one derived all),
      sum_by-cons (λ (trip : Derived). length trip.times) one derived,
      own.two,
      ap (λ (trip : Derived). length trip.times) own.is,
      same_places (own.pattern).times one.start,
    )
