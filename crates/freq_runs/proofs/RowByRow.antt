-- The rows one after another.
use Rattle.std.proofs.Common.{◌≡◌, ℕ, ◌+◌, ◌*◌, ◌<◌, ◌≤◌, Bool, true, false, cond, List, [], ◌∷◌, ◌++◌, length, map, drop, get_or, refl, sym, ap, ◌∙◌, append_assoc, Some, None, Ok, Err}
use Rattle.std.specs.List.{flat_map, range_with_len}
use Rattle.std.proofs.lemmas.Bool.{lt-ltb, le-ltb}
use Rattle.std.proofs.lemmas.List.{drop_all, append-nil}
use Rattle.std.proofs.lemmas.List.Concat.{flat_map-cons}
use Rattle.std.proofs.lemmas.Option.{slice_get_read}
use Rattle.answer_defs.specs.Choices.{or_else}
use Rattle.answer_defs.specs.Steps.{unless}
use Rattle.freq_runs.specs.declared.rows.Pattern.{Pattern}
use Rattle.freq_runs.specs.declared.rows.Frequency.{Frequency}
use Rattle.freq_runs.specs.declared.rows.Derived.{Derived}
use Rattle.freq_runs.specs.declared.times.PlaceTime.{PlaceTime}
use Rattle.freq_runs.specs.declared.fault.DeriveFault.{DeriveFault}
use Rattle.freq_runs.specs.declared.fault.DeriveFault.TheVariants.{TooMany, Duplicate}
use Rattle.freq_runs.specs.Trips.{trips_of, trips_of_pattern, trip_at}
use Rattle.freq_runs.specs.Faults.{most_places, places_in, ids_of, comes_again, fault_of, first_fault, derived_trips}
use Rattle.freq_runs.proofs.Places.{places_are}

-- the trips of a row whose pattern was looked up
pub own_trips : (patterns : List Pattern) (row : Frequency) (pattern : Pattern) → row.pattern < length patterns → pattern ≡ get_or patterns row.pattern pattern → trips_of patterns row ≡ trips_of_pattern pattern row
own_trips patterns row pattern within at = rw (slice_get_read patterns (length patterns) row.pattern pattern refl within at) refl

-- how many places they have
pub counted : (number : ℕ) (pattern : Pattern) (start : ℕ → ℕ) (count : ℕ) (own : List Derived) (times : List PlaceTime) → own ≡ map (λ x. trip_at number pattern (start x)) (range_with_len 0 count) → times ≡ pattern.times
    → places_in own ≡ count * length times
counted number pattern start count own times made is = ap places_in made ∙ places_are number pattern start count ∙ ap (λ ts. count * length ts) (sym is)

module _ (patterns : List Pattern) (taken : List (List ℕ)) (rows : List Frequency) where
  -- the rows from a place on have the trips and the first fault that are left, where `before` were derived
  pub record Derives (before : List Derived) (place : ℕ) : Type 0 where
    pub trips : before ++ flat_map (trips_of patterns) (drop place rows) ≡ flat_map (trips_of patterns) rows
    pub fault : first_fault patterns taken before (drop place rows) ≡ first_fault patterns taken [] rows

  module _ (before own : List Derived) (place : ℕ) (row : Frequency) (is : drop place rows ≡ row ∷ drop (place + 1) rows) (own_is : trips_of patterns row ≡ own) (so : Derives before place) where
    -- the first fault from a row on
    from_row : first_fault patterns taken before (drop place rows) ≡ or_else (fault_of taken before own row.row) (first_fault patterns taken (before ++ own) (drop (place + 1) rows))
    unfolding first_fault
    from_row = ap (first_fault patterns taken before) is ∙ ap (λ ts. or_else (fault_of taken before ts row.row) (first_fault patterns taken (before ++ ts) (drop (place + 1) rows))) own_is

    stops : (fault : DeriveFault) → fault_of taken before own row.row ≡ Some fault → derived_trips patterns taken rows ≡ Err fault
    stops fault at =
        ap (λ f. unless f (flat_map (trips_of patterns) rows))
        (sym so.fault ∙ from_row ∙ ap (λ f. or_else f (first_fault patterns taken (before ++ own) (drop (place + 1) rows))) at)

    pub too_many : most_places < places_in before + places_in own → derived_trips patterns taken rows ≡ Err TooMany
    unfolding fault_of
    too_many many = stops TooMany (rw (lt-ltb most_places (places_in before + places_in own) many) refl)

    judged : places_in before + places_in own ≤ most_places → (again : Bool) → comes_again (taken ++ ids_of before) (ids_of own) ≡ again → fault_of taken before own row.row ≡ cond again (Some (Duplicate row.row)) None
    unfolding fault_of
    judged few again said = rw (le-ltb most_places (places_in before + places_in own) few, said) refl

    pub twice : places_in before + places_in own ≤ most_places → comes_again (taken ++ ids_of before) (ids_of own) ≡ true → derived_trips patterns taken rows ≡ Err (Duplicate row.row)
    twice few said = stops (Duplicate row.row) (judged few true said)

    pub goes_on : places_in before + places_in own ≤ most_places → comes_again (taken ++ ids_of before) (ids_of own) ≡ false → Derives (before ++ own) (place + 1)
    goes_on few said = record {
      trips =
          append_assoc before own (flat_map (trips_of patterns) (drop (place + 1) rows))
          ∙ ap (λ ts. before ++ (ts ++ flat_map (trips_of patterns) (drop (place + 1) rows))) (sym own_is)
          ∙ ap (λ ts. before ++ ts) (sym (flat_map-cons (trips_of patterns) row (drop (place + 1) rows)) ∙ ap (flat_map (trips_of patterns)) (sym is))
          ∙ so.trips;
      fault =
          ap (λ f. or_else f (first_fault patterns taken (before ++ own) (drop (place + 1) rows))) (sym (judged few false said))
          ∙ sym from_row
          ∙ so.fault;
    }

  pub ends : (trips : List Derived) (place : ℕ) → length rows ≤ place → Derives trips place → derived_trips patterns taken rows ≡ Ok trips
  unfolding first_fault
  ends trips place done so =
      let none = drop_all place rows done in
      ap (λ f. unless f (flat_map (trips_of patterns) rows)) (sym so.fault ∙ ap (first_fault patterns taken trips) none)
      ∙ ap Ok (sym so.trips ∙ ap (λ xs. trips ++ flat_map (trips_of patterns) xs) none ∙ append-nil trips)
