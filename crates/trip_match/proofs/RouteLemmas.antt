-- The trips that run, of those so far.
use Rattle.std.proofs.Common.{◌≡◌, ℕ, ◌+◌, ◌<◌, ◌≤◌, Bool, true, false, cond, Option, Some, None, List, [], ◌∷◌, ◌++◌, length, filter, get_or, take, drop, sym, ap, ◌∙◌, append-nil}
use Rattle.std.specs.Option.{option_to_list, is_some}
use Rattle.std.proofs.lemmas.List.{take_more, take_all, take-append-drop}
use Rattle.std.proofs.lemmas.List.Elements.{filter-append}
use Rattle.sched_types.specs.Timetable.{Timetable, is_run}
use Rattle.trip_match_defs.specs.declared.found.Found.TheVariants as answer
use Rattle.trip_match_defs.specs.declared.found.Why.TheVariants as why
use Rattle.trip_match_defs.specs.Matching.{only_trip, trips_running}

module _ (t : Timetable) (day : ℕ) (trips : List ℕ) where
  abbrev runs : ℕ → Bool
  runs trip = is_run t (record { trip = trip; day = day })

  more : (i trip : ℕ) → i < length trips → trip ≡ get_or trips i trip → trips_running t day (take (i + 1) trips) ≡ trips_running t day (take i trips) ++ cond (runs trip) (trip ∷ []) []
  more i trip h at =
      ap (filter runs) (take_more trips i trip h)
      ∙ filter-append runs (take i trips) (get_or trips i trip ∷ [])
      ∙ ap (λ x. trips_running t day (take i trips) ++ cond (runs x) (x ∷ []) []) (sym at)

  -- what was found so far
  pub idle : (i trip : ℕ) (found : Option ℕ) → i < length trips → trip ≡ get_or trips i trip → option_to_list found ≡ trips_running t day (take i trips) → runs trip ≡ false → option_to_list found ≡ trips_running t day (take (i + 1) trips)
  idle i trip found h at is not' = is ∙ sym (more i trip h at ∙ ap (λ b. trips_running t day (take i trips) ++ cond b (trip ∷ []) []) not' ∙ append-nil (trips_running t day (take i trips)))

  pub first : (i trip : ℕ) (found : Option ℕ) → i < length trips → trip ≡ get_or trips i trip → option_to_list found ≡ trips_running t day (take i trips) → runs trip ≡ true → is_some found ≡ false → trip ∷ [] ≡ trips_running t day (take (i + 1) trips)
  first i trip None h at is yes' none = sym (more i trip h at ∙ ap (λ b. trips_running t day (take i trips) ++ cond b (trip ∷ []) []) yes' ∙ ap (λ xs. xs ++ trip ∷ []) (sym is))
  first i trip (Some other) h at is yes' none = cc

  pub several : (i trip : ℕ) (found : Option ℕ) → i < length trips → trip ≡ get_or trips i trip → option_to_list found ≡ trips_running t day (take i trips) → runs trip ≡ true → is_some found ≡ true → answer.NoMatch why.Several ≡ only_trip day (trips_running t day trips)
  several i trip None h at is yes' one = cc
  several i trip (Some other) h at is yes' one =
      let front : trips_running t day (take (i + 1) trips) ≡ other ∷ trip ∷ [] = more i trip h at ∙ ap (λ b. trips_running t day (take i trips) ++ cond b (trip ∷ []) []) yes' ∙ ap (λ xs. xs ++ trip ∷ []) (sym is) in
      sym (ap (λ xs. only_trip day (trips_running t day xs)) (sym (take-append-drop (i + 1) trips))
      ∙ ap (only_trip day) (filter-append runs (take (i + 1) trips) (drop (i + 1) trips))
      ∙ ap (λ xs. only_trip day (xs ++ trips_running t day (drop (i + 1) trips))) front)

  pub ends : (i : ℕ) (found : Option ℕ) → length trips ≤ i → option_to_list found ≡ trips_running t day (take i trips) → only_trip day (option_to_list found) ≡ only_trip day (trips_running t day trips)
  ends i found past is = ap (only_trip day) is ∙ ap (λ xs. only_trip day (trips_running t day xs)) (take_all i trips past)
