-- The pass tells the states that are defined.
use Rattle.std.proofs.Common.{◌≡◌, ℕ, ◌+◌, ◌-◌, ◌<◌, ◌≤◌, true, false, nat_eq, nat_lt, Option, Some, None, unwrap_or, List, [], ◌∷◌, ◌++◌, length, map, filter, filter_map, drop, replicate, slice_get, get_or, ℤ, refl, sym, ap, ◌∙◌, arith}
use Rattle.std.specs.List.{find, last_or, position_from, range_with_len, cons_option}
use Rattle.std.specs.Option.{option_or, option_map}
use Rattle.std.proofs.lemmas.Bool.Decides.{nat_tests}
use Rattle.std.proofs.lemmas.List.{length-drop}
use Rattle.std.proofs.lemmas.Option.{slice_get-get_or}
use Rattle.rt_types.specs.declared.enums.StopRelation.{StopRelation}
use Rattle.rt_types.specs.declared.enums.StopRelation.TheVariants.{Scheduled, Skipped, NoData, Unscheduled}
use Rattle.rt_types.specs.declared.trip_update.StopUpdate.{StopUpdate}
use Rattle.rt_types.specs.declared.trip_update.TripUpdate.{TripUpdate}
use Rattle.sched_types.specs.declared.rows.Place.{Place}
use Rattle.sched_types.specs.declared.rows.Run.{Run}
use Rattle.sched_types.specs.Timetable.{Timetable, places_of, base_of}
use Rattle.delay_rule_defs.specs.Delays.{EventDelays, fits, placements_of, taken, event_delays_at, assigned_stop, relation_of, carry_of, carry_of_update, carry_at, plain, state_by, state_with, state_at, states}
use Rattle.delay_rule.specs.Pass.{state_here, turned, walked}
use Rattle.delay_rule.proofs.Ranges.{map_split, map_same, map_constant}
use Rattle.delay_rule.proofs.Search.{found_within}

-- ---- what is carried on is the departure's delay

carried_departure : (departure arrival carry : Option ℤ) → option_or departure (option_or arrival carry) ≡ unwrap_or (option_map Some (option_or departure arrival)) carry
carried_departure (Some d) arrival carry = refl
carried_departure None (Some a) carry = refl
carried_departure None None carry = refl

departure_carried : (relation : StopRelation) (told : EventDelays) (stop : Option ℕ) (carry : Option ℤ) → (state_by relation told stop carry).departure ≡ unwrap_or (carry_of relation told) carry
departure_carried Scheduled told stop carry = carried_departure told.departure told.arrival carry
departure_carried Skipped told stop carry = refl
departure_carried NoData told stop carry = refl
departure_carried Unscheduled told stop carry = refl

last_there : {A : Type 0} (x : A) (xs : List A) (a b : A) → unwrap_or (last_or (Some x) xs) a ≡ unwrap_or (last_or (Some x) xs) b
last_there x [] a b = refl
last_there x (y ∷ ys) a b = last_there y ys a b

last_over : {A : Type 0} (x : A) (xs : List A) (a : A) → unwrap_or (last_or (Some x) xs) a ≡ unwrap_or (last_or None xs) x
last_over x [] a = refl
last_over x (y ∷ ys) a = last_there y ys a x

-- the last of some values with one in front, which may be none
last_from : {A : Type 0} (c : Option A) (xs : List A) (a : A) → unwrap_or (last_or None (cons_option c xs)) a ≡ unwrap_or (last_or None xs) (unwrap_or c a)
last_from None xs a = refl
last_from (Some x) xs a = last_over x xs a

-- ---- pairs whose places lie behind a place

abbrev AllFrom : ℕ → List (ℕ × StopUpdate) → Type 0
AllFrom from [] = Unit {0}
AllFrom from (pair ∷ pairs) = (from ≤ pair.0) × AllFrom from pairs

all_earlier : (from before : ℕ) (pairs : List (ℕ × StopUpdate)) → before ≤ from → AllFrom from pairs → AllFrom before pairs
all_earlier from before [] h all = tt
all_earlier from before (pair ∷ pairs) h all = let first = all.0 in (omega arith, all_earlier from before pairs h all.1)

not_same : (a b : ℕ) → b < a → nat_eq a b ≡ false
not_same a b h = grind (arith, nat_tests)

not_same-below : (a b : ℕ) → a < b → nat_eq a b ≡ false
not_same-below a b h = grind (arith, nat_tests)

not_before : (a b : ℕ) → b ≤ a → nat_lt a b ≡ false
not_before a b h = grind (arith, nat_tests)

is_before : (a b : ℕ) → a < b → nat_lt a b ≡ true
is_before a b h = grind (arith, nat_tests)

is_same : (a : ℕ) → nat_eq a a ≡ true
is_same a = grind (arith, nat_tests)

none_at : (from j : ℕ) (pairs : List (ℕ × StopUpdate)) → AllFrom from pairs → j < from → find (λ pair. nat_eq pair.0 j) pairs ≡ None
none_at from j [] all h = refl
none_at from j (pair ∷ pairs) all h = let first = all.0 in rw (not_same pair.0 j (omega arith)) (none_at from j pairs all.1 h)

none_before : (from j : ℕ) (pairs : List (ℕ × StopUpdate)) → AllFrom from pairs → j ≤ from → filter (λ pair. nat_lt pair.0 j) pairs ≡ []
none_before from j [] all h = refl
none_before from j (pair ∷ pairs) all h = let first = all.0 in rw (not_before pair.0 j (omega arith)) (none_before from j pairs all.1 h)

module _ (t : Timetable) (run : Run) where
  -- before their places a place has what is carried to it
  plain_before : (from : ℕ) (pairs : List (ℕ × StopUpdate)) (carry : Option ℤ) (j : ℕ) → AllFrom from pairs → j < from → state_at t run pairs carry j ≡ plain carry
  plain_before from pairs carry j all h =
      ap (λ found. state_with t run found (carry_at t run pairs carry j)) (none_at from j pairs all h)
      ∙ ap (λ set. plain (unwrap_or (last_or None (filter_map (carry_of_update t run) set)) carry)) (none_before from j pairs all (omega arith))

  module _ (i : ℕ) (update : StopUpdate) (pairs : List (ℕ × StopUpdate)) (carry : Option ℤ) (behind : AllFrom (i + 1) pairs) where
    -- at the place that an update takes, it decides
    state_taken : state_at t run ((i, update) ∷ pairs) carry i ≡ state_by (relation_of update) (event_delays_at t run i update) (assigned_stop t update) carry
    state_taken =
        let found : find (λ pair. nat_eq pair.0 i) ((i, update) ∷ pairs) ≡ Some (i, update) = rw (is_same i) refl in
        let set : filter (λ pair. nat_lt pair.0 i) ((i, update) ∷ pairs) ≡ [] = rw (not_before i i (omega arith)) (none_before (i + 1) i pairs behind (omega arith)) in
        ap (λ pair. state_with t run pair (carry_at t run ((i, update) ∷ pairs) carry i)) found
        ∙ ap (λ set. state_by (relation_of update) (event_delays_at t run i update) (assigned_stop t update) (unwrap_or (last_or None (filter_map (carry_of_update t run) set)) carry)) set

    -- behind it, what it carries on
    state_behind : (j : ℕ) → i < j → state_at t run ((i, update) ∷ pairs) carry j ≡ state_at t run pairs (unwrap_or (carry_of_update t run (i, update)) carry) j
    state_behind j h =
        let found : find (λ pair. nat_eq pair.0 j) ((i, update) ∷ pairs) ≡ find (λ pair. nat_eq pair.0 j) pairs = rw (not_same-below i j h) refl in
        let set : filter (λ pair. nat_lt pair.0 j) ((i, update) ∷ pairs) ≡ (i, update) ∷ filter (λ pair. nat_lt pair.0 j) pairs = rw (is_before i j h) refl in
        ap (λ pair. state_with t run pair (carry_at t run ((i, update) ∷ pairs) carry j)) found
        ∙ ap (state_with t run (find (λ pair. nat_eq pair.0 j) pairs))
        (ap (λ set. unwrap_or (last_or None (filter_map (carry_of_update t run) set)) carry) set
        ∙ last_from (carry_of_update t run (i, update)) (filter_map (carry_of_update t run) (filter (λ pair. nat_lt pair.0 j) pairs)) carry)

  -- ---- the places that updates take lie one behind another

  placed_from : (updates : List StopUpdate) (from : ℕ) → AllFrom from (placements_of t run.trip updates from)
  placed_from [] from = tt
  placed_from (update ∷ updates) from =
      by_place (position_from (fits t update) from (drop from (places_of t run.trip))) refl (λ next. placed_from updates next) where
        by_place : (o : Option ℕ) → position_from (fits t update) from (drop from (places_of t run.trip)) ≡ o → ((next : ℕ) → AllFrom next (placements_of t run.trip updates next)) → AllFrom from (taken o update (λ next. placements_of t run.trip updates next) from)
        by_place None at rest = rest from
        by_place (Some i) at rest =
            let within = found_within (fits t update) from (drop from (places_of t run.trip)) i at in
            (within.behind, all_earlier (i + 1) from (placements_of t run.trip updates (i + 1)) (omega (arith, within.behind)) (rest (i + 1)))

  -- ---- the state at a place that is there

  state_there : (i : ℕ) (update : StopUpdate) (carry : Option ℤ) (place : Place) → slice_get (places_of t run.trip) i ≡ Some place → state_here t (base_of t run.day) update carry (slice_get (places_of t run.trip) i) ≡ state_by (relation_of update) (event_delays_at t run i update) (assigned_stop t update) carry
  state_there i update carry place at = rw at refl

  -- ---- the law

  abbrev Goes : List StopUpdate → ℕ → Option ℤ → Type 0
  Goes updates from carry =
      walked t (places_of t run.trip) (base_of t run.day) updates from carry
      ≡ map (state_at t run (placements_of t run.trip updates from) carry) (range_with_len from (length (places_of t run.trip) - from))

  turn : (update : StopUpdate) (updates : List StopUpdate) (from : ℕ) (carry : Option ℤ) → from ≤ length (places_of t run.trip) → (o : Option ℕ) → position_from (fits t update) from (drop from (places_of t run.trip)) ≡ o
      → ((next : ℕ) (delay : Option ℤ) → next ≤ length (places_of t run.trip) → Goes updates next delay)
      → turned t (places_of t run.trip) (base_of t run.day) update (λ next delay. walked t (places_of t run.trip) (base_of t run.day) updates next delay) from carry o
      ≡ map (state_at t run (taken o update (λ next. placements_of t run.trip updates next) from) carry) (range_with_len from (length (places_of t run.trip) - from))
  turn update updates from carry h None at goes = goes from carry h
  turn update updates from carry h (Some i) at goes =
      let places = places_of t run.trip in
      let lies = found_within (fits t update) from (drop from places) i at in
      let behind : from ≤ i = lies.behind in
      let before : i < length places = omega (arith, lies.before, length-drop from places) in
      let pairs = placements_of t run.trip updates (i + 1) in
      let all = placed_from updates (i + 1) in
      let whole : AllFrom i ((i, update) ∷ pairs) = (omega arith, all_earlier (i + 1) i pairs (omega arith) all) in
      let own = get_or places i (record { stop = 0; sequence = 0; arrival = 0; departure = 0; pickup = 0 }) in
      let there : slice_get places i ≡ Some own = slice_get-get_or places i (record { stop = 0; sequence = 0; arrival = 0; departure = 0; pickup = 0 }) before in
      let state = state_here t (base_of t run.day) update carry (slice_get places i) in
      let state_is = state_there i update carry own there in
      let on : state.departure ≡ unwrap_or (carry_of_update t run (i, update)) carry = ap (λ s. s.departure) state_is ∙ departure_carried (relation_of update) (event_delays_at t run i update) (assigned_stop t update) carry in
      let f = state_at t run ((i, update) ∷ pairs) carry in
      ap (λ rest. replicate (i - from) (plain carry) ++ (state ∷ rest))
      (goes (i + 1) state.departure (omega arith)
      ∙ ap (λ delay. map (state_at t run pairs delay) (range_with_len (i + 1) (length places - (i + 1)))) on
      ∙ sym (map_same f (state_at t run pairs (unwrap_or (carry_of_update t run (i, update)) carry)) (i + 1) (length places - (i + 1)) (λ k low high. state_behind i update pairs carry all k (omega arith))))
      ∙ ap (λ s. replicate (i - from) (plain carry) ++ (s ∷ map f (range_with_len (i + 1) (length places - (i + 1))))) (state_is ∙ sym (state_taken i update pairs carry all))
      ∙ ap (λ front. front ++ (f i ∷ map f (range_with_len (i + 1) (length places - (i + 1))))) (sym (map_constant f (plain carry) from (i - from) (λ k low high. plain_before i ((i, update) ∷ pairs) carry k whole (omega arith))))
      ∙ sym (map_split f from (i - from) i (length places - (i + 1)) (length places - from) (omega arith) (omega arith))

  goes : (updates : List StopUpdate) (from : ℕ) (carry : Option ℤ) → from ≤ length (places_of t run.trip) → Goes updates from carry
  unfolding walked
  goes [] from carry h = sym (map_constant (state_at t run [] carry) (plain carry) from (length (places_of t run.trip) - from) (λ k low high. refl))
  goes (update ∷ updates) from carry h =
      turn update updates from carry h (position_from (fits t update) from (drop from (places_of t run.trip))) refl (λ next delay within. goes updates next delay within)

  pub walked_states : (update : TripUpdate) → walked t (places_of t run.trip) (base_of t run.day) update.stop_time_update 0 update.delay ≡ states t run update
  unfolding states
  walked_states update =
      let size : length (places_of t run.trip) - 0 ≡ length (places_of t run.trip) = omega arith in
      goes update.stop_time_update 0 update.delay (omega arith)
      ∙ ap (λ n. map (state_at t run (placements_of t run.trip update.stop_time_update 0) update.delay) (range_with_len 0 n)) size
