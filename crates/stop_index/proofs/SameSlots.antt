-- The departures that an index keeps are, day by day, those of the timetable's runs.
use Rattle.std.proofs.Common.{◌≡◌, ℕ, zero, suc, ◌+◌, ◌-◌, ◌<◌, ◌≤◌, Bool, true, false, ◌&&◌, cond, nat_eq, Some, List, [], ◌∷◌, ◌++◌, length, map, filter, take, slice_get, unwrap_or, zero-add, count_by, ℤ, refl, sym, ap, ◌∙◌, inl, inr, arith}
use Rattle.std.specs.List.{enumerate_from, flat_map, range_with_len}
use Rattle.std.proofs.lemmas.Bool.{and_parts, cases_lt, ne_eqb}
use Rattle.std.proofs.lemmas.List.{map-append}
use Rattle.std.proofs.lemmas.List.Concat.{flat_map-append}
use Rattle.std.proofs.lemmas.List.Elements.{filter-append}
use Rattle.std.proofs.lemmas.List.Folds.{flat_map-map}
use Rattle.std.proofs.lemmas.List.FromFn.{length-map-range_with_len, get_or-map-range_with_len}
use Rattle.std.proofs.lemmas.Option.{slice_get_past, unwrap_or-slice_get}
use Rattle.order.specs.Order.{ordered}
use Rattle.order.proofs.Laws.{rising_ordered}
use Rattle.sched_types.specs.declared.rows.Place.{Place}
use Rattle.sched_types.specs.declared.rows.Run.{Run}
use Rattle.sched_types.specs.Timetable.{Timetable, IsTimetable, places_of, is_run, base_of}
use Rattle.stop_index.specs.declared.reached.Reached.TheVariants.{Instant}
use Rattle.stop_index.specs.declared.slot.Slot.{Slot}
use Rattle.stop_index.specs.declared.trip_departure.TripDeparture.{TripDeparture}
use Rattle.sched_types.specs.Runs.{all_runs, departures_of}
use Rattle.stop_index.specs.Slots.{is_at, run_slots, slots_at, is_between, slots_between}
use Rattle.stop_index.specs.Index.{trip_departure, trip_departures, departure_cmp, departures_at, index_of}
use Rattle.stop_index.specs.Left.{slot_at, runs_on, slots_on, slots_before, slots_left, is_from, AreDepartures}
use Rattle.order.proofs.Counts.{count_fewer, count-map, count-filter, count_never, once_flat, range_once, numbered, numbers_once, SameItems, same_are, same_on, same_map, same_filter, same_flat}
use Rattle.order.proofs.Ordered.{sorted_from_rising, ordered_items, ordered_same}
use Rattle.stop_index.proofs.Instants.{slot_total, departure_total, same_slot}

-- ---- lists

flat_alike : {A X : Type 0} (f g : A → List X) (items : List A) → ((a : A) → f a ≡ g a) → flat_map f items ≡ flat_map g items
flat_alike f g [] same = refl
flat_alike f g (a ∷ items) same = ap (λ xs. xs ++ flat_map f items) (same a) ∙ ap (λ xs. g a ++ xs) (flat_alike f g items same)

flat_kept : {A X : Type 0} (p : A → Bool) (f : A → List X) (items : List A) → flat_map f (filter p items) ≡ flat_map (λ a. cond (p a) (f a) []) items
flat_kept p f [] = refl
flat_kept p f (a ∷ items) = by_test (p a) (flat_kept p f items) where
  by_test : (b : Bool) → flat_map f (filter p items) ≡ flat_map (λ a. cond (p a) (f a) []) items
      → flat_map f (cond b (a ∷ filter p items) (filter p items)) ≡ cond b (f a) [] ++ flat_map (λ a. cond (p a) (f a) []) items
  by_test true rest = ap (λ xs. f a ++ xs) rest
  by_test false rest = rest

flat_pairs : {A B C X : Type 0} (g : C → List X) (of : A → B → C) (bs : List B) (items : List A) → flat_map g (flat_map (λ a. map (of a) bs) items) ≡ flat_map (λ a. flat_map (λ b. g (of a b)) bs) items
flat_pairs g of bs [] = refl
flat_pairs g of bs (a ∷ items) =
    flat_map-append g (map (of a) bs) (flat_map (λ a. map (of a) bs) items)
    ∙ ap (λ xs. xs ++ flat_map g (flat_map (λ a. map (of a) bs) items)) (flat_map-map g (of a) bs)
    ∙ ap (λ xs. flat_map (λ b. g (of a b)) bs ++ xs) (flat_pairs g of bs items)

-- what becomes of those that pass of several lists
kept_flat : {A X Y : Type 0} (s : X → Y) (p : X → Bool) (f : A → List X) (items : List A) → map s (filter p (flat_map f items)) ≡ flat_map (λ a. map s (filter p (f a))) items
kept_flat s p f [] = refl
kept_flat s p f (a ∷ items) =
    ap (map s) (filter-append p (f a) (flat_map f items))
    ∙ map-append s (filter p (f a)) (filter p (flat_map f items))
    ∙ ap (λ ys. map s (filter p (f a)) ++ ys) (kept_flat s p f items)

-- all of what comes passes, or none
kept_all : {A X Y : Type 0} (s : X → Y) (p : X → Bool) (d : A → X) (b : Bool) (items : List A) → ((a : A) → p (d a) ≡ b) → map s (filter p (map d items)) ≡ cond b (map (λ a. s (d a)) items) []
kept_all s p d true [] same = refl
kept_all s p d false [] same = refl
kept_all s p d true (a ∷ items) same =
    ap (λ c. map s (cond c (d a ∷ filter p (map d items)) (filter p (map d items)))) (same a) ∙ ap (λ ys. s (d a) ∷ ys) (kept_all s p d true items same)
kept_all s p d false (a ∷ items) same =
    ap (λ c. map s (cond c (d a ∷ filter p (map d items)) (filter p (map d items)))) (same a) ∙ kept_all s p d false items same

-- ---- the departures of a stop

module _ (t : Timetable) (stop : ℕ) where
  abbrev run_on : ℕ → ℕ → Run
  run_on day trip = record { trip = trip; day = day }

  abbrev of_run : Run → List Slot
  of_run run = cond (is_run t run) (run_slots t stop run) []

  abbrev trips : List ℕ
  trips = range_with_len 0 (length t.trips)

  abbrev days : List ℕ
  days = range_with_len 0 (length t.bases)

  -- those of all trips, as trip after trip has them
  abbrev gathered_at : List TripDeparture
  gathered_at = flat_map (trip_departures t stop) trips

  by_days : slots_at t stop ≡ flat_map (λ day. flat_map (λ trip. of_run (run_on day trip)) trips) days
  unfolding all_runs
  by_days =
      flat_kept (is_run t) (run_slots t stop) (flat_map (λ day. map (run_on day) trips) days)
      ∙ flat_pairs of_run run_on trips days

  of_trip : (day trip : ℕ) → map (slot_at (base_of t day) day) (filter (runs_on t day) (trip_departures t stop trip)) ≡ of_run (run_on day trip)
  of_trip day trip =
      kept_all (slot_at (base_of t day) day) (runs_on t day) (trip_departure trip) (is_run t (run_on day trip)) (filter (is_at stop) (departures_of t trip)) (λ a. refl)

  of_day : (day : ℕ) → slots_on t gathered_at day ≡ flat_map (λ trip. of_run (run_on day trip)) trips
  of_day day =
      kept_flat (slot_at (base_of t day) day) (runs_on t day) (trip_departures t stop) trips
      ∙ flat_alike (λ trip. map (slot_at (base_of t day) day) (filter (runs_on t day) (trip_departures t stop trip))) (λ trip. of_run (run_on day trip)) trips (of_trip day)

  on_each_day : (day : ℕ) → SameItems (slots_on t (departures_at t stop) day) (flat_map (λ trip. of_run (run_on day trip)) trips)
  on_each_day day =
      same_on (slots_on t (departures_at t stop) day) (slots_on t gathered_at day) (flat_map (λ trip. of_run (run_on day trip)) trips)
      (same_map (slot_at (base_of t day) day) (filter (runs_on t day) (departures_at t stop)) (filter (runs_on t day) gathered_at)
      (same_filter (runs_on t day) (departures_at t stop) gathered_at (ordered_items departure_total gathered_at)))
      (same_are (slots_on t gathered_at day) (flat_map (λ trip. of_run (run_on day trip)) trips) (of_day day))

  -- the departures that are kept, on all days, are all departures at the stop
  pub all_same : SameItems (slots_before t (departures_at t stop) (length t.bases)) (slots_at t stop)
  all_same =
      same_on (slots_before t (departures_at t stop) (length t.bases)) (flat_map (λ day. flat_map (λ trip. of_run (run_on day trip)) trips) days) (slots_at t stop)
      (same_flat (slots_on t (departures_at t stop)) (λ day. flat_map (λ trip. of_run (run_on day trip)) trips) days on_each_day)
      (same_are (flat_map (λ day. flat_map (λ trip. of_run (run_on day trip)) trips) days) (slots_at t stop) (sym by_days))

  -- what is left at first is what is defined
  pub left_at_first : (start end : ℤ) → slots_left t (departures_at t stop) (Instant start) end ≡ slots_between t stop start end
  unfolding slots_left slots_between
  left_at_first start end =
      ordered_same slot_total same_slot (filter (is_between start end) (slots_before t (departures_at t stop) (length t.bases))) (filter (is_between start end) (slots_at t stop))
      (same_filter (is_between start end) (slots_before t (departures_at t stop) (length t.bases)) (slots_at t stop) all_same)

  -- ---- an index keeps its departures in order, each once

  module _ (trip place : ℕ) where
    of_other : (n : ℕ) → nat_eq n trip ≡ false → count_by (is_from trip place) (trip_departures t stop n) ≡ 0
    of_other n other =
        count-map (is_from trip place) (trip_departure n) (filter (is_at stop) (departures_of t n))
        ∙ count_never (λ m. is_from trip place (trip_departure n m)) (filter (is_at stop) (departures_of t n)) (λ m. ap (λ b. b && nat_eq m.0 place) other)

    of_own : (n : ℕ) → count_by (is_from trip place) (trip_departures t stop n) ≤ 1
    of_own n =
        omega (
          arith,
          count-map (is_from trip place) (trip_departure n) (filter (is_at stop) (departures_of t n)),
          count-filter (is_at stop) (λ m. is_from trip place (trip_departure n m)) (departures_of t n),
          count_fewer (numbered place) (λ m. is_at stop m && is_from trip place (trip_departure n m))
              (λ m e. (and_parts (nat_eq n trip) (nat_eq m.0 place) ((and_parts (is_at stop m) (is_from trip place (trip_departure n m)) e).1)).1) (departures_of t n),
          numbers_once place 0 (take (length (places_of t n) - 1) (places_of t n)),
        )

    once_at : count_by (is_from trip place) (departures_at t stop) ≤ 1
    once_at =
        omega (
          arith,
          (ordered_items departure_total gathered_at).counts (is_from trip place),
          once_flat (is_from trip place) (λ n. nat_eq n trip) (trip_departures t stop) of_other of_own trips (range_once trip 0 (length t.trips)),
        )

  pub departures_are : AreDepartures (departures_at t stop)
  departures_are = record {
    sorted = sorted_from_rising departure_total (departures_at t stop) (rising_ordered departure_total gathered_at);
    once = once_at;
  }

-- ---- the list of a stop, and that of none past the last

none_at : (stop count : ℕ) (xs : List Place) (a m : ℕ) → ((i : ℕ) (p : Place) → slice_get xs i ≡ Some p → p.stop < count) → count ≤ stop → filter (is_at stop) (enumerate_from a (take m xs)) ≡ []
none_at stop count xs a zero each past = refl
none_at stop count [] a (suc m) each past = refl
none_at stop count (x ∷ xs) a (suc m) each past =
    let within : x.stop < count = each 0 x refl in
    ap (λ b. cond b ((a, x) ∷ filter (is_at stop) (enumerate_from (a + 1) (take m xs))) (filter (is_at stop) (enumerate_from (a + 1) (take m xs)))) (ne_eqb x.stop stop (λ e. omega arith))
    ∙ none_at stop count xs (a + 1) m (λ i p at. each (suc i) p at) past

flat_none : {A X : Type 0} (f : A → List X) (items : List A) → ((a : A) → f a ≡ []) → flat_map f items ≡ []
flat_none f [] none = refl
flat_none f (a ∷ items) none = ap (λ xs. xs ++ flat_map f items) (none a) ∙ flat_none f items none

module _ (t : Timetable) (sound : IsTimetable t) where
  no_departures : (stop : ℕ) → length t.stops ≤ stop → departures_at t stop ≡ []
  unfolding ordered
  no_departures stop past =
      ap (ordered departure_cmp) (flat_none (trip_departures t stop) (range_with_len 0 (length t.trips))
      (λ trip. ap (map (trip_departure trip)) (none_at stop (length t.stops) (places_of t trip) 0 (length (places_of t trip) - 1) (sound.stop_is trip) past)))

  -- the list that an index keeps for a stop
  pub kept_at : (stop : ℕ) → unwrap_or (slice_get (index_of t).departures stop) [] ≡ departures_at t stop
  unfolding index_of
  kept_at stop = elim (cases_lt stop (length t.stops)) [
    | inl lt ↦ unwrap_or-slice_get (map (departures_at t) (range_with_len 0 (length t.stops))) stop [] ∙ get_or-map-range_with_len (departures_at t) 0 (length t.stops) stop stop [] lt (zero-add stop)
    | inr ge ↦
        ap (λ o. unwrap_or o []) (slice_get_past (map (departures_at t) (range_with_len 0 (length t.stops))) stop (omega (arith, length-map-range_with_len (departures_at t) 0 (length t.stops))))
        ∙ sym (no_departures stop ge)
  ]
