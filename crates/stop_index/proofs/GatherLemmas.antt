-- A trip's departures appended to the lists of their stops, place by place.
use Rattle.std.proofs.Common.{◌≡◌, ◌≢◌, ℕ, ◌+◌, ◌-◌, ◌<◌, ◌≤◌, Bool, true, false, cond, nat_eq, List, [], ◌∷◌, ◌++◌, length, map, filter, get_or, set, take, append-nil, append_assoc, zero-add, subst, length-take-le, refl, sym, ap, ◌∙◌, inl, inr, arith}
use Rattle.std.specs.Global.{Vec}
use Rattle.std.specs.List.{enumerate_from, flat_map, range_with_len}
use Rattle.std.proofs.lemmas.Bool.{cases_order, eq-eqb, ne_eqb}
use Rattle.std.proofs.lemmas.List.{same_lists, get_or-map, length-map, get_or-set_same, get_or-set_other, length-set, map-append, map-set, take_all, take_more, length-take, get_or-take}
use Rattle.std.proofs.lemmas.List.Concat.{flat_map-append}
use Rattle.std.proofs.lemmas.List.Elements.{filter-append}
use Rattle.std.proofs.lemmas.List.FromFn.{get_or-map-range_with_len, length-map-range_with_len}
use Rattle.std.proofs.lemmas.Option.{slice_get-get_or}
use Rattle.order.proofs.Lists.{range_more}
use Rattle.sched_types.specs.declared.rows.Place.{Place}
use Rattle.sched_types.specs.Timetable.{Timetable, IsTimetable, places_of}
use Rattle.stop_index.specs.declared.trip_departure.TripDeparture.{TripDeparture}
use Rattle.stop_index.specs.Slots.{is_at}
use Rattle.order.specs.Order.{ordered}
use Rattle.stop_index.specs.Index.{Index, trip_departure, trip_departures, departure_cmp, departures_at, days_are_rising, index_of}
use Rattle.stop_index.specs.Gathered.{for_stops, gathered, AddsTrip}

-- ---- lists of lists

map_alike : {A X : Type 0} (f g : A → X) (xs : List A) → ((x : A) → f x ≡ g x) → map f xs ≡ map g xs
map_alike f g [] same = refl
map_alike f g (x ∷ xs) same = ap (λ y. y ∷ map f xs) (same x) ∙ ap (λ ys. g x ∷ ys) (map_alike f g xs same)

-- lists of one function of their place become those of another that differs at one place alone
module _ {X : Type 0} (lists : List (List X)) (f g : ℕ → List X) (n p : ℕ) (y : List X) (within : p < n) (is : lists ≡ map f (range_with_len 0 n)) (here : g p ≡ y) (others : (k : ℕ) → k ≢ p → g k ≡ f k) where
  size : length lists ≡ n
  size = ap length is ∙ length-map-range_with_len f 0 n

  set_other : (k : ℕ) (d : List X) → k < n → k ≢ p → get_or (set lists p y) k d ≡ g k
  set_other k d lt other =
      get_or-set_other lists p k y d other ∙ ap (λ l. get_or l k d) is ∙ get_or-map-range_with_len f 0 n k k d lt (omega arith) ∙ sym (others k other)

  set_at : (k : ℕ) (d : List X) → k < n → get_or (set lists p y) k d ≡ g k
  set_at k d lt =
      elim (cases_order k p) [
        | inl same ↦ ap (λ j. get_or (set lists p y) j d) same ∙ get_or-set_same lists p y d (omega (arith, size)) ∙ sym here ∙ ap g (sym same)
        | inr (inl below) ↦ set_other k d lt (λ e. omega arith)
        | inr (inr above) ↦ set_other k d lt (λ e. omega arith)
      ]

  lists_set : set lists p y ≡ map g (range_with_len 0 n)
  lists_set =
      same_lists (set lists p y) (map g (range_with_len 0 n)) (length-set lists p y ∙ size ∙ sym (length-map-range_with_len g 0 n))
      (λ k d h. let lt : k < n = omega (arith, length-set lists p y, size) in
      set_at k d lt ∙ sym (get_or-map-range_with_len g 0 n k k d lt (omega arith)))

-- ---- one place more

enumerate-append : {X : Type 0} (a n : ℕ) (xs : List X) (x : X) → a + length xs ≡ n → enumerate_from a (xs ++ x ∷ []) ≡ enumerate_from a xs ++ (n, x) ∷ []
enumerate-append a n [] x e = let same : a ≡ n = omega (arith, e) in ap (λ k. (k, x) ∷ []) same
enumerate-append a n (y ∷ ys) x e = ap (λ ps. (a, y) ∷ ps) (enumerate-append (a + 1) n ys x (omega (arith, e)))

module _ (trip : ℕ) where
  -- the departures of some places at a stop
  abbrev pub at_stop : ℕ → List Place → List TripDeparture
  at_stop stop places = map (trip_departure trip) (filter (is_at stop) (enumerate_from 0 places))

  at_one : (stop i : ℕ) (place : Place) (b : Bool) → nat_eq place.stop stop ≡ b → map (trip_departure trip) (filter (is_at stop) ((i, place) ∷ [])) ≡ cond b (trip_departure trip (i, place) ∷ []) []
  at_one stop i place true e = ap (λ b. map (trip_departure trip) (cond b ((i, place) ∷ []) [])) e
  at_one stop i place false e = ap (λ b. map (trip_departure trip) (cond b ((i, place) ∷ []) [])) e

  at_more : (stop i : ℕ) (places : List Place) (place : Place) → length places ≡ i
      → at_stop stop (places ++ place ∷ []) ≡ at_stop stop places ++ cond (nat_eq place.stop stop) (trip_departure trip (i, place) ∷ []) []
  at_more stop i places place size =
      ap (λ ps. map (trip_departure trip) (filter (is_at stop) ps)) (enumerate-append 0 i places place (zero-add (length places) ∙ size))
      ∙ ap (map (trip_departure trip)) (filter-append (is_at stop) (enumerate_from 0 places) ((i, place) ∷ []))
      ∙ map-append (trip_departure trip) (filter (is_at stop) (enumerate_from 0 places)) (filter (is_at stop) ((i, place) ∷ []))
      ∙ ap (λ ds. at_stop stop places ++ ds) (at_one stop i place (nat_eq place.stop stop) refl)

  module _ (t : Timetable) where
    -- whatever was there of each stop, the departures of some places come after it
    pub record IsAdding (places : List Place) (old now : List (List TripDeparture)) : Type 0 where
      pub size : length now ≡ length t.stops
      pub adds : (before : ℕ → List TripDeparture) → old ≡ for_stops t before → now ≡ for_stops t (λ stop. before stop ++ at_stop stop places)

    pub adds_none : (old : List (List TripDeparture)) → length old ≡ length t.stops → IsAdding [] old old
    adds_none old size = record {
      size = size;
      adds = λ before is. is ∙ map_alike before (λ stop. before stop ++ []) (range_with_len 0 (length t.stops)) (λ stop. sym (append-nil (before stop)));
    }

    pub adds_one : (places : List Place) (place : Place) (i : ℕ) (old now : List (List TripDeparture)) (list : List TripDeparture) → length places ≡ i → place.stop < length t.stops
        → list ≡ get_or now place.stop list → IsAdding places old now
        → IsAdding (places ++ place ∷ []) old (set now place.stop (list ++ trip_departure trip (i, place) ∷ []))
    adds_one places place i old now list count within is adding = record {
      size = length-set now place.stop (list ++ trip_departure trip (i, place) ∷ []) ∙ adding.size;
      adds = λ before same.
          let f : ℕ → List TripDeparture = λ stop. before stop ++ at_stop stop places in
          let g : ℕ → List TripDeparture = λ stop. before stop ++ at_stop stop (places ++ place ∷ []) in
          let are = adding.adds before same in
          let own : f place.stop ≡ list =
          sym (get_or-map-range_with_len f 0 (length t.stops) place.stop place.stop list within (zero-add place.stop)) ∙ sym (ap (λ ls. get_or ls place.stop list) are) ∙ sym is in
          lists_set now f g (length t.stops) place.stop (list ++ trip_departure trip (i, place) ∷ []) within are
          (here before own) (others before);
    } where
      tested : (before : ℕ → List TripDeparture) (stop : ℕ) (b : Bool) → nat_eq place.stop stop ≡ b → before stop ++ at_stop stop (places ++ place ∷ []) ≡ before stop ++ (at_stop stop places ++ cond b (trip_departure trip (i, place) ∷ []) [])
      tested before stop b e =
          ap (λ ds. before stop ++ ds) (at_more stop i places place count ∙ ap (λ c. at_stop stop places ++ cond c (trip_departure trip (i, place) ∷ []) []) e)

      here : (before : ℕ → List TripDeparture) → before place.stop ++ at_stop place.stop places ≡ list → before place.stop ++ at_stop place.stop (places ++ place ∷ []) ≡ list ++ trip_departure trip (i, place) ∷ []
      here before own =
          tested before place.stop true (eq-eqb place.stop place.stop refl)
          ∙ sym (append_assoc (before place.stop) (at_stop place.stop places) (trip_departure trip (i, place) ∷ []))
          ∙ ap (λ ds. ds ++ trip_departure trip (i, place) ∷ []) own

      others : (before : ℕ → List TripDeparture) (k : ℕ) → k ≢ place.stop → before k ++ at_stop k (places ++ place ∷ []) ≡ before k ++ at_stop k places
      others before k other =
          tested before k false (ne_eqb place.stop k (λ e. other (sym e))) ∙ ap (λ ds. before k ++ ds) (append-nil (at_stop k places))

    pub adds_more : (places : List Place) (i : ℕ) (none : Place) (old now : List (List TripDeparture)) (list : List TripDeparture) → i < length places → (get_or places i none).stop < length t.stops
        → list ≡ get_or now (get_or places i none).stop list → IsAdding (take i places) old now
        → IsAdding (take (i + 1) places) old (set now (get_or places i none).stop (list ++ trip_departure trip (i, get_or places i none) ∷ []))
    adds_more places i none old now list h within is adding =
        let P : List Place → Type 0 = λ ps. IsAdding ps old (set now (get_or places i none).stop (list ++ trip_departure trip (i, get_or places i none) ∷ [])) in
        subst P (sym (take_more places i none h))
        (adds_one (take i places) (get_or places i none) i old now list (length-take-le i places (omega arith)) within is adding)

    pub adds_all : (places : List Place) (i : ℕ) (old now : List (List TripDeparture)) → length places ≤ i → IsAdding (take i places) old now
        → places ≡ take (length (places_of t trip) - 1) (places_of t trip) → AddsTrip t trip old now
    adds_all places i old now h adding are = record {
      adds = λ before is.
          adding.adds before is
          ∙ ap (λ ps. for_stops t (λ stop. before stop ++ at_stop stop ps)) (take_all i places h ∙ are);
    }

-- a place's stop is one of the timetable's
pub place_within : (t : Timetable) → IsTimetable t → (trip n i : ℕ) (places : List Place) (none : Place) → places ≡ places_of t trip → i < length (take n places) → (get_or (take n places) i none).stop < length t.stops
place_within t sound trip n i places none are h =
    let short : i < n = omega (arith, length-take n places) in
    let within : i < length places = omega (arith, length-take n places) in
    let here : get_or (take n places) i none ≡ get_or (places_of t trip) i none = get_or-take n places i none short ∙ ap (λ ps. get_or ps i none) are in
    subst (λ (p : Place). p.stop < length t.stops) (sym here)
    (sound.stop_is trip i (get_or (places_of t trip) i none) (slice_get-get_or (places_of t trip) i none (subst (λ (ps : List Place). i < length ps) are within)))

-- one place more, where lists are vectors
pub pushes_more : (t : Timetable) (trip i : ℕ) (places : List Place) (none : Place) (old : List (List TripDeparture)) (lists : List (Vec TripDeparture)) (list pushed : Vec TripDeparture) → i < length places
    → (get_or places i none).stop < length t.stops → list ≡ get_or lists (get_or places i none).stop list → pushed.items ≡ list.items ++ trip_departure trip (i, get_or places i none) ∷ []
    → IsAdding trip t (take i places) old (map (λ v. v.items) lists)
    → IsAdding trip t (take (i + 1) places) old (map (λ v. v.items) (set lists (get_or places i none).stop pushed))
pushes_more t trip i places none old lists list pushed h within at is adding =
    let stop = (get_or places i none).stop in
    let inside : stop < length lists = omega (arith, adding.size, length-map lists (λ v. v.items)) in
    let own : list.items ≡ get_or (map (λ v. v.items) lists) stop list.items = ap (λ v. v.items) at ∙ sym (get_or-map (λ v. v.items) lists stop list list.items inside) in
    let P : List (List TripDeparture) → Type 0 = λ ls. IsAdding trip t (take (i + 1) places) old ls in
    subst P (sym (map-set (λ v. v.items) lists stop pushed ∙ ap (set (map (λ v. v.items) lists) stop) is))
    (adds_more trip t places i none old (map (λ v. v.items) lists) list.items h within own adding)

-- ---- one trip more

pub gathers_more : (t : Timetable) (trip : ℕ) (old new : List (List TripDeparture)) → old ≡ gathered t trip → AddsTrip t trip old new → new ≡ gathered t (trip + 1)
gathers_more t trip old new is more =
    more.adds (λ stop. flat_map (trip_departures t stop) (range_with_len 0 trip)) is
    ∙ map_alike (λ stop. flat_map (trip_departures t stop) (range_with_len 0 trip) ++ trip_departures t stop trip) (λ stop. flat_map (trip_departures t stop) (range_with_len 0 (trip + 1))) (range_with_len 0 (length t.stops))
    (λ stop. sym (ap (flat_map (trip_departures t stop)) (range_more 0 trip trip (zero-add trip))
    ∙ flat_map-append (trip_departures t stop) (range_with_len 0 trip) (trip ∷ [])
    ∙ ap (λ ds. flat_map (trip_departures t stop) (range_with_len 0 trip) ++ ds) (append-nil (trip_departures t stop trip))))

-- as many lists as stops
pub as_many : (t : Timetable) (trip : ℕ) (lists : List (Vec TripDeparture)) → map (λ v. v.items) lists ≡ gathered t trip → length lists ≡ length t.stops
as_many t trip lists is =
    sym (length-map lists (λ v. v.items)) ∙ ap length is
    ∙ length-map-range_with_len (λ stop. flat_map (trip_departures t stop) (range_with_len 0 trip)) 0 (length t.stops)

-- ---- all stops

twice : {A B C : Type 0} (f : A → B) (g : B → C) (xs : List A) → map g (map f xs) ≡ map (λ x. g (f x)) xs
twice f g [] = refl
twice f g (x ∷ xs) = ap (λ ys. g (f x) ∷ ys) (twice f g xs)

abbrev index : List (List TripDeparture) → Bool → Index
index departures rise = record { departures = departures; days_rise = rise }

-- what was gathered of all trips, each list in order, makes the index
pub built : (t : Timetable) (lists flat : List (List TripDeparture)) (rise : Bool) → lists ≡ gathered t (length t.trips) → flat ≡ map (ordered departure_cmp) lists → rise ≡ days_are_rising t → index flat rise ≡ index_of t
unfolding index_of
built t lists flat rise are ordered_are rises =
    ap (λ ds. index ds rise)
    (ordered_are ∙ ap (map (ordered departure_cmp)) are
    ∙ twice (λ stop. flat_map (trip_departures t stop) (range_with_len 0 (length t.trips))) (ordered departure_cmp) (range_with_len 0 (length t.stops)))
    ∙ ap (λ r. index (map (departures_at t) (range_with_len 0 (length t.stops))) r) rises
