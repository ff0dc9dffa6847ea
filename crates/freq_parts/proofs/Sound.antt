-- The lists with the derived trips in place of the patterns are a timetable.
use Rattle.std.proofs.Common.{◌≡◌, ℕ, suc, ◌+◌, ◌^◌, ◌<◌, ◌≤◌, Bool, not, List, [], ◌∷◌, length, map, filter, zip, sum_by, get_or, slice_get, Option, Some, None, unwrap_or, refl, sym, ap, subst, ◌∙◌, arith}
use Rattle.std.specs.List.{All, flat_map}
use Rattle.std.specs.Option.{option_map}
use Rattle.std.proofs.lemmas.List.{length-append, length-map}
use Rattle.std.proofs.lemmas.List.Concat.{flat_map-cons}
use Rattle.std.proofs.lemmas.List.Elements.{All-nil, All-cons, All-append, All-map, All-filter}
use Rattle.std.proofs.lemmas.List.Filters.{sum_by-filter_both}
use Rattle.std.proofs.lemmas.List.Sorted.{All-permutation, length_permutation, sum_by-IsPermutation}
use Rattle.std.proofs.lemmas.List.Sums.{sum_by-append, sum_by-cons}
use Rattle.std.proofs.lemmas.Option.{none-some, same_Some, slice_get-map}
use Rattle.freq_runs.specs.declared.times.PlaceTime.{PlaceTime}
use Rattle.freq_runs.specs.declared.rows.Derived.{Derived}
use Rattle.freq_runs.specs.Faults.{places_in}
use Rattle.sched_types.specs.declared.rows.Trip.{Trip}
use Rattle.sched_types.specs.declared.rows.Place.{Place}
use Rattle.sched_types.specs.declared.rows.PlanPattern.{PlanPattern}
use Rattle.sched_types.specs.declared.rows.PlanDerived.{PlanDerived}
use Rattle.sched_types.specs.Timetable.{Timetable, IsTimetable, RisesById, RiseByStart, places_of}
use Rattle.sched_load_defs.specs.Frequencies.{TimedTrip, id_of, timed_trips, pattern_of, at_time, trip_of_pattern, timed_of, plan_pattern, plan_derived, plan_deriveds}
use Rattle.sched_load_defs.specs.Files.{most_rows}
use Rattle.freq_parts.specs.Conditions.{IsPlain}
use Rattle.freq_parts.specs.Differ.{text_cmp}
use Rattle.freq_parts.specs.Joined.{joined, all_of, AreListed}
use Rattle.freq_parts.proofs.Zipped.{zip_second, length-zip-right}
use Rattle.freq_parts.proofs.Listed.{rise_by_start}
use Rattle.freq_parts.proofs.Derivation.{IsOf, AreDerived, all_flat, few_derived}
use Rattle.freq_parts.proofs.Fitting.{FitsIn, PlacesFit, IsEarly, none_fit, all_at, all_fit, all_early, timed_rise, derived_fit}
use Rattle.freq_parts.proofs.Joining.{has, rises_filter, few_filtered, known_within, length-flat, length-timed}

-- the timetable with these trips, patterns and derived trips
abbrev pub made : Timetable → List TimedTrip → List TimedTrip → List PlanDerived → Timetable
made t all patterns derived = record t {
  trips = map (λ timed. timed.0) all;
  places = map (λ timed. timed.1) all;
  patterns = map plan_pattern patterns;
  derived = derived;
}

abbrev pub places_each : TimedTrip → ℕ
places_each timed = length timed.1

-- ---- lists that are made of others

record Made {X Y : Type 0} (f : X → Y) (xs : List X) (i : ℕ) (y : Y) : Type 0 where
  from : X
  at : slice_get xs i ≡ Some from
  is : f from ≡ y

made_of : {X Y : Type 0} (f : X → Y) (xs : List X) (i : ℕ) (y : Y) → slice_get (map f xs) i ≡ Some y → Made f xs i y
made_of {X = X} f xs i y at = by (slice_get xs i) refl (sym (slice_get-map f xs i) ∙ at)
  where
    by : (found : Option X) → slice_get xs i ≡ found → option_map f found ≡ Some y → Made f xs i y
    by None is e = absurd (none-some y e)
    by (Some x) is e = record { from = x; at = is; is = same_Some (f x) y e }

rises_map : {Y : Type 0} (f : TimedTrip → Y) (id : Y → List ℕ) (xs : List TimedTrip) → ((x : TimedTrip) → id (f x) ≡ id_of x) → RisesById id_of xs → RisesById id (map f xs)
rises_map f id xs same up = record {
  rise = λ i j a b l at then.
      let x = made_of f xs i a at in
      let y = made_of f xs j b then in
      ap (λ z. text_cmp (id z) (id b)) (sym x.is)
      ∙ ap (λ z. text_cmp (id (f x.from)) (id z)) (sym y.is)
      ∙ ap (λ z. text_cmp z (id (f y.from))) (same x.from)
      ∙ ap (text_cmp (id_of x.from)) (same y.from)
      ∙ up.rise i j x.from y.from l x.at y.at;
}

sum_map : {X Y : Type 0} (f : X → Y) (g : Y → ℕ) (xs : List X) → sum_by g (map f xs) ≡ sum_by (λ x. g (f x)) xs
sum_map f g [] = refl
sum_map f g (x ∷ xs) = sum_by-cons g (f x) (map f xs) ∙ ap (λ n. g (f x) + n) (sum_map f g xs) ∙ sym (sum_by-cons (λ y. g (f y)) x xs)

-- ---- what is true of all trips is true of the timetable

pub record AreFit (t : Timetable) (all patterns : List TimedTrip) (derived : List PlanDerived) : Type 0 where
  pub sound : IsTimetable t
  pub fits : All (FitsIn t) all
  pub rise : RisesById id_of all
  pub pattern_rise : RisesById id_of patterns
  pub derived_rise : RiseByStart derived
  pub few : length all + length patterns < 2 ^ 32
  pub few_places : sum_by places_each all + sum_by places_each patterns < 2 ^ 32
  pub trip_is : All (λ (found : PlanDerived). found.trip < length all) derived

module _ (t : Timetable) (all patterns : List TimedTrip) (derived : List PlanDerived) (are : AreFit t all patterns derived) where
  trip_fits : (i : ℕ) (trip : Trip) → slice_get (map (λ (timed : TimedTrip). timed.0) all) i ≡ Some trip → (timed : TimedTrip) × (timed.0 ≡ trip) × FitsIn t timed
  trip_fits i trip at = let own = made_of (λ (timed : TimedTrip). timed.0) all i trip at in (own.from, own.is, all_at (FitsIn t) all i own.from own.at are.fits)

  places_fit : (trip : ℕ) → PlacesFit t (places_of (made t all patterns derived) trip)
  places_fit trip = by (slice_get (map (λ (timed : TimedTrip). timed.1) all) trip) refl
    where
      by : (found : Option (List Place)) → slice_get (map (λ (timed : TimedTrip). timed.1) all) trip ≡ found → PlacesFit t (unwrap_or found [])
      by None is = none_fit t
      by (Some places) is =
          let own = made_of (λ (timed : TimedTrip). timed.1) all trip places is in
          subst (PlacesFit t) own.is (all_at (FitsIn t) all trip own.from own.at are.fits).places

  pub is_timetable : IsTimetable (made t all patterns derived)
  is_timetable =
      let sound = are.sound in
      let trips = length-map all (λ (timed : TimedTrip). timed.0) in
      let lists = length-map all (λ (timed : TimedTrip). timed.1) in
      let rows = length-map patterns plan_pattern in
      let places = sum_map (λ (timed : TimedTrip). timed.1) length all in
      let own = sum_map plan_pattern (λ (pattern : PlanPattern). pattern.places) patterns in
      record {
        few_agencies = sound.few_agencies;
        few_stops = sound.few_stops;
        few_routes = sound.few_routes;
        few_trips = omega (arith, trips, are.few);
        few_services = sound.few_services;
        few_times = omega (arith, places, are.few_places);
        few_days = sound.few_days;
        places_each = lists ∙ sym trips;
        few_rows = omega (arith, trips, rows, are.few);
        few_places = omega (arith, places, own, are.few_places);
        agencies_rise = sound.agencies_rise;
        stops_rise = sound.stops_rise;
        routes_rise = sound.routes_rise;
        trips_rise = rises_map (λ (timed : TimedTrip). timed.0) (λ (trip : Trip). trip.id) all (λ x. refl) are.rise;
        patterns_rise = rises_map plan_pattern (λ (pattern : PlanPattern). pattern.id) patterns (λ x. refl) are.pattern_rise;
        derived_rise = are.derived_rise;
        parent_is = sound.parent_is;
        agency_is = sound.agency_is;
        route_is = λ i trip at. let f = trip_fits i trip at in subst (λ (x : Trip). x.route < length t.routes) f.1 (f.2).route_is;
        service_is = λ i trip at. let f = trip_fits i trip at in subst (λ (x : Trip). x.service < length t.active) f.1 (f.2).service_is;
        stop_is = λ trip i place at. (places_fit trip).stop_is i place at;
        derived_trip_is = λ i found at. omega (arith, trips, all_at (λ (f : PlanDerived). f.trip < length all) derived i found at are.trip_is);
        kind_is = sound.kind_is;
        direction_is = λ i direction trip at is. let f = trip_fits i trip at in (f.2).direction_is direction (ap (λ (x : Trip). x.direction) f.1 ∙ is);
        pickup_is = λ trip i place at. (places_fit trip).pickup_is i place at;
        arrival_small = λ trip i place at. (places_fit trip).arrival_small i place at;
        departure_small = λ trip i place at. (places_fit trip).departure_small i place at;
        sequences_rise = λ trip i j p q l at then. (places_fit trip).sequences_rise i j p q l at then;
        stays = λ trip i place many at. (places_fit trip).stays i place many at;
        moves = λ trip i p q at then. (places_fit trip).moves i p q at (ap (slice_get (places_of (made t all patterns derived) trip)) (next i) ∙ then);
        days_rise = sound.days_rise;
        day_is = sound.day_is;
        first_is = sound.first_is;
        first_early = sound.first_early;
        first_late = sound.first_late;
        bases_small = sound.bases_small;
      }
    where
      next : (i : ℕ) → suc i ≡ i + 1
      next i = omega arith

-- ---- the derived trips

flat_fit : (t : Timetable) (patterns : List TimedTrip) (derived : List Derived) → All (FitsIn t) patterns → All (λ (timed : TimedTrip). IsEarly timed.1) patterns → All (IsOf (map pattern_of patterns)) derived
    → All (FitsIn t) (flat_map (timed_of patterns) derived)
flat_fit t patterns derived fits early are = all_flat (FitsIn t) (IsOf (map pattern_of patterns)) (timed_of patterns) derived each are
  where
    each : (d : Derived) → IsOf (map pattern_of patterns) d → All (FitsIn t) (timed_of patterns d)
    each d of =
        let own = has patterns d of in
        let timed = own.timed in
        let fit = all_at (FitsIn t) patterns d.pattern timed own.at fits in
        let soon = all_at (λ (x : TimedTrip). IsEarly x.1) patterns d.pattern timed own.at early in
        let places = derived_fit t timed.1 d.start fit.places soon own.early in
        let one : TimedTrip = (record timed.0 { id = d.id }, map at_time (zip timed.1 d.times)) in
        let it : FitsIn t one = record {
          route_is = fit.route_is;
          service_is = fit.service_is;
          direction_is = fit.direction_is;
          places = subst (λ (times : List PlaceTime). PlacesFit t (map at_time (zip timed.1 times))) (sym own.times) places;
        } in
        subst (All (FitsIn t)) (sym own.is) (All-cons (FitsIn t) one [] it (All-nil (FitsIn t)))

flat_places : (patterns : List TimedTrip) (derived : List Derived) → sum_by places_each (flat_map (timed_of patterns) derived) ≤ places_in derived
flat_places patterns [] = omega arith
flat_places patterns (one ∷ derived) =
    omega (
      arith,
      ap (sum_by places_each) (flat_map-cons (timed_of patterns) one derived),
      sum_by-append places_each (timed_of patterns one) (flat_map (timed_of patterns) derived),
      sum_by-cons (λ (trip : Derived). length trip.times) one derived,
      flat_places patterns derived,
      by (slice_get patterns one.pattern),
    )
  where
    by : (found : Option TimedTrip) → sum_by places_each (trip_of_pattern one found) ≤ length one.times
    by None = omega arith
    by (Some (trip, places)) = omega (arith, length-map (zip places one.times) at_time, length-zip-right places one.times)

-- ---- the timetable

module _ (t : Timetable) (named : TimedTrip → Bool) (derived : List Derived) (plain : IsPlain t) where
  abbrev patterns : List TimedTrip
  patterns = filter named (timed_trips t)

  abbrev others : List TimedTrip
  others = filter (λ timed. not (named timed)) (timed_trips t)

  -- how many places there are in trips.txt
  given_places : sum_by places_each patterns + sum_by places_each others ≤ most_rows
  given_places =
      omega (
        arith,
        sum_by-filter_both named (λ timed. not (named timed)) (λ x. refl) places_each (timed_trips t),
        sum_map (λ (timed : TimedTrip). timed.1) length (timed_trips t),
        ap (sum_by length) (zip_second t.trips t.places (plain.timetable).places_each),
        plain.few_places,
      )

  pub with_trips : AreDerived (map pattern_of patterns) (map (λ (trip : Trip). trip.id) t.trips) derived → AreListed patterns others derived
      → IsTimetable (made t (all_of patterns others derived) patterns (plan_deriveds (all_of patterns others derived) derived))
  with_trips are listed =
      let sound = plain.timetable in
      let all = all_of patterns others derived in
      let flat = flat_map (timed_of patterns) derived in
      let same = (listed.trips).same in
      let fits = all_fit t sound in
      let count = length_permutation (joined patterns others derived) all same in
      let parts = length-append others flat in
      let many = length-flat patterns derived are.each in
      let some : (k : ℕ) → k < length derived → 0 < length all = λ k l. omega (arith, l, count, parts, many) in
      is_timetable t all patterns (plan_deriveds all derived) (record {
        sound = sound;
        fits = All-permutation (FitsIn t) (joined patterns others derived) all same
            (All-append (FitsIn t) others flat
            (All-filter (λ timed. not (named timed)) (FitsIn t) (timed_trips t) fits)
            (flat_fit t patterns derived (All-filter named (FitsIn t) (timed_trips t) fits) (All-filter named (λ (timed : TimedTrip). IsEarly timed.1) (timed_trips t) (all_early t plain)) are.each));
        rise = record { rise = (listed.trips).rise };
        pattern_rise = rises_filter named (timed_trips t) (timed_rise t sound);
        derived_rise = rise_by_start _ _ listed.derived;
        few = omega (
          arith,
          count,
          parts,
          many,
          few_derived (map pattern_of patterns) derived are.each,
          are.few,
          few_filtered named (timed_trips t),
          few_filtered (λ timed. not (named timed)) (timed_trips t),
          length-timed t sound,
          plain.few_trips,
        );
        few_places = omega (
          arith,
          sum_by-IsPermutation places_each (joined patterns others derived) all same,
          sum_by-append places_each others flat,
          flat_places patterns derived,
          are.few,
          given_places,
        );
        trip_is = All-permutation (λ (found : PlanDerived). found.trip < length all) (map (plan_derived all) derived) (plan_deriveds all derived) (listed.derived).same
            (All-map (λ (found : PlanDerived). found.trip < length all) (plan_derived all) derived (λ k d l. known_within all (get_or derived k d).id (some k l)));
      })
