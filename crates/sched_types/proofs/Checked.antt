-- A timetable of literals is a timetable where tests of its lists compute to true.
use Rattle.std.proofs.lemmas.Bool.Decides.{nat_tests}
use Rattle.std.proofs.Common.{◌≡◌, ℕ, ◌+◌, ◌^◌, Bool, true, nat_lt, nat_le, ◌==◌, ◌&&◌, ◌||◌, ◌<◌, ◌⊎◌, Some, List, [], ◌∷◌, length, map, sum_by, slice_get, refl, Less, arith}
use Rattle.std.specs.Cmp.Lexicographic.{slice_cmp}
use Rattle.std.specs.List.{list_all}
use Rattle.std.specs.Ordering.{nat_cmp, is_lt}
use Rattle.std.specs.declared.cmp.Ordering.{Ordering}
use Rattle.std.proofs.lemmas.Bool.{and_parts, ltb-true, leb-true, eqb-true}
use Rattle.text_defs.specs.Dates.{is_day}
use Rattle.sched_types.specs.declared.rows.PlanDerived.{PlanDerived}
use Rattle.sched_types.specs.declared.rows.PlanParts.{PlanParts}
use Rattle.sched_types.specs.Parts.{table_of}
use Rattle.sched_types.specs.Timetable.{Timetable, IsTimetable, RisesById, RiseByStart, pattern_places}
use Rattle.sched_types.proofs.Checks.{all_at, nested_at, all_pairs, pairs_at, nested_pairs_at, given_below, given_below-is, is_small, is_small-is}

-- ids that rise
abbrev pub rises : {X : Type 0} → (X → List ℕ) → List X → Bool
rises id xs = all_pairs (λ x y. is_lt (slice_cmp nat_cmp (id x) (id y))) xs

is_less : (o : Ordering) → is_lt o ≡ true → o ≡ Less
is_less o e = grind arith

rises-is : {X : Type 0} (id : X → List ℕ) (xs : List X) → rises id xs ≡ true → RisesById id xs
rises-is id xs e = record { rise = λ i j x y h at then. is_less (slice_cmp nat_cmp (id x) (id y)) (pairs_at (λ x y. is_lt (slice_cmp nat_cmp (id x) (id y))) xs e i j x y h at then) }

-- derived trips of which the first goes before the second
abbrev pub starts_before : PlanDerived → PlanDerived → Bool
starts_before a b = nat_lt a.pattern b.pattern || ((a.pattern == b.pattern) && nat_lt a.start b.start)

is_before : (a b : PlanDerived) → starts_before a b ≡ true → (a.pattern < b.pattern) ⊎ ((a.pattern ≡ b.pattern) × (a.start < b.start))
is_before a b e = grind (arith, Bool, and_parts, eqb-true, ltb-true, nat_tests)

starts-rise : (derived : List PlanDerived) → all_pairs starts_before derived ≡ true → RiseByStart derived
starts-rise derived e = record { rise = λ i j a b h at then. is_before a b (pairs_at starts_before derived e i j a b h at then) }

-- the tests: of how many there are, of ids, of numbers that lead to rows, of columns, of places and of days
abbrev pub tests : Timetable → List Bool
tests t =
    nat_lt (length t.agencies) (2 ^ 32)
    ∷ nat_lt (length t.stops) (2 ^ 32)
    ∷ nat_lt (length t.routes) (2 ^ 32)
    ∷ nat_lt (length t.trips) (2 ^ 32)
    ∷ nat_lt (length t.active) (2 ^ 32)
    ∷ nat_lt (sum_by length t.places) (2 ^ 32)
    ∷ nat_le (length t.bases) 400
    ∷ (length t.places == length t.trips)
    ∷ rises (λ id. id) t.agencies
    ∷ rises (λ stop. stop.id) t.stops
    ∷ rises (λ route. route.id) t.routes
    ∷ rises (λ trip. trip.id) t.trips
    ∷ list_all (λ stop. given_below (length t.stops) stop.parent) t.stops
    ∷ list_all (λ route. given_below (length t.agencies) route.agency) t.routes
    ∷ list_all (λ trip. nat_lt trip.route (length t.routes)) t.trips
    ∷ list_all (λ trip. nat_lt trip.service (length t.active)) t.trips
    ∷ list_all (list_all (λ place. nat_lt place.stop (length t.stops))) t.places
    ∷ list_all (λ route. nat_le route.kind 9999) t.routes
    ∷ list_all (λ trip. given_below 2 trip.direction) t.trips
    ∷ list_all (list_all (λ place. nat_le place.pickup 3)) t.places
    ∷ list_all (list_all (λ place. nat_lt place.arrival (2 ^ 32))) t.places
    ∷ list_all (list_all (λ place. nat_lt place.departure (2 ^ 32))) t.places
    ∷ list_all (all_pairs (λ p q. nat_lt p.sequence q.sequence)) t.places
    ∷ list_all (list_all (λ place. nat_le place.arrival place.departure)) t.places
    ∷ list_all (all_pairs (λ p q. nat_le p.departure q.arrival)) t.places
    ∷ list_all (all_pairs nat_lt) t.active
    ∷ list_all (list_all (λ day. nat_lt day (length t.bases))) t.active
    ∷ is_day t.first
    ∷ nat_le 19700101 t.first
    ∷ nat_le t.first 29991231
    ∷ list_all is_small t.bases
    ∷ nat_lt (length t.trips + length t.patterns) (2 ^ 32)
    ∷ nat_lt (sum_by length t.places + pattern_places t) (2 ^ 32)
    ∷ rises (λ pattern. pattern.id) t.patterns
    ∷ all_pairs starts_before t.derived
    ∷ list_all (λ found. nat_lt found.trip (length t.trips)) t.derived
    ∷ []

abbrev pub passes : Timetable → Bool
passes t = list_all (λ test. test) (tests t)

-- what passes is a timetable; for one of literals the premise is `refl`
pub checked : (t : Timetable) → passes t ≡ true → IsTimetable t
checked t e = record {
  few_agencies = ltb-true (length t.agencies) (2 ^ 32) (test 0 (nat_lt (length t.agencies) (2 ^ 32)) refl);
  few_stops = ltb-true (length t.stops) (2 ^ 32) (test 1 (nat_lt (length t.stops) (2 ^ 32)) refl);
  few_routes = ltb-true (length t.routes) (2 ^ 32) (test 2 (nat_lt (length t.routes) (2 ^ 32)) refl);
  few_trips = ltb-true (length t.trips) (2 ^ 32) (test 3 (nat_lt (length t.trips) (2 ^ 32)) refl);
  few_services = ltb-true (length t.active) (2 ^ 32) (test 4 (nat_lt (length t.active) (2 ^ 32)) refl);
  few_times = ltb-true (sum_by length t.places) (2 ^ 32) (test 5 (nat_lt (sum_by length t.places) (2 ^ 32)) refl);
  few_days = leb-true (length t.bases) 400 (test 6 (nat_le (length t.bases) 400) refl);
  places_each = eqb-true (length t.places) (length t.trips) (test 7 (length t.places == length t.trips) refl);
  agencies_rise = rises-is (λ id. id) t.agencies (test 8 (rises (λ id. id) t.agencies) refl);
  stops_rise = rises-is (λ stop. stop.id) t.stops (test 9 (rises (λ stop. stop.id) t.stops) refl);
  routes_rise = rises-is (λ route. route.id) t.routes (test 10 (rises (λ route. route.id) t.routes) refl);
  trips_rise = rises-is (λ trip. trip.id) t.trips (test 11 (rises (λ trip. trip.id) t.trips) refl);
  few_rows = ltb-true (length t.trips + length t.patterns) (2 ^ 32) (test 31 (nat_lt (length t.trips + length t.patterns) (2 ^ 32)) refl);
  few_places = ltb-true (sum_by length t.places + pattern_places t) (2 ^ 32) (test 32 (nat_lt (sum_by length t.places + pattern_places t) (2 ^ 32)) refl);
  patterns_rise = rises-is (λ pattern. pattern.id) t.patterns (test 33 (rises (λ pattern. pattern.id) t.patterns) refl);
  derived_rise = starts-rise t.derived (test 34 (all_pairs starts_before t.derived) refl);
  derived_trip_is = λ i found at. ltb-true found.trip (length t.trips) (all_at (λ found. nat_lt found.trip (length t.trips)) t.derived (test 35 (list_all (λ found. nat_lt found.trip (length t.trips)) t.derived) refl) i found at);
  parent_is = λ i parent stop at given. given_below-is (length t.stops) parent stop.parent (all_at (λ stop. given_below (length t.stops) stop.parent) t.stops (test 12 (list_all (λ stop. given_below (length t.stops) stop.parent) t.stops) refl) i stop at) given;
  agency_is = λ i agency route at given. given_below-is (length t.agencies) agency route.agency (all_at (λ route. given_below (length t.agencies) route.agency) t.routes (test 13 (list_all (λ route. given_below (length t.agencies) route.agency) t.routes) refl) i route at) given;
  route_is = λ i trip at. ltb-true trip.route (length t.routes) (all_at (λ trip. nat_lt trip.route (length t.routes)) t.trips (test 14 (list_all (λ trip. nat_lt trip.route (length t.routes)) t.trips) refl) i trip at);
  service_is = λ i trip at. ltb-true trip.service (length t.active) (all_at (λ trip. nat_lt trip.service (length t.active)) t.trips (test 15 (list_all (λ trip. nat_lt trip.service (length t.active)) t.trips) refl) i trip at);
  stop_is = λ trip i place at. ltb-true place.stop (length t.stops) (nested_at (λ place. nat_lt place.stop (length t.stops)) t.places (test 16 (list_all (list_all (λ place. nat_lt place.stop (length t.stops))) t.places) refl) trip i place at);
  kind_is = λ i route at. leb-true route.kind 9999 (all_at (λ route. nat_le route.kind 9999) t.routes (test 17 (list_all (λ route. nat_le route.kind 9999) t.routes) refl) i route at);
  direction_is = λ i direction trip at given. let lt = given_below-is 2 direction trip.direction (all_at (λ trip. given_below 2 trip.direction) t.trips (test 18 (list_all (λ trip. given_below 2 trip.direction) t.trips) refl) i trip at) given in omega arith;
  pickup_is = λ trip i place at. leb-true place.pickup 3 (nested_at (λ place. nat_le place.pickup 3) t.places (test 19 (list_all (list_all (λ place. nat_le place.pickup 3)) t.places) refl) trip i place at);
  arrival_small = λ trip i place at. ltb-true place.arrival (2 ^ 32) (nested_at (λ place. nat_lt place.arrival (2 ^ 32)) t.places (test 20 (list_all (list_all (λ place. nat_lt place.arrival (2 ^ 32))) t.places) refl) trip i place at);
  departure_small = λ trip i place at. ltb-true place.departure (2 ^ 32) (nested_at (λ place. nat_lt place.departure (2 ^ 32)) t.places (test 21 (list_all (list_all (λ place. nat_lt place.departure (2 ^ 32))) t.places) refl) trip i place at);
  sequences_rise = λ trip i j p q h at then. ltb-true p.sequence q.sequence (nested_pairs_at (λ p q. nat_lt p.sequence q.sequence) t.places (test 22 (list_all (all_pairs (λ p q. nat_lt p.sequence q.sequence)) t.places) refl) trip i j p q h at then);
  stays = λ trip i place many at. leb-true place.arrival place.departure (nested_at (λ place. nat_le place.arrival place.departure) t.places (test 23 (list_all (list_all (λ place. nat_le place.arrival place.departure)) t.places) refl) trip i place at);
  moves = λ trip i p q at then. leb-true p.departure q.arrival (nested_pairs_at (λ p q. nat_le p.departure q.arrival) t.places (test 24 (list_all (all_pairs (λ p q. nat_le p.departure q.arrival)) t.places) refl) trip i (i + 1) p q (omega arith) at then);
  days_rise = λ service i j a b h at then. ltb-true a b (nested_pairs_at nat_lt t.active (test 25 (list_all (all_pairs nat_lt) t.active) refl) service i j a b h at then);
  day_is = λ service i day at. ltb-true day (length t.bases) (nested_at (λ day. nat_lt day (length t.bases)) t.active (test 26 (list_all (list_all (λ day. nat_lt day (length t.bases))) t.active) refl) service i day at);
  first_is = test 27 (is_day t.first) refl;
  first_early = leb-true 19700101 t.first (test 28 (nat_le 19700101 t.first) refl);
  first_late = leb-true t.first 29991231 (test 29 (nat_le t.first 29991231) refl);
  bases_small = λ day seconds at. is_small-is seconds (all_at is_small t.bases (test 30 (list_all is_small t.bases) refl) day seconds at);
} where
  test : (i : ℕ) (b : Bool) → slice_get (tests t) i ≡ Some b → b ≡ true
  test i b at = all_at (λ test. test) (tests t) e i b at

-- parts that hold its lists are those of a timetable
pub checked_parts : (t : Timetable) → passes t ≡ true → (p : PlanParts) → p.agencies.items ≡ t.agencies
    → p.stops.items ≡ t.stops → p.routes.items ≡ t.routes → p.trips.items ≡ t.trips
    → map (λ v. v.items) p.places.items ≡ t.places → map (λ v. v.items) p.active.items ≡ t.active
    → p.first ≡ t.first → p.bases.items ≡ t.bases → p.patterns.items ≡ t.patterns → p.derived.items ≡ t.derived
    → IsTimetable (table_of p)
checked_parts t e p agencies stops routes trips places active first bases patterns derived =
    let same : table_of p ≡ t = rw (agencies, stops, routes, trips, places, active, first, bases, patterns, derived) refl in
    rw same (checked t e)
