-- What is true of each trip with its places.
use Rattle.std.proofs.Common.{◌≡◌, ℕ, suc, ◌+◌, ◌^◌, ◌<◌, ◌≤◌, List, [], ◌∷◌, length, map, get_or, slice_get, Some, unwrap_or, refl, sym, ap, subst, ◌∙◌, arith}
use Rattle.std.specs.List.{All}
use Rattle.std.proofs.lemmas.List.Elements.{All-map}
use Rattle.std.proofs.lemmas.List.Sums.{get_or-le-sum_by}
use Rattle.std.proofs.lemmas.Option.{none-some, slice_get-get_or, slice_get_within, get_or_from_slice_get}
use Rattle.freq_runs.specs.Trips.{time_end, ComeAfter, AreInOrder, IsPattern}
use Rattle.sched_types.specs.declared.rows.Place.{Place}
use Rattle.sched_types.specs.Timetable.{Timetable, IsTimetable, RisesById, places_of}
use Rattle.sched_load_defs.specs.Frequencies.{TimedTrip, id_of, timed_trips, place_time, pattern_of}
use Rattle.freq_parts.specs.Conditions.{IsPlain}
use Rattle.freq_parts.proofs.Zipped.{zip_parts}
use Rattle.freq_parts.proofs.Shifted.{places_at, first_departure, comes, length-places_at, small_shifted, stays_shifted, moves_shifted}

-- places of a trip in a timetable
pub record PlacesFit (t : Timetable) (places : List Place) : Type 0 where
  pub few : length places < 2 ^ 32
  pub stop_is : (i : ℕ) (place : Place) → slice_get places i ≡ Some place → place.stop < length t.stops
  pub pickup_is : (i : ℕ) (place : Place) → slice_get places i ≡ Some place → place.pickup ≤ 3
  pub arrival_small : (i : ℕ) (place : Place) → slice_get places i ≡ Some place → place.arrival < 2 ^ 32
  pub departure_small : (i : ℕ) (place : Place) → slice_get places i ≡ Some place → place.departure < 2 ^ 32
  pub sequences_rise : (i j : ℕ) (p q : Place) → i < j → slice_get places i ≡ Some p → slice_get places j ≡ Some q → p.sequence < q.sequence
  pub stays : (i : ℕ) (place : Place) → 1 < length places → slice_get places i ≡ Some place → place.arrival ≤ place.departure
  pub moves : (i : ℕ) (p q : Place) → slice_get places i ≡ Some p → slice_get places (suc i) ≡ Some q → p.departure ≤ q.arrival

pub record FitsIn (t : Timetable) (timed : TimedTrip) : Type 0 where
  pub route_is : timed.0.route < length t.routes
  pub service_is : timed.0.service < length t.active
  pub direction_is : (direction : ℕ) → timed.0.direction ≡ Some direction → direction ≤ 1
  pub places : PlacesFit t timed.1

-- at times that a file may have
pub record IsEarly (places : List Place) : Type 0 where
  pub arrives : (i : ℕ) (place : Place) → slice_get places i ≡ Some place → place.arrival < time_end
  pub departs : (i : ℕ) (place : Place) → slice_get places i ≡ Some place → place.departure < time_end

pub none_fit : (t : Timetable) → PlacesFit t []
none_fit t = record {
  few = omega arith;
  stop_is = λ i place at. absurd (none-some place at);
  pickup_is = λ i place at. absurd (none-some place at);
  arrival_small = λ i place at. absurd (none-some place at);
  departure_small = λ i place at. absurd (none-some place at);
  sequences_rise = λ i j p q l at then. absurd (none-some p at);
  stays = λ i place many at. absurd (none-some place at);
  moves = λ i p q at then. absurd (none-some p at);
}

-- what all items are, one is
pub all_at : {X : Type 0} (P : X → Type 0) (xs : List X) (i : ℕ) (x : X) → slice_get xs i ≡ Some x → All P xs → P x
all_at P xs i x at all = subst P (get_or_from_slice_get xs i x x at) (all i x (slice_get_within xs i x at))

-- ---- the trips of a timetable

fits_at : (t : Timetable) → IsTimetable t → (k : ℕ) (timed : TimedTrip) → slice_get t.trips k ≡ Some timed.0 → slice_get t.places k ≡ Some timed.1 → FitsIn t timed
fits_at t sound k timed trip_at places_at =
    let own : places_of t k ≡ timed.1 = ap (λ found. unwrap_or found []) places_at in
    let within = slice_get_within t.places k timed.1 places_at in
    let next : (i : ℕ) → suc i ≡ i + 1 = λ i. omega arith in
    record {
      route_is = sound.route_is k timed.0 trip_at;
      service_is = sound.service_is k timed.0 trip_at;
      direction_is = λ direction is. sound.direction_is k direction timed.0 trip_at is;
      places = record {
        few = omega (arith, sound.few_times, get_or-le-sum_by length t.places k timed.1 within, ap length (get_or_from_slice_get t.places k timed.1 timed.1 places_at));
        stop_is = λ i place at. sound.stop_is k i place (ap (λ ps. slice_get ps i) own ∙ at);
        pickup_is = λ i place at. sound.pickup_is k i place (ap (λ ps. slice_get ps i) own ∙ at);
        arrival_small = λ i place at. sound.arrival_small k i place (ap (λ ps. slice_get ps i) own ∙ at);
        departure_small = λ i place at. sound.departure_small k i place (ap (λ ps. slice_get ps i) own ∙ at);
        sequences_rise = λ i j p q l at then. sound.sequences_rise k i j p q l (ap (λ ps. slice_get ps i) own ∙ at) (ap (λ ps. slice_get ps j) own ∙ then);
        stays = λ i place many at. sound.stays k i place (omega (arith, many, ap length own)) (ap (λ ps. slice_get ps i) own ∙ at);
        moves = λ i p q at then. sound.moves k i p q (ap (λ ps. slice_get ps i) own ∙ at) (ap (λ ps. slice_get ps (i + 1)) own ∙ ap (slice_get timed.1) (sym (next i)) ∙ then);
      };
    }

pub all_fit : (t : Timetable) → IsTimetable t → All (FitsIn t) (timed_trips t)
all_fit t sound k d l =
    let timed = get_or (timed_trips t) k d in
    let parts = zip_parts t.trips t.places k timed (slice_get-get_or (timed_trips t) k d l) in
    fits_at t sound k timed parts.0 parts.1

pub all_early : (t : Timetable) → IsPlain t → All (λ (timed : TimedTrip). IsEarly timed.1) (timed_trips t)
all_early t plain k d l =
    let timed = get_or (timed_trips t) k d in
    let parts = zip_parts t.trips t.places k timed (slice_get-get_or (timed_trips t) k d l) in
    let own : places_of t k ≡ timed.1 = ap (λ found. unwrap_or found []) parts.1 in
    record {
      arrives = λ i place at. plain.arrives_early k i place (ap (λ ps. slice_get ps i) own ∙ at);
      departs = λ i place at. plain.departs_early k i place (ap (λ ps. slice_get ps i) own ∙ at);
    }

pub timed_rise : (t : Timetable) → IsTimetable t → RisesById id_of (timed_trips t)
timed_rise t sound = record {
  rise = λ i j x y l at then. sound.trips_rise.rise i j x.0 y.0 l (zip_parts t.trips t.places i x at).0 (zip_parts t.trips t.places j y then).0;
}

-- ---- patterns

come_after : (place : Place) (rest : List Place) → ((i : ℕ) (p q : Place) → slice_get (place ∷ rest) i ≡ Some p → slice_get rest i ≡ Some q → p.departure ≤ q.arrival)
    → ((i : ℕ) (p : Place) → slice_get rest i ≡ Some p → p.arrival ≤ p.departure) → ((i : ℕ) (p : Place) → slice_get rest i ≡ Some p → p.departure < time_end) → ComeAfter place.departure (map place_time rest)
come_after place [] moves stays early = tt
come_after place (next ∷ rest) moves stays early = (
  moves 0 place next refl refl,
  stays 0 next refl,
  early 0 next refl,
  come_after next rest (λ i p q at then. moves (suc i) p q at then) (λ i p at. stays (suc i) p at) (λ i p at. early (suc i) p at),
)

in_order : (t : Timetable) (places : List Place) → PlacesFit t places → IsEarly places → AreInOrder (map place_time places)
in_order t [] fits early = tt
in_order t (place ∷ rest) fits early = (
  early.departs 0 place refl,
  come_after place rest fits.moves (λ i p at. fits.stays (suc i) p (omega (arith, slice_get_within rest i p at)) at) (λ i p at. early.departs (suc i) p at),
)

pub are_patterns : (t : Timetable) (patterns : List TimedTrip) → All (FitsIn t) patterns → All (λ (timed : TimedTrip). IsEarly timed.1) patterns → All IsPattern (map pattern_of patterns)
are_patterns t patterns fits early =
    All-map IsPattern pattern_of patterns
    (λ k d l. record { times_are = in_order t (get_or patterns k d).1 (fits k d l).places (early k d l) })

-- ---- derived trips

pub derived_fit : (t : Timetable) (places : List Place) (start : ℕ) → PlacesFit t places → IsEarly places → start < time_end → PlacesFit t (places_at places start)
derived_fit t places start fits early starts =
    let first = first_departure places in
    record {
      few = omega (arith, fits.few, length-places_at places start);
      stop_is = λ i place at. let c = comes places start i place at in omega (arith, c.stop, fits.stop_is i c.own c.at);
      pickup_is = λ i place at. let c = comes places start i place at in omega (arith, c.pickup, fits.pickup_is i c.own c.at);
      arrival_small = λ i place at. let c = comes places start i place at in omega (arith, c.arrival, small_shifted first start i (c.own).arrival time_end (early.arrives i c.own c.at) starts);
      departure_small = λ i place at. let c = comes places start i place at in omega (arith, c.departure, small_shifted first start i (c.own).departure time_end (early.departs i c.own c.at) starts);
      sequences_rise = λ i j p q l at then.
          let c = comes places start i p at in
          let d = comes places start j q then in
          omega (arith, c.sequence, d.sequence, fits.sequences_rise i j c.own d.own l c.at d.at);
      stays = λ i place many at.
          let c = comes places start i place at in
          omega (arith, c.arrival, c.departure, stays_shifted first start i (c.own).arrival (c.own).departure (fits.stays i c.own (omega (arith, many, length-places_at places start)) c.at));
      moves = λ i p q at then.
          let c = comes places start i p at in
          let d = comes places start (suc i) q then in
          omega (arith, c.departure, d.arrival, moves_shifted first start i (c.own).departure (d.own).arrival (fits.moves i c.own d.own c.at d.at));
    }
