-- The places of a derived trip, of which the times are moved.
use Rattle.std.proofs.Common.{◌≡◌, ℕ, zero, suc, ◌+◌, ◌-◌, ◌<◌, ◌≤◌, List, [], ◌∷◌, length, map, zip, slice_get, Some, None, refl, sym, ap, ◌∙◌, arith, Option}
use Rattle.std.specs.Option.{option_map}
use Rattle.std.proofs.lemmas.List.{length-map}
use Rattle.std.proofs.lemmas.Option.{none-some, same_Some, slice_get-map}
use Rattle.freq_runs.specs.Trips.{moved, times_from}
use Rattle.sched_types.specs.declared.rows.Place.{Place}
use Rattle.sched_load_defs.specs.Frequencies.{at_time, place_time}

-- the places of a pattern as they are of a trip that begins at a start
abbrev pub places_at : List Place → ℕ → List Place
places_at places start = map at_time (zip places (times_from (map place_time places) start))

-- when a place is reached or left, by its number and by that time of the pattern
abbrev pub shifted : ℕ → ℕ → ℕ → ℕ → ℕ
shifted first start zero time = start
shifted first start (suc i) time = time - first + start

abbrev pub first_departure : List Place → ℕ
first_departure [] = 0
first_departure (place ∷ places) = place.departure

shift : ℕ → ℕ → Place → Place
shift first start place = record place { arrival = place.arrival - first + start; departure = place.departure - first + start }

rest_shifted : (first start : ℕ) (rest : List Place) → map at_time (zip rest (map (moved first start) (map place_time rest))) ≡ map (shift first start) rest
unfolding shift
rest_shifted first start [] = refl
rest_shifted first start (place ∷ rest) = ap (λ places. shift first start place ∷ places) (rest_shifted first start rest)

-- the place of the pattern that a place is
pub record Comes (places : List Place) (start : ℕ) (i : ℕ) (place : Place) : Type 0 where
  pub own : Place
  pub at : slice_get places i ≡ Some own
  pub stop : place.stop ≡ own.stop
  pub sequence : place.sequence ≡ own.sequence
  pub pickup : place.pickup ≡ own.pickup
  pub arrival : place.arrival ≡ shifted (first_departure places) start i own.arrival
  pub departure : place.departure ≡ shifted (first_departure places) start i own.departure

of_rest : (first : Place) (rest : List Place) (start i : ℕ) (place : Place) (found : Option Place) → slice_get rest i ≡ found → option_map (shift first.departure start) found ≡ Some place → Comes (first ∷ rest) start (suc i) place
unfolding shift
of_rest first rest start i place None at e = absurd (none-some place e)
of_rest first rest start i place (Some own) at e =
    let is = same_Some (shift first.departure start own) place e in
    record {
      own = own;
      at = at;
      stop = ap (λ (p : Place). p.stop) (sym is);
      sequence = ap (λ (p : Place). p.sequence) (sym is);
      pickup = ap (λ (p : Place). p.pickup) (sym is);
      arrival = ap (λ (p : Place). p.arrival) (sym is);
      departure = ap (λ (p : Place). p.departure) (sym is);
    }

pub comes : (places : List Place) (start i : ℕ) (place : Place) → slice_get (places_at places start) i ≡ Some place → Comes places start i place
comes [] start i place at = absurd (none-some place at)
comes (first ∷ rest) start zero place at =
    let is = same_Some _ place at in
    record {
      own = first;
      at = refl;
      stop = ap (λ (p : Place). p.stop) (sym is);
      sequence = ap (λ (p : Place). p.sequence) (sym is);
      pickup = ap (λ (p : Place). p.pickup) (sym is);
      arrival = ap (λ (p : Place). p.arrival) (sym is);
      departure = ap (λ (p : Place). p.departure) (sym is);
    }
comes (first ∷ rest) start (suc i) place at =
    of_rest first rest start i place (slice_get rest i) refl
    (sym (slice_get-map (shift first.departure start) rest i) ∙ ap (λ places. slice_get places i) (sym (rest_shifted first.departure start rest)) ∙ at)

pub length-places_at : (places : List Place) (start : ℕ) → length (places_at places start) ≡ length places
length-places_at [] start = refl
length-places_at (first ∷ rest) start = ap (λ places. suc (length places)) (rest_shifted first.departure start rest) ∙ ap suc (length-map rest (shift first.departure start))

-- a time that is moved stays small, and in order
pub small_shifted : (first start i time bound : ℕ) → time < bound → start < bound → shifted first start i time < bound + bound
small_shifted first start zero time bound early starts = omega (arith, starts)
small_shifted first start (suc i) time bound early starts = omega (arith, starts, early)

pub stays_shifted : (first start i arrival departure : ℕ) → arrival ≤ departure → shifted first start i arrival ≤ shifted first start i departure
stays_shifted first start zero arrival departure stays = omega arith
stays_shifted first start (suc i) arrival departure stays = omega (arith, stays)

pub moves_shifted : (first start i departure arrival : ℕ) → departure ≤ arrival → shifted first start i departure ≤ shifted first start (suc i) arrival
moves_shifted first start zero departure arrival moves = omega arith
moves_shifted first start (suc i) departure arrival moves = omega (arith, moves)
