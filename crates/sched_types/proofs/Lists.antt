-- Lists that stand in vectors, and the places of trips.
use Rattle.std.proofs.Common.{◌≡◌, ℕ, ◌+◌, ◌^◌, ◌<◌, ◌≤◌, Bool, List, [], length, map, sum_by, get_or, take, slice_get, unwrap_or, sym, ap, ◌∙◌, arith, ℤ, w64, SFits}
use Rattle.std.proofs.lemmas.Int.{ints}
use Rattle.std.specs.Global.{Vec}
use Rattle.std.proofs.lemmas.List.{get_or-map, length-map}
use Rattle.std.proofs.lemmas.List.FromFn.{get_or-map-range_with_len, length-map-range_with_len}
use Rattle.std.proofs.lemmas.List.Sums.{get_or-le-sum_by, sum_by_more, sum_by-take-le}
use Rattle.std.proofs.lemmas.Option.{unwrap_or-slice_get}
use Rattle.sched_types.specs.declared.rows.Place.{Place}
use Rattle.sched_types.specs.declared.plan.Plan.TheInside.{Inside}
use Rattle.sched_types.specs.Timetable.{Timetable, IsTimetable, IsSmall, places_of, days_of, children_of}
use Rattle.sched_types.specs.Sound.{table_in, days_marked, IsSound}

-- small seconds fit 64 bits
pub fits_seconds : (seconds : ℤ) → IsSmall seconds → SFits w64 seconds
fits_seconds seconds small = omega (arith, ints, small.above, small.below)

-- the list in the vector at a place
pub read_within : {A : Type 0} (vs : List (Vec A)) (i : ℕ) (d : Vec A) → i < length vs → unwrap_or (slice_get (map (λ v. v.items) vs) i) [] ≡ (get_or vs i d).items
read_within vs i d h = unwrap_or-slice_get (map (λ v. v.items) vs) i [] ∙ get_or-map (λ v. v.items) vs i d [] h

-- the places of one more trip
pub taken_more : (vs : List (Vec Place)) (i : ℕ) (trip : Vec Place) → i < length vs → trip ≡ get_or vs i trip → sum_by length (take (i + 1) (map (λ v. v.items) vs)) ≡ sum_by length (take i (map (λ v. v.items) vs)) + length trip.items
taken_more vs i trip h e =
    sum_by_more length (map (λ v. v.items) vs) i [] (omega (arith, length-map vs (λ v. v.items)))
    ∙ ap (λ n. sum_by length (take i (map (λ v. v.items) vs)) + n) (ap length (get_or-map (λ v. v.items) vs i trip [] h ∙ ap (λ v. v.items) (sym e)))

pub taken_le : (vs : List (Vec Place)) (i : ℕ) (trip : Vec Place) → i < length vs → trip ≡ get_or vs i trip → sum_by length (take i (map (λ v. v.items) vs)) + length trip.items ≤ sum_by length (map (λ v. v.items) vs)
taken_le vs i trip h e = omega (arith, taken_more vs i trip h e, sum_by-take-le length (map (λ v. v.items) vs) (i + 1))

-- no trip has more places than all trips together
pub few_places : (t : Timetable) (sound : IsTimetable t) (trip : ℕ) → trip < length t.trips → length (places_of t trip) < 2 ^ 32
few_places t sound trip h = grind (arith, get_or-le-sum_by, unwrap_or-slice_get)

module _ (p : Inside) (sound : IsSound p) where
  -- there is a list of places for each trip, one of marks for each service, and one of children for each stop
  pub length_places : length p.places.items ≡ length p.trips.items
  length_places = sym (length-map p.places.items (λ v. v.items)) ∙ sound.table.places_each

  pub length_running : length p.running.items ≡ length (table_in p).active
  length_running = grind (arith, length-map)

  pub length_children : length p.children.items ≡ length p.stops.items
  length_children = grind (arith, length-map, length-map-range_with_len)

  -- the places that are kept for a trip, and the marks for a service
  pub places_at : (trip : ℕ) (places : Vec Place) → trip < length p.trips.items → places ≡ get_or p.places.items trip places → places.items ≡ places_of (table_in p) trip
  places_at trip places h e = ap (λ v. v.items) e ∙ sym (read_within p.places.items trip places (omega (arith, length_places)))

  pub marks_at : (service : ℕ) (marks : Vec Bool) → service < length (table_in p).active → marks ≡ get_or p.running.items service marks → marks.items ≡ days_marked (length p.bases.items) (days_of (table_in p) service)
  marks_at service marks h e =
      ap (λ v. v.items) e
      ∙ sym (get_or-map (λ v. v.items) p.running.items service marks [] (omega (arith, length_running)))
      ∙ ap (λ l. get_or l service []) sound.running
      ∙ get_or-map (days_marked (length p.bases.items)) (table_in p).active service [] [] h
      ∙ ap (days_marked (length p.bases.items)) (sym (unwrap_or-slice_get (table_in p).active service []))

  -- the children that are kept for a stop
  pub children_at : (stop : ℕ) (d : Vec ℕ) → stop < length p.stops.items → (get_or p.children.items stop d).items ≡ children_of p.stops.items stop
  children_at stop d h =
      sym (get_or-map (λ v. v.items) p.children.items stop d [] (omega (arith, length_children)))
      ∙ ap (λ l. get_or l stop []) sound.children
      ∙ get_or-map-range_with_len (children_of p.stops.items) 0 (length p.stops.items) stop stop [] h (omega arith)
