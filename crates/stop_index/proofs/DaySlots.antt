-- The departures of a stop on one day: in order, each once, and the first that is left.
use Rattle.std.proofs.Common.{◌≡◌, ℕ, ◌+◌, ◌-◌, ◌<◌, ◌≤◌, Bool, true, false, not, ◌&&◌, cond, nat_eq, Option, Some, None, List, [], ◌∷◌, length, map, filter, get_or, take, drop, slice_get, count_by, nat_lt, ℤ, ◌≤ℤ◌, ◌<ℤ◌, All, refl, sym, ap, subst, ◌∙◌, arith}
use Rattle.std.specs.List.{list_any, range_with_len}
use Rattle.std.specs.List.Sorted.{IsPartitionedBy, IsPartitionPoint, IsSorted}
use Rattle.std.specs.Ordering.{is_gt, is_lt}
use Rattle.std.proofs.lemmas.Bool.{and_parts, and_from, both_ways, eq-eqb, le-ltb, not-true}
use Rattle.std.proofs.lemmas.Int.{ints}
use Rattle.std.proofs.lemmas.List.{drop_more, nil_from_length}
use Rattle.std.proofs.lemmas.List.Sums.{length-filter}
use Rattle.std.proofs.lemmas.Cmp.{tied_itself}
use Rattle.std.proofs.lemmas.List.Sorted.{ranks_by, sorted_far}
use Rattle.std.proofs.lemmas.Option.{get_or_from_slice_get}
use Rattle.order.proofs.Laws.{IsLeast, IsRising, rising_from_sorted}
use Rattle.sched_types.specs.Timetable.{Timetable, is_run, base_of, places_of, days_of_trip}
use Rattle.sched_types.proofs.DepartureOrder.{filter_between}
use Rattle.stop_index.specs.declared.reached.Reached.{Reached}
use Rattle.stop_index.specs.declared.slot.Slot.{Slot}
use Rattle.stop_index.specs.declared.trip_departure.TripDeparture.{TripDeparture}
use Rattle.stop_index.specs.Slots.{slot_cmp}
use Rattle.stop_index.specs.Index.{departure_cmp}
use Rattle.stop_index.specs.Left.{slot_at, runs_on, slots_from, slots_on, slots_before, is_ahead, is_before, is_left, is_from}
use Rattle.stop_index.specs.First.{IsFirst, soonest}
use Rattle.order.proofs.Counts.{count_fewer, count-map, count-filter, count_never, once_flat, range_once}
use Rattle.order.proofs.Ordered.{is_equal, above_is, rising_drop, rising_filter, sorted_from_rising}
use Rattle.stop_index.proofs.Instants.{slot_total, departure_total, same_slot, seconds_up, on_day, lt_is, lt_not}
use Rattle.stop_index.proofs.Ahead.{ahead_up}
use Rattle.stop_index.proofs.Firsts.{is_same, first_of_rising}
use Rattle.stop_index.proofs.Kept.{filter_both, kept_map}

-- ---- in order

-- none is above a later one
not_above : (departures : List TripDeparture) → IsSorted departure_cmp departures → (i j : ℕ) (d : TripDeparture) → i ≤ j → j < length departures → is_gt (departure_cmp (get_or departures i d) (get_or departures j d)) ≡ false
not_above departures sorted i j d h within =
    above_is departure_total (get_or departures i d) (get_or departures j d)
    ∙ sorted_far (λ x y. is_lt (departure_cmp x y)) (ranks_by departure_total (λ z. z)) departures sorted i j d h within

-- and so the last has the latest time
pub latest : (departures : List TripDeparture) → IsSorted departure_cmp departures → (last : TripDeparture) → slice_get departures (length departures - 1) ≡ Some last → All (λ d. d.seconds ≤ last.seconds) departures
latest departures sorted last at = λ k d h.
    let end : get_or departures (length departures - 1) d ≡ last = get_or_from_slice_get departures (length departures - 1) last d at in
    let up : (get_or departures k d).seconds ≤ (get_or departures (length departures - 1) d).seconds =
    seconds_up (get_or departures k d) (get_or departures (length departures - 1) d) (not_above departures sorted k (length departures - 1) d (omega arith) (omega arith)) in
    omega (arith, ap (λ (x : TripDeparture). x.seconds) end)

-- ---- those that are still to come are the last

module _ (reached : Reached) (base : ℤ) (day : ℕ) where
  abbrev pub ahead : TripDeparture → Bool
  ahead d = is_ahead reached (slot_at base day d)

  ahead_later : (x y : TripDeparture) → is_gt (departure_cmp x y) ≡ false → ahead x ≡ true → ahead y ≡ true
  ahead_later x y up e = ahead_up reached (slot_at base day x) (slot_at base day y) (ap is_gt (on_day base day x y) ∙ up) e

  pub passed_first : (departures : List TripDeparture) → IsSorted departure_cmp departures → IsPartitionedBy (λ d. not (ahead d)) departures
  passed_first departures sorted i j d h within e = by_test (ahead (get_or departures i d)) refl where
    by_test : (b : Bool) → ahead (get_or departures i d) ≡ b → not b ≡ true
    by_test true a =
        let later : ahead (get_or departures j d) ≡ true = ahead_later (get_or departures i d) (get_or departures j d) (not_above departures sorted i j d h within) a in
        let clash : ahead (get_or departures j d) ≡ false = not-true (ahead (get_or departures j d)) e in
        absurd (both_ways (ahead (get_or departures j d)) clash later)
    by_test false a = refl

  pub ahead_are : (departures : List TripDeparture) (first : ℕ) → first ≤ length departures
      → IsPartitionPoint (λ d. not (ahead d) ≡ true) (λ d. not (ahead d) ≡ false) departures first
      → take (length departures - first) (drop first departures) ≡ filter ahead departures
  ahead_are departures first within point =
      filter_between ahead departures first (length departures - first)
      (λ k d h l. not-true (ahead (get_or departures k d)) (point.0 k d (omega arith) h))
      (λ k d h m l. is_true (ahead (get_or departures k d)) (point.1 k d h l))
      (λ k d h l. absurd (omega arith))
    where
      is_true : (b : Bool) → not b ≡ false → b ≡ true
      is_true true e = refl
      is_true false e = cc

-- ---- a rising list of departures

pub rising_of : (departures : List TripDeparture) → IsSorted departure_cmp departures → IsRising departure_total departures
rising_of departures sorted = rising_from_sorted departure_total departures sorted

module _ (t : Timetable) (day : ℕ) where
  abbrev slot : TripDeparture → Slot
  slot = slot_at (base_of t day) day

  least_slots : (x : TripDeparture) (xs : List TripDeparture) → IsLeast departure_total x xs → IsLeast slot_total (slot x) (slots_on t xs day)
  least_slots x [] least = tt
  least_slots x (y ∷ ys) least = by_test (runs_on t day y) (least_slots x ys least.1) where
    by_test : (b : Bool) → IsLeast slot_total (slot x) (slots_on t ys day) → IsLeast slot_total (slot x) (map slot (cond b (y ∷ filter (runs_on t day) ys) (filter (runs_on t day) ys)))
    by_test true rest = (ap is_gt (on_day (base_of t day) day x y) ∙ least.0, rest)
    by_test false rest = rest

  pub rising_slots : (xs : List TripDeparture) → IsRising departure_total xs → IsRising slot_total (slots_on t xs day)
  rising_slots [] up = tt
  rising_slots (x ∷ xs) up = by_test (runs_on t day x) (rising_slots xs up.1) where
    by_test : (b : Bool) → IsRising slot_total (slots_on t xs day) → IsRising slot_total (map slot (cond b (x ∷ filter (runs_on t day) xs) (filter (runs_on t day) xs)))
    by_test true rest = (least_slots x xs up.0, rest)
    by_test false rest = rest

  -- the first in the list is the first in order
  pub first_found : (p : Slot → Bool) (departures : List TripDeparture) (r : Option Slot) → IsSorted departure_cmp departures → r ≡ slice_get (filter p (slots_on t departures day)) 0 → IsFirst p (slots_on t departures day) r
  first_found p departures r sorted is =
      subst (λ o. IsFirst p (slots_on t departures day) o) (sym is)
      (first_of_rising p (slots_on t departures day) (rising_slots departures (rising_of departures sorted)))

-- those that are still to come are in order
pub sorted_ahead : (reached : Reached) (base : ℤ) (day : ℕ) (departures list : List TripDeparture) → list ≡ filter (ahead reached base day) departures → IsSorted departure_cmp departures → IsSorted departure_cmp list
sorted_ahead reached base day departures list is sorted =
    sorted_from_rising departure_total list
    (subst (λ (xs : List TripDeparture). IsRising departure_total xs) (sym is) (rising_filter departure_total (ahead reached base day) departures (rising_of departures sorted)))

-- ---- the runs of a day, by their departures

module _ (t : Timetable) (base : ℤ) (day : ℕ) where
  abbrev run_of : TripDeparture → Slot
  run_of = slot_at base day

  -- what doesn't run adds none, and what runs is the first
  from_idle : (x : TripDeparture) (xs : List TripDeparture) → runs_on t day x ≡ false → slots_from t base day (x ∷ xs) ≡ slots_from t base day xs
  from_idle x xs idle = ap (λ b. map run_of (cond b (x ∷ filter (runs_on t day) xs) (filter (runs_on t day) xs))) idle

  from_here : (x : TripDeparture) (xs : List TripDeparture) → runs_on t day x ≡ true → slots_from t base day (x ∷ xs) ≡ run_of x ∷ slots_from t base day xs
  from_here x xs runs = ap (λ b. map run_of (cond b (x ∷ filter (runs_on t day) xs) (filter (runs_on t day) xs))) runs

  -- none leaves early from one on that doesn't
  none_later : (end : ℤ) (xs : List TripDeparture) (x : TripDeparture) → end ≤ℤ (run_of x).at → IsLeast departure_total x xs → filter (is_before end) (slots_from t base day xs) ≡ []
  none_later end [] x late least = refl
  none_later end (y ∷ ys) x late least = by_run (runs_on t day y) (none_later end ys x late least.1) where
    fails : is_before end (run_of y) ≡ false
    fails = let later : x.seconds ≤ y.seconds = seconds_up x y least.0 in lt_not (run_of y).at end (omega (arith, ints))

    by_run : (c : Bool) → filter (is_before end) (slots_from t base day ys) ≡ [] → filter (is_before end) (map run_of (cond c (y ∷ filter (runs_on t day) ys) (filter (runs_on t day) ys))) ≡ []
    by_run true rest = ap (λ b. cond b (run_of y ∷ filter (is_before end) (slots_from t base day ys)) (filter (is_before end) (slots_from t base day ys))) fails ∙ rest
    by_run false rest = rest

  -- ---- at one of a list of departures

  module _ (list : List TripDeparture) (i : ℕ) (d : TripDeparture) (found : Slot) (h : i < length list) (is : found ≡ run_of (get_or list i d)) where
    own_run : runs_on t day (get_or list i d) ≡ is_run t found.run
    own_run = ap (λ (s : Slot). is_run t s.run) (sym is)

    pub run_next : is_run t found.run ≡ false → slots_from t base day (drop (i + 1) list) ≡ slots_from t base day (drop i list)
    run_next idle = sym (ap (slots_from t base day) (drop_more list i d h) ∙ from_idle (get_or list i d) (drop (i + 1) list) (own_run ∙ idle))

    pub run_found : is_run t found.run ≡ true → slots_from t base day (drop i list) ≡ found ∷ slots_from t base day (drop (i + 1) list)
    run_found runs =
        ap (slots_from t base day) (drop_more list i d h)
        ∙ from_here (get_or list i d) (drop (i + 1) list) (own_run ∙ runs)
        ∙ ap (λ s. s ∷ slots_from t base day (drop (i + 1) list)) (sym is)

    pub run_late : (end : ℤ) → IsSorted departure_cmp list → end ≤ℤ found.at → filter (is_before end) (slots_from t base day (drop i list)) ≡ []
    run_late end sorted late =
        let later : end ≤ℤ (run_of (get_or list i d)).at = subst (λ (s : Slot). end ≤ℤ s.at) is late in
        let up = subst (λ (xs : List TripDeparture). IsRising departure_total xs) (drop_more list i d h) (rising_drop departure_total i list (rising_of list sorted)) in
        ap (λ xs. filter (is_before end) (slots_from t base day xs)) (drop_more list i d h)
        ∙ none_later end (get_or list i d ∷ drop (i + 1) list) (get_or list i d) later (ap is_gt (tied_itself departure_total (get_or list i d)), up.0)

-- the rest of a list in order is in order
pub sorted_drop : (list : List TripDeparture) (i : ℕ) → IsSorted departure_cmp list → IsSorted departure_cmp (drop i list)
sorted_drop list i sorted = sorted_from_rising departure_total (drop i list) (rising_drop departure_total i list (rising_of list sorted))

-- the soonest of a list is one that is found early, and where none is there is none
pub soonest_is : (slots rest : List Slot) (x : Slot) (end : ℤ) → slots ≡ x ∷ rest → x.at <ℤ end → slice_get (filter (is_before end) slots) 0 ≡ Some x
soonest_is slots rest x end is early =
    ap (λ ss. slice_get (filter (is_before end) ss) 0) is
    ∙ ap (λ b. slice_get (cond b (x ∷ filter (is_before end) rest) (filter (is_before end) rest)) 0) (lt_is x.at end early)

pub soonest_none : (t : Timetable) (base : ℤ) (day : ℕ) (end : ℤ) (departures rest : List TripDeparture) → slots_from t base day rest ≡ slots_from t base day departures
    → filter (is_before end) (slots_from t base day rest) ≡ [] → None ≡ soonest t base day end departures
soonest_none t base day end departures rest same none =
    sym (ap (λ ss. slice_get ss 0) none) ∙ ap (λ ss. slice_get (filter (is_before end) ss) 0) same

-- ---- those of a day that come after what was reached

module _ (t : Timetable) (departures : List TripDeparture) (reached : Reached) (day : ℕ) (base : ℤ) where
  -- the runs of those departures that are ahead are those that are ahead
  pub ahead_runs : (list : List TripDeparture) → list ≡ filter (ahead reached base day) departures → base ≡ base_of t day → slots_from t base day list ≡ filter (is_ahead reached) (slots_on t departures day)
  ahead_runs list is same =
      ap (slots_from t base day) is
      ∙ kept_map (slot_at base day) (runs_on t day) (is_ahead reached) departures
      ∙ ap (λ b. filter (is_ahead reached) (slots_from t b day departures)) same

  -- and the soonest of them is the first that is left
  pub soonest_left : (end : ℤ) (list : List TripDeparture) → slots_from t base day list ≡ filter (is_ahead reached) (slots_on t departures day)
      → soonest t base day end list ≡ slice_get (filter (is_left reached end) (slots_on t departures day)) 0
  soonest_left end list runs =
      ap (λ ss. slice_get (filter (is_before end) ss) 0) runs
      ∙ ap (λ ss. slice_get ss 0) (filter_both (is_before end) (is_ahead reached) (slots_on t departures day))

-- none runs past the window
pub none_past : (t : Timetable) (departures : List TripDeparture) (day : ℕ) → length t.bases ≤ day → slots_on t departures day ≡ []
none_past t departures day past =
    let never : nat_lt day (length t.bases) ≡ false = le-ltb day (length t.bases) past in
    ap (map (slot_at (base_of t day) day)) (nil_from_length (filter (runs_on t day) departures)
    (length-filter (runs_on t day) departures ∙ count_never (runs_on t day) departures (λ d. ap (λ b. b && nat_lt 1 (length (places_of t d.trip)) && list_any (λ k. nat_eq k day) (days_of_trip t (slice_get t.trips d.trip))) never)))

-- ---- each departure once

module _ (t : Timetable) (departures : List TripDeparture) (once : (trip place : ℕ) → count_by (is_from trip place) departures ≤ 1) (x : Slot) where
  is_of : (day : ℕ) (d : TripDeparture) → is_same x (slot_at (base_of t day) day d) ≡ true → x ≡ slot_at (base_of t day) day d
  is_of day d e = same_slot x (slot_at (base_of t day) day d) (is_equal (slot_cmp x (slot_at (base_of t day) day d)) e)

  other_day : (day : ℕ) → nat_eq day x.run.day ≡ false → count_by (is_same x) (slots_on t departures day) ≡ 0
  other_day day other =
      count-map (is_same x) (slot_at (base_of t day) day) (filter (runs_on t day) departures)
      ∙ count_never (λ d. is_same x (slot_at (base_of t day) day d)) (filter (runs_on t day) departures) (λ d. by_test d (is_same x (slot_at (base_of t day) day d)) refl)
    where
      by_test : (d : TripDeparture) (b : Bool) → is_same x (slot_at (base_of t day) day d) ≡ b → b ≡ false
      by_test d true e =
          absurd (both_ways (nat_eq day x.run.day) other (eq-eqb day x.run.day (sym (ap (λ (s : Slot). s.run.day) (is_of day d e)))))
      by_test d false e = refl

  pub own_once : (day : ℕ) → count_by (is_same x) (slots_on t departures day) ≤ 1
  own_once day =
      omega (
        arith,
        count-map (is_same x) (slot_at (base_of t day) day) (filter (runs_on t day) departures),
        count-filter (runs_on t day) (λ d. is_same x (slot_at (base_of t day) day d)) departures,
        count_fewer (is_from x.run.trip x.place) (λ d. runs_on t day d && is_same x (slot_at (base_of t day) day d)) from departures,
        once x.run.trip x.place,
      )
    where
      from : (d : TripDeparture) → (runs_on t day d && is_same x (slot_at (base_of t day) day d)) ≡ true → is_from x.run.trip x.place d ≡ true
      from d e =
          let same : x ≡ slot_at (base_of t day) day d = is_of day d ((and_parts (runs_on t day d) (is_same x (slot_at (base_of t day) day d)) e).1) in
          and_from (nat_eq d.trip x.run.trip) (nat_eq d.place x.place)
          (eq-eqb d.trip x.run.trip (sym (ap (λ (s : Slot). s.run.trip) same)))
          (eq-eqb d.place x.place (sym (ap (λ (s : Slot). s.place) same)))

  pub once_before : (days : ℕ) → count_by (is_same x) (slots_before t departures days) ≤ 1
  once_before days = once_flat (is_same x) (λ day. nat_eq day x.run.day) (slots_on t departures) other_day own_once (range_with_len 0 days) (range_once x.run.day 0 days)
