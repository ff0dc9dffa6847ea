-- Days whose bases rise, and the departures of days that are over or begin too late.
use Rattle.std.proofs.Common.{◌≡◌, ℕ, zero, suc, ◌+◌, ◌-◌, ◌<◌, ◌≤◌, zero-add, append-nil, Bool, true, false, ◌&&◌, List, [], ◌∷◌, ◌++◌, length, filter, slice_get, unwrap_or, count_by, ℤ, pos, ◌+ℤ◌, ◌≤ℤ◌, ◌<ℤ◌, int_lt, int_le, w64, Option, Some, None, inl, inr, refl, sym, ap, subst, ◌∙◌, arith}
use Rattle.std.specs.List.{flat_map, list_all, range_with_len, AllByRecursion}
use Rattle.std.specs.List.Sorted.{IsSorted}
use Rattle.std.proofs.lemmas.Bool.{and_right, cases_lt}
use Rattle.std.proofs.lemmas.Int.{ints, to_z-of_z}
use Rattle.std.proofs.lemmas.List.Concat.{flat_map-append}
use Rattle.std.proofs.lemmas.List.Folds.{list_all-append, list_all_at}
use Rattle.std.proofs.lemmas.List.FromFn.{length-range_with_len, get_or-range_with_len}
use Rattle.std.proofs.lemmas.Option.{slice_get-get_or}
use Rattle.order.proofs.Lists.{range_more}
use Rattle.sched_types.specs.Timetable.{Timetable, IsSmall, base_of}
use Rattle.sched_types.proofs.Checks.{all_at}
use Rattle.sched_types.proofs.Lists.{fits_seconds}
use Rattle.stop_index.specs.declared.reached.Reached.{Reached}
use Rattle.stop_index.specs.declared.slot.Slot.{Slot}
use Rattle.stop_index.specs.declared.trip_departure.TripDeparture.{TripDeparture}
use Rattle.stop_index.specs.Index.{departure_cmp, days_are_rising}
use Rattle.stop_index.specs.Left.{slot_at, runs_on, slots_on, others_on, others_before, is_ahead, is_left, instant_of, IsOver}
use Rattle.stop_index.specs.First.{IsFirst, earlier_of, until_of}
use Rattle.order.proofs.Counts.{one_not, count-cons, count-map, count-filter, count_never, count_range_none}
use Rattle.stop_index.proofs.Instants.{wrapped, is_le_z, le_is, is_lt_z, not_lt_z}
use Rattle.stop_index.proofs.Ahead.{not_ahead, not_left}
use Rattle.stop_index.proofs.Others.{none_other, other_found}
use Rattle.stop_index.proofs.Firsts.{first_joined, earlier_none}

-- ---- numbers one after another

pub range_split : (a m n : ℕ) → range_with_len a (m + n) ≡ range_with_len a m ++ range_with_len (a + m) n
range_split a zero n =
    let size : 0 + n ≡ n = omega arith in
    let start : a + 0 ≡ a = omega arith in
    ap (range_with_len a) size ∙ ap (λ k. range_with_len k n) (sym start)
range_split a (suc m) n =
    let size : suc m + n ≡ suc (m + n) = omega arith in
    let start : a + 1 + m ≡ a + suc m = omega arith in
    ap (range_with_len a) size ∙ ap (λ ks. a ∷ ks) (range_split (a + 1) m n) ∙ ap (λ k. a ∷ (range_with_len (a + 1) m ++ range_with_len k n)) start

-- what comes of numbers up to one, and of those after these
pub flat_split : {X : Type 0} (f : ℕ → List X) (day more n : ℕ) → day + more ≡ n → flat_map f (range_with_len 0 n) ≡ flat_map f (range_with_len 0 day) ++ flat_map f (range_with_len day more)
flat_split f day more n size =
    let start : 0 + day ≡ day = omega arith in
    ap (λ k. flat_map f (range_with_len 0 k)) (sym size)
    ∙ ap (flat_map f) (range_split 0 day more ∙ ap (λ k. range_with_len 0 day ++ range_with_len k more) start)
    ∙ flat_map-append f (range_with_len 0 day) (range_with_len day more)

pub flat_more : {X : Type 0} (f : ℕ → List X) (day : ℕ) → flat_map f (range_with_len 0 (day + 1)) ≡ flat_map f (range_with_len 0 day) ++ f day
flat_more f day =
    ap (flat_map f) (range_more 0 day day (omega arith))
    ∙ flat_map-append f (range_with_len 0 day) (day ∷ [])
    ∙ ap (λ xs. flat_map f (range_with_len 0 day) ++ xs) (append-nil (f day))

-- ---- rising days

module _ (t : Timetable) where
  abbrev pub is_next_later : ℕ → Bool
  is_next_later day = int_le (base_of t day) (base_of t (day + 1))

  -- the days up to one rise, and one more
  pub rise_more : (day : ℕ) → list_all is_next_later (range_with_len 0 day) ≡ true → base_of t day ≤ℤ base_of t (day + 1) → list_all is_next_later (range_with_len 0 (day + 1)) ≡ true
  rise_more day so_far h =
      ap (list_all is_next_later) (range_more 0 day day (omega arith))
      ∙ list_all-append is_next_later (range_with_len 0 day) (day ∷ [])
      ∙ ap (λ b. b && (is_next_later day && true)) so_far
      ∙ ap (λ b. b && true) (le_is (base_of t day) (base_of t (day + 1)) h)

  not_later : (a b : ℤ) → b <ℤ a → int_le a b ≡ false
  not_later a b h = grind (arith, ints)

  -- some day doesn't
  pub rise_not : (day : ℕ) → day < length t.bases - 1 → base_of t (day + 1) <ℤ base_of t day → days_are_rising t ≡ false
  rise_not day h below =
      list_all_at is_next_later (range_with_len 0 (length t.bases - 1)) day 0 (omega (arith, length-range_with_len 0 (length t.bases - 1)))
      (ap is_next_later (get_or-range_with_len 0 (length t.bases - 1) day 0 h ∙ zero-add day) ∙ not_later (base_of t day) (base_of t (day + 1)) below)

  module _ (rise : days_are_rising t ≡ true) where
    step_up : (day : ℕ) → day + 1 < length t.bases → base_of t day ≤ℤ base_of t (day + 1)
    step_up day h =
        let all = range_with_len 0 (length t.bases - 1) in
        let within : day < length t.bases - 1 = omega arith in
        let at : slice_get all day ≡ Some day =
        slice_get-get_or all day 0 (omega (arith, length-range_with_len 0 (length t.bases - 1)))
        ∙ ap Some (get_or-range_with_len 0 (length t.bases - 1) day 0 within ∙ zero-add day) in
        is_le_z (base_of t day) (base_of t (day + 1)) (all_at is_next_later all rise day day at)

    steps_up : (day more : ℕ) → day + more < length t.bases → base_of t day ≤ℤ base_of t (day + more)
    steps_up day zero h = let same : day + 0 ≡ day = omega arith in subst (λ k. base_of t day ≤ℤ base_of t k) (sym same) (omega (arith, ints))
    steps_up day (suc more) h =
        let same : day + more + 1 ≡ day + suc more = omega arith in
        let before : base_of t day ≤ℤ base_of t (day + more) = steps_up day more (omega arith) in
        let last : base_of t (day + more) ≤ℤ base_of t (day + more + 1) = step_up (day + more) (omega arith) in
        subst (λ k. base_of t day ≤ℤ base_of t k) same (omega (arith, ints))

    pub rising : (i j : ℕ) → i ≤ j → j < length t.bases → base_of t i ≤ℤ base_of t j
    rising i j h within =
        let same : i + (j - i) ≡ j = omega arith in
        subst (λ k. base_of t i ≤ℤ base_of t k) same (steps_up i (j - i) (omega arith))

  -- ---- bases

  base_is : (day : ℕ) (base : ℤ) → slice_get t.bases day ≡ Some base → base_of t day ≡ base
  base_is day base at = ap (λ o. unwrap_or o (pos 0)) at

  -- the base that a look-up gives
  pub looked_up : (day : ℕ) (base : ℤ) → slice_get t.bases day ≡ Some base → IsSmall base → wrapped base ≡ base_of t day
  looked_up day base at small = to_z-of_z w64 base (fits_seconds base small) ∙ sym (base_is day base at)

  -- ---- departures of a day, none of which passes

  pub none_on : (p : Slot → Bool) (departures : List TripDeparture) (day : ℕ) → ((d : TripDeparture) → p (slot_at (base_of t day) day d) ≡ false) → count_by p (slots_on t departures day) ≡ 0
  none_on p departures day never =
      count-map p (slot_at (base_of t day) day) (filter (runs_on t day) departures)
      ∙ count_never (λ d. p (slot_at (base_of t day) day d)) (filter (runs_on t day) departures) never

  -- no departure is left of days that begin later
  pub none_late : (reached : Reached) (end : ℤ) (departures : List TripDeparture) (apart day more : ℕ) → days_are_rising t ≡ true → day + more ≤ length t.bases → end ≤ℤ base_of t day
      → count_by (is_left reached end) (flat_map (others_on t departures apart) (range_with_len day more)) ≡ 0
  none_late reached end departures apart day more rise within late =
      count_range_none (is_left reached end) (others_on t departures apart) day more
      (λ k h l. none_other (is_left reached end) t departures apart k (none_on (is_left reached end) departures k
      (λ d. let up : base_of t day ≤ℤ base_of t k = rising rise day k h (omega arith) in
      not_left reached end (slot_at (base_of t k) k d) (omega (arith, ints)))))

  -- ---- days that are over

  module _ (reached : Reached) (longest : ℕ) (day : ℕ) (ends : (base_of t day +ℤ pos longest) <ℤ instant_of reached) where
    over_each : (departures : List TripDeparture) → AllByRecursion (λ d. d.seconds ≤ longest) departures → count_by (λ d. runs_on t day d && is_ahead reached (slot_at (base_of t day) day d)) departures ≡ 0
    over_each [] short = refl
    over_each (d ∷ ds) short =
        let within : d.seconds ≤ longest = short.0 in
        let before : is_ahead reached (slot_at (base_of t day) day d) ≡ false = not_ahead reached (slot_at (base_of t day) day d) (omega (arith, ints)) in
        omega (
          arith,
          count-cons (λ z. runs_on t day z && is_ahead reached (slot_at (base_of t day) day z)) d ds,
          one_not (runs_on t day d && is_ahead reached (slot_at (base_of t day) day d)) (and_right (runs_on t day d) (is_ahead reached (slot_at (base_of t day) day d)) before),
          over_each ds short.1,
        )

    over_on : (departures : List TripDeparture) → AllByRecursion (λ d. d.seconds ≤ longest) departures → count_by (is_ahead reached) (slots_on t departures day) ≡ 0
    over_on departures short =
        count-map (is_ahead reached) (slot_at (base_of t day) day) (filter (runs_on t day) departures)
        ∙ count-filter (runs_on t day) (λ d. is_ahead reached (slot_at (base_of t day) day d)) departures
        ∙ over_each departures short

  pub over_before : (reached : Reached) (longest : ℕ) (departures : List TripDeparture) (day : ℕ) → AllByRecursion (λ d. d.seconds ≤ longest) departures → day ≤ length t.bases
      → ((k : ℕ) → k < day → (base_of t k +ℤ pos longest) <ℤ instant_of reached) → IsOver t departures reached day
  over_before reached longest departures day short within ends = record {
    within = within;
    none = count_range_none (is_ahead reached) (slots_on t departures) 0 day (λ k h l. over_on reached longest k (ends k (omega arith)) departures short);
  }

-- ---- the first that is left of all days but one, day by day

module _ (t : Timetable) (reached : Reached) (end : ℤ) (departures : List TripDeparture) (apart day : ℕ) (best : Option Slot) (u : ℤ) (until : u ≡ until_of best end) where
  -- one day more
  pub first_more : (found r : Option Slot) → IsSorted departure_cmp departures → IsFirst (is_left reached end) (others_before t departures apart day) best
      → found ≡ slice_get (filter (is_left reached u) (others_on t departures apart day)) 0 → r ≡ earlier_of best found → IsFirst (is_left reached end) (others_before t departures apart (day + 1)) r
  first_more found r sorted so_far is earlier =
      let here : IsFirst (is_left reached (until_of best end)) (others_on t departures apart day) found =
      subst (λ z. IsFirst (is_left reached z) (others_on t departures apart day) found) until (other_found (is_left reached u) t departures apart day found sorted is) in
      let joined = first_joined reached end (others_before t departures apart day) (others_on t departures apart day) best found so_far here in
      subst (λ (ss : List Slot). IsFirst (is_left reached end) ss r) (sym (flat_more (others_on t departures apart) day))
      (subst (λ (o : Option Slot). IsFirst (is_left reached end) (others_before t departures apart day ++ others_on t departures apart day) o) (sym earlier) joined)

  -- none of the days from this one on has one
  pub first_of_all : (n : ℕ) → n ≡ length t.bases → day ≤ n → days_are_rising t ≡ true → u ≤ℤ base_of t day → IsFirst (is_left reached end) (others_before t departures apart day) best → IsFirst (is_left reached end) (others_before t departures apart n) best
  first_of_all n all within rise late so_far =
      let size : day + (n - day) ≡ n = omega arith in
      let none : IsFirst (is_left reached (until_of best end)) (flat_map (others_on t departures apart) (range_with_len day (n - day))) None =
      subst (λ z. count_by (is_left reached z) (flat_map (others_on t departures apart) (range_with_len day (n - day))) ≡ 0) until (none_late t reached u departures apart day (n - day) rise (omega (arith, all)) late) in
      let joined = first_joined reached end (others_before t departures apart day) (flat_map (others_on t departures apart) (range_with_len day (n - day))) best None so_far none in
      subst (λ (ss : List Slot). IsFirst (is_left reached end) ss best) (sym (flat_split (others_on t departures apart) day (n - day) n size))
      (subst (λ (o : Option Slot). IsFirst (is_left reached end) (others_before t departures apart day ++ flat_map (others_on t departures apart) (range_with_len day (n - day))) o) (earlier_none best) joined)

-- ---- a pass over the days

module _ (t : Timetable) (day : ℕ) (here before : ℤ) (from : 1 ≤ day) (at : slice_get t.bases day ≡ Some here) (at_before : slice_get t.bases (day - 1) ≡ Some before) (small : IsSmall here) (small_before : IsSmall before) where
  is_here : base_of t (day - 1 + 1) ≡ here
  is_here = let same : day - 1 + 1 ≡ day = omega arith in ap (base_of t) same ∙ base_is t day here at

  is_before : base_of t (day - 1) ≡ before
  is_before = base_is t (day - 1) before at_before

  plain : wrapped here ≡ here
  plain = to_z-of_z w64 here (fits_seconds here small)

  plain_before : wrapped before ≡ before
  plain_before = to_z-of_z w64 before (fits_seconds before small_before)

  pub rise_step : int_lt (wrapped here) (wrapped before) ≡ false → list_all (is_next_later t) (range_with_len 0 (day - 1)) ≡ true → list_all (is_next_later t) (range_with_len 0 (day + 1 - 1)) ≡ true
  rise_step not_below so_far =
      let size : day + 1 - 1 ≡ day - 1 + 1 = omega arith in
      let up : before ≤ℤ here = not_lt_z here before (ap (λ z. int_lt z before) (sym plain) ∙ ap (int_lt (wrapped here)) (sym plain_before) ∙ not_below) in
      ap (λ n. list_all (is_next_later t) (range_with_len 0 n)) size
      ∙ rise_more t (day - 1) so_far (subst (λ z. base_of t (day - 1) ≤ℤ z) (sym is_here) (subst (λ z. z ≤ℤ here) (sym is_before) up))

  pub rise_fails : day < length t.bases → int_lt (wrapped here) (wrapped before) ≡ true → false ≡ days_are_rising t
  rise_fails within below =
      let down : here <ℤ before = is_lt_z here before (ap (λ z. int_lt z before) (sym plain) ∙ ap (int_lt (wrapped here)) (sym plain_before) ∙ below) in
      sym (rise_not t (day - 1) (omega arith) (subst (λ z. z <ℤ base_of t (day - 1)) (sym is_here) (subst (λ z. here <ℤ z) (sym is_before) down)))

pub rise_all : (t : Timetable) (day : ℕ) → 1 ≤ day → length t.bases ≤ day → (1 ≤ length t.bases → day ≤ length t.bases) → list_all (is_next_later t) (range_with_len 0 (day - 1)) ≡ true → true ≡ days_are_rising t
rise_all t day from past up_to so_far = elim (cases_lt 0 (length t.bases)) [
  | inl some ↦
      let size : day - 1 ≡ length t.bases - 1 = omega (arith, up_to (omega arith)) in
      sym so_far ∙ ap (λ n. list_all (is_next_later t) (range_with_len 0 n)) size
  | inr none ↦
      let size : 0 ≡ length t.bases - 1 = omega arith in
      ap (λ n. list_all (is_next_later t) (range_with_len 0 n)) size
]

-- ---- the days that a search keeps apart

-- the days before low end before an instant, and low and high are days of the window or its end
pub record AreBefore (t : Timetable) (longest : ℕ) (instant : ℤ) (low high : ℕ) : Type 0 where
  pub ordered : low ≤ high
  pub within : high ≤ length t.bases
  pub before : (day : ℕ) → day < low → (base_of t day +ℤ pos longest) <ℤ instant

module _ (t : Timetable) (longest : ℕ) (instant : ℤ) where
  pub before_none : (days : ℕ) → days ≡ length t.bases → AreBefore t longest instant 0 days
  before_none days all = record { ordered = omega arith; within = omega arith; before = λ day h. absurd (omega arith) }

  -- a day that ends before the instant, with all before it
  pub before_low : (low high middle : ℕ) → AreBefore t longest instant low high → days_are_rising t ≡ true → middle < high → int_lt (base_of t middle +ℤ pos longest) instant ≡ true → AreBefore t longest instant (middle + 1) high
  before_low low high middle are rise h ends = record {
    ordered = omega arith;
    within = are.within;
    before = λ day l.
        let within : middle < length t.bases = omega (arith, are.within) in
        let up : base_of t day ≤ℤ base_of t middle = rising t rise day middle (omega arith) within in
        let over : (base_of t middle +ℤ pos longest) <ℤ instant = is_lt_z (base_of t middle +ℤ pos longest) instant ends in
        omega (arith, ints);
  }

  pub before_high : (low high middle : ℕ) → AreBefore t longest instant low high → low ≤ middle → middle < high → AreBefore t longest instant low middle
  before_high low high middle are h l = record { ordered = h; within = omega (arith, are.within); before = are.before }
