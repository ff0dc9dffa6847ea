-- An iterator goes on: by the day at which it stands, or to the day of the first of all others.
use Rattle.std.proofs.Common.{◌≡◌, ℕ, suc, zero, ◌+◌, ◌<◌, ◌≤◌, Bool, true, false, ◌&&◌, cond, nat_eq, nat_lt, Option, Some, None, List, [], ◌∷◌, ◌++◌, length, filter, count_by, ℤ, inl, inr, refl, sym, ap, subst, ◌∙◌, Less, Equal, Greater, arith}
use Rattle.std.specs.Prelude.{if◌then◌else◌, IfSome}
use Rattle.std.specs.List.Sorted.{IsSorted}
use Rattle.std.specs.Ordering.{is_eq, is_gt, is_lt}
use Rattle.std.specs.declared.cmp.Ordering.{Ordering}
use Rattle.std.proofs.lemmas.Bool.{and_parts, and_from, eqb-true, eqb-false, lt-ltb, le-ltb, cases_lt}
use Rattle.std.proofs.lemmas.Cmp.{tied_itself}
use Rattle.std.proofs.lemmas.List.Elements.{filter_passes, All-same}
use Rattle.order.proofs.Counts.{one_is, not_one, count-cons, count-append, count-filter, count_fewer, none_fewer, SameItems}
use Rattle.order.proofs.Laws.{IsLeast, IsRising}
use Rattle.order.proofs.Ordered.{rising_filter}
use Rattle.sched_types.specs.Timetable.{Timetable}
use Rattle.stop_index.specs.declared.reached.Reached.{Reached}
use Rattle.stop_index.specs.declared.reached.Reached.TheVariants.{Departure}
use Rattle.stop_index.specs.declared.slot.Slot.{Slot}
use Rattle.stop_index.specs.declared.trip_departure.TripDeparture.{TripDeparture}
use Rattle.stop_index.specs.Slots.{slot_cmp}
use Rattle.stop_index.specs.Index.{departure_cmp}
use Rattle.stop_index.specs.Left.{slots_from, slots_on, slots_before, others_on, others_before, is_ahead, is_left, AreDepartures, IsOver}
use Rattle.stop_index.specs.First.{IsFirst, earlier_of, goes_before, soonest, until_of}
use Rattle.stop_index.specs.Stand.{Stands}
use Rattle.stop_index.proofs.Instants.{slot_total}
use Rattle.stop_index.proofs.Ahead.{left_ahead, left_before, left_from, was_ahead}
use Rattle.stop_index.proofs.DayLemmas.{flat_more}
use Rattle.stop_index.proofs.DaySlots.{first_found, none_past, own_once, rising_of, rising_slots, soonest_left}
use Rattle.stop_index.proofs.Firsts.{is_same, is_above, first_joined, first_same, earlier_none}
use Rattle.stop_index.proofs.Kept.{filter_within}

-- ---- the days before one are the day apart and the others

module _ (t : Timetable) (departures : List TripDeparture) (apart : ℕ) where
  -- those of the day apart, if it is before one
  abbrev apart_before : ℕ → List Slot
  apart_before day = if nat_lt apart day then slots_on t departures apart else []

  strictly : (day : ℕ) → (day ≡ apart → ⊥) → day ≤ apart → day < apart
  strictly day other h = elim (cases_lt day apart) [
    | inl before ↦ before
    | inr from ↦ absurd (other (omega arith))
  ]

  unmoved : (day : ℕ) → (day ≡ apart → ⊥) → nat_lt apart (day + 1) ≡ nat_lt apart day
  unmoved day other = elim (cases_lt apart day) [
    | inl before ↦ lt-ltb apart (day + 1) (omega arith) ∙ sym (lt-ltb apart day before)
    | inr after ↦ le-ltb apart (day + 1) (let more : day < apart = strictly day other after in omega arith) ∙ sym (le-ltb apart day after)
  ]

  module _ (p : Slot → Bool) where
    one_day : (day : ℕ) → count_by p (others_on t departures apart day) + count_by p (apart_before (day + 1)) ≡ count_by p (slots_on t departures day) + count_by p (apart_before day)
    one_day day = by_day (nat_eq day apart) refl where
      by_day : (b : Bool) → nat_eq day apart ≡ b
          → count_by p (if b then [] else slots_on t departures day) + count_by p (apart_before (day + 1)) ≡ count_by p (slots_on t departures day) + count_by p (apart_before day)
      by_day true e =
          let same : day ≡ apart = eqb-true day apart e in
          let before : nat_lt apart day ≡ false = le-ltb apart day (omega arith) in
          let after : nat_lt apart (day + 1) ≡ true = lt-ltb apart (day + 1) (omega arith) in
          omega (
            arith,
            ap (λ b. count_by p (if b then slots_on t departures apart else [])) before,
            ap (λ b. count_by p (if b then slots_on t departures apart else [])) after,
            ap (λ k. count_by p (slots_on t departures k)) same,
          )
      by_day false e =
          let still : nat_lt apart (day + 1) ≡ nat_lt apart day = unmoved day (eqb-false day apart e) in
          omega (arith, ap (λ b. count_by p (if b then slots_on t departures apart else [])) still)

    pub days_apart : (day : ℕ) → count_by p (slots_before t departures day) ≡ count_by p (others_before t departures apart day) + count_by p (apart_before day)
    days_apart zero = omega (arith, ap (λ b. count_by p (if b then slots_on t departures apart else [])) (le-ltb apart 0 (omega arith)))
    days_apart (suc day) =
        let more : suc day ≡ day + 1 = omega arith in
        subst (λ k. count_by p (slots_before t departures k) ≡ count_by p (others_before t departures apart k) + count_by p (apart_before k)) (sym more)
        (omega (
          arith,
          ap (count_by p) (flat_more (slots_on t departures) day),
          count-append p (slots_before t departures day) (slots_on t departures day),
          ap (count_by p) (flat_more (others_on t departures apart) day),
          count-append p (others_before t departures apart day) (others_on t departures apart day),
          one_day day,
          days_apart day,
        ))

    -- where none of all days passes, none of the others does
    pub none_of_others : (day : ℕ) → count_by p (slots_before t departures day) ≡ 0 → count_by p (others_before t departures apart day) ≡ 0
    none_of_others day none = omega (arith, days_apart day, none)

    all_apart : (days : ℕ) → days ≡ length t.bases → count_by p (apart_before days) ≡ count_by p (slots_on t departures apart)
    all_apart days all = elim (cases_lt apart days) [
      | inl within ↦ ap (λ b. count_by p (if b then slots_on t departures apart else [])) (lt-ltb apart days within)
      | inr past ↦
          ap (λ b. count_by p (if b then slots_on t departures apart else [])) (le-ltb apart days past)
          ∙ sym (ap (count_by p) (none_past t departures apart (omega (arith, all))))
    ]

  pub all_days : SameItems (others_before t departures apart (length t.bases) ++ slots_on t departures apart) (slots_before t departures (length t.bases))
  all_days = record {
    counts = λ p.
        omega (
          arith,
          count-append p (others_before t departures apart (length t.bases)) (slots_on t departures apart),
          days_apart p (length t.bases),
          all_apart p (length t.bases) refl,
        );
  }

-- ---- the next is the first here, or that of the others

earlier_is : (best : Option Slot) (slot : Slot) → earlier_of best (Some slot) ≡ cond (goes_before slot best) (Some slot) best
earlier_is None slot = refl
earlier_is (Some best) slot = by_test (is_lt (slot_cmp slot best)) where
  by_test : (b : Bool) → (if b then Some slot else Some best) ≡ cond b (Some slot) (Some best)
  by_test true = refl
  by_test false = refl

-- one that doesn't go before the others leaves these the first
others_first : (other found : Option Slot) → IfSome found (λ slot. goes_before slot other ≡ false) → earlier_of other found ≡ other
others_first other None later = earlier_none other
others_first other (Some slot) later = earlier_is other slot ∙ ap (λ b. cond b (Some slot) other) later

module _ (t : Timetable) (departures : List TripDeparture) (reached : Reached) (e end : ℤ) (same : e ≡ end) (day : ℕ) (base : ℤ) (ahead : List TripDeparture) (other : Option Slot) (are : AreDepartures departures) (stands : Stands t departures reached end day base ahead other) where
  -- the earlier of the two is the first of all
  earlier_first : IsFirst (is_left reached end) (slots_before t departures (length t.bases)) (earlier_of other (soonest t base day (until_of other e) ahead))
  earlier_first =
      let here : IsFirst (is_left reached (until_of other end)) (slots_on t departures day) (soonest t base day (until_of other e) ahead) =
      first_found t day (is_left reached (until_of other end)) departures (soonest t base day (until_of other e) ahead) are.sorted
      (ap (λ z. soonest t base day (until_of other z) ahead) same ∙ soonest_left t departures reached day base (until_of other end) ahead stands.here.runs) in
      first_same (is_left reached end) (others_before t departures day (length t.bases) ++ slots_on t departures day) (slots_before t departures (length t.bases))
      (earlier_of other (soonest t base day (until_of other e) ahead)) (all_days t departures day)
      (first_joined reached end (others_before t departures day (length t.bases)) (slots_on t departures day) other (soonest t base day (until_of other e) ahead) stands.others here)

  pub first_is_here : (slot : Slot) → soonest t base day (until_of other e) ahead ≡ Some slot → goes_before slot other ≡ true
      → IsFirst (is_left reached end) (slots_before t departures (length t.bases)) (Some slot)
  first_is_here slot is before =
      subst (λ (o : Option Slot). IsFirst (is_left reached end) (slots_before t departures (length t.bases)) o)
      (ap (earlier_of other) is ∙ earlier_is other slot ∙ ap (λ b. cond b (Some slot) other) before) earlier_first

  pub first_is_other : IfSome (soonest t base day (until_of other e) ahead) (λ slot. goes_before slot other ≡ false)
      → IsFirst (is_left reached end) (slots_before t departures (length t.bases)) other
  first_is_other later =
      subst (λ (o : Option Slot). IsFirst (is_left reached end) (slots_before t departures (length t.bases)) o)
      (others_first other (soonest t base day (until_of other e) ahead) later) earlier_first

-- ---- what is ahead, once one is handed out

below_from : (r : Ordering) → is_gt r ≡ false → is_eq r ≡ false → is_lt r ≡ true
below_from Less up other = refl
below_from Equal up other = sym other
below_from Greater up other = cc

after_all : (x : Slot) (ys : List Slot) → IsLeast slot_total x ys → count_by (is_same x) ys ≡ 0 → filter (is_ahead (Departure x)) ys ≡ ys
after_all x [] least none = refl
after_all x (y ∷ ys) least none =
    let here : is_same x y ≡ false = not_one (is_same x y) (omega (arith, count-cons (is_same x) y ys, none)) in
    ap (λ b. cond b (y ∷ filter (is_ahead (Departure x)) ys) (filter (is_ahead (Departure x)) ys)) (below_from (slot_cmp x y) least.0 here)
    ∙ ap (λ zs. y ∷ zs) (after_all x ys least.1 (omega (arith, count-cons (is_same x) y ys, none)))

module _ (reached : Reached) (x : Slot) (slots rest : List Slot) (up : IsRising slot_total slots) (once : count_by (is_same x) slots ≤ 1) (is : x ∷ rest ≡ filter (is_ahead reached) slots) where
  -- the first of those that were ahead was ahead
  pub was_first : is_ahead reached x ≡ true
  was_first = All-same (λ y. is_ahead reached y ≡ true) (x ∷ rest) (filter (is_ahead reached) slots) is (filter_passes (is_ahead reached) slots) 0 x (omega arith)

  -- and those after it are ahead of it
  pub rest_ahead : rest ≡ filter (is_ahead (Departure x)) slots
  rest_ahead =
      let least = (subst (λ (ss : List Slot). IsRising slot_total ss) (sym is) (rising_filter slot_total (is_ahead reached) slots up)).0 in
      let none : count_by (is_same x) rest ≡ 0 =
      omega (
        arith,
        count-cons (is_same x) x rest,
        one_is (is_same x x) (ap is_eq (tied_itself slot_total x)),
        ap (count_by (is_same x)) is,
        count-filter (is_ahead reached) (is_same x) slots,
        count_fewer (is_same x) (λ y. is_ahead reached y && is_same x y) (λ y e. (and_parts (is_ahead reached y) (is_same x y) e).1) slots,
        once,
      ) in
      sym (after_all x rest least none)
      ∙ sym (ap (λ b. cond b (x ∷ filter (is_ahead (Departure x)) rest) (filter (is_ahead (Departure x)) rest)) (ap is_lt (tied_itself slot_total x)))
      ∙ ap (filter (is_ahead (Departure x))) is
      ∙ filter_within (is_ahead (Departure x)) (is_ahead reached) slots (λ y e. was_ahead reached x y was_first e)

-- ---- the others, once one is handed out that goes before them

module _ (reached : Reached) (end : ℤ) (x : Slot) (slots : List Slot) (ahead : is_ahead reached x ≡ true) where
  still_left : (y : Slot) → is_left (Departure x) end y ≡ true → is_left reached end y ≡ true
  still_left y e = left_from reached end y (was_ahead reached x y ahead (left_ahead (Departure x) end y e)) (left_before (Departure x) end y e)

  others_still : (other : Option Slot) → goes_before x other ≡ true → IsFirst (is_left reached end) slots other → IsFirst (is_left (Departure x) end) slots other
  others_still None before none = none_fewer (is_left reached end) (is_left (Departure x) end) still_left slots none
  others_still (Some other) before first = record {
    passing = left_from (Departure x) end other before (left_before reached end other first.passing);
    among = first.among;
    first = none_fewer (λ y. is_left reached end y && is_above other y) (λ y. is_left (Departure x) end y && is_above other y)
        (λ y e. let parts = and_parts (is_left (Departure x) end y) (is_above other y) e in and_from (is_left reached end y) (is_above other y) (still_left y parts.0) parts.1) slots first.first;
  }

-- no day that was over is not
pub over_still : (t : Timetable) (departures : List TripDeparture) (reached : Reached) (x : Slot) (day : ℕ) → is_ahead reached x ≡ true → IsOver t departures reached day → IsOver t departures (Departure x) day
over_still t departures reached x day ahead over = record {
  within = over.within;
  none = none_fewer (is_ahead reached) (is_ahead (Departure x)) (λ y e. was_ahead reached x y ahead e) (slots_before t departures day) over.none;
}

-- ---- a step on the day

module _ (t : Timetable) (departures : List TripDeparture) (reached : Reached) (end : ℤ) (day : ℕ) (base : ℤ) (ahead rest : List TripDeparture) (other : Option Slot) (x : Slot) (are : AreDepartures departures) (stands : Stands t departures reached end day base ahead other)
    (is : slots_from t base day ahead ≡ x ∷ slots_from t base day rest) where
  abbrev rising : IsRising slot_total (slots_on t departures day)
  rising = rising_slots t day departures (rising_of departures are.sorted)

  pub is_next_ahead : is_ahead reached x ≡ true
  is_next_ahead = was_first reached x (slots_on t departures day) (slots_from t base day rest) rising (own_once t departures are.once x day) (sym is ∙ stands.here.runs)

  pub stands_on : IsSorted departure_cmp rest → goes_before x other ≡ true → Stands t departures (Departure x) end day base rest other
  stands_on sorted before = record {
    here = record {
      small = stands.here.small;
      sorted = sorted;
      runs = rest_ahead reached x (slots_on t departures day) (slots_from t base day rest) rising (own_once t departures are.once x day) (sym is ∙ stands.here.runs);
    };
    others = others_still reached end x (others_before t departures day (length t.bases)) is_next_ahead other before stands.others;
  }
