-- The first of some departures: of a rising list, of two lists, and what is left after it.
use Rattle.std.proofs.Common.{◌≡◌, ◌+◌, ◌<◌, ◌≤◌, Bool, true, false, ◌&&◌, cond, Option, Some, None, List, [], ◌∷◌, ◌++◌, filter, slice_get, count_by, ℤ, pos, ◌+ℤ◌, ◌≤ℤ◌, ◌<ℤ◌, int_lt, zero-add, refl, sym, ap, subst, ◌∙◌, Less, Equal, Greater, arith}
use Rattle.std.specs.Prelude.{if◌then◌else◌, IfSome}
use Rattle.std.specs.Ordering.{is_eq, is_gt, is_lt}
use Rattle.std.specs.declared.cmp.Ordering.{Ordering}
use Rattle.std.proofs.lemmas.Bool.{and_parts, and_from, and_left, and_right}
use Rattle.std.proofs.lemmas.Cmp.{tied_itself}
use Rattle.std.proofs.lemmas.Int.{ints}
use Rattle.std.proofs.lemmas.List.{nil_from_length}
use Rattle.std.proofs.lemmas.List.Sums.{length-filter}
use Rattle.order.specs.Order.{ordered}
use Rattle.order.proofs.Laws.{IsLeast, IsRising}
use Rattle.stop_index.specs.declared.reached.Reached.{Reached}
use Rattle.stop_index.specs.declared.reached.Reached.TheVariants.{Departure}
use Rattle.stop_index.specs.declared.slot.Slot.{Slot}
use Rattle.stop_index.specs.Slots.{slot_cmp}
use Rattle.stop_index.specs.Left.{is_ahead, is_left}
use Rattle.stop_index.specs.First.{IsFirstSlot, IsFirst, earlier_of, until_of}
use Rattle.order.proofs.Counts.{one, one_is, one_not, not_one, count-cons, count-append, none_fewer, count_never, count-filter, SameItems}
use Rattle.order.proofs.Ordered.{above_is, below_not_above, below_through, not_above_back, none_from_least, ordered_same, ordered_front}
use Rattle.stop_index.proofs.Instants.{slot_total, same_slot, at_up}
use Rattle.stop_index.proofs.Ahead.{left_ahead, left_before, left_from, was_ahead}

abbrev pub is_same : Slot → Slot → Bool
is_same x y = is_eq (slot_cmp x y)

abbrev pub is_above : Slot → Slot → Bool
is_above x y = is_gt (slot_cmp x y)

itself : (x : Slot) → is_same x x ≡ true
itself x = ap is_eq (tied_itself slot_total x)

not_above_itself : (x : Slot) → is_above x x ≡ false
not_above_itself x = ap is_gt (tied_itself slot_total x)

-- ---- of a rising list

module _ (p : Slot → Bool) where
  -- one more in front that fails
  first_skip : (y : Slot) (ys : List Slot) (r : Option Slot) → p y ≡ false → IsFirst p ys r → IsFirst p (y ∷ ys) r
  first_skip y ys None fails none = omega (arith, count-cons p y ys, one_not (p y) fails, none)
  first_skip y ys (Some x) fails is = record {
    passing = is.passing;
    among = omega (arith, count-cons (is_same x) y ys, is.among);
    first = omega (arith, count-cons (λ z. p z && is_above x z) y ys, one_not (p y && is_above x y) (and_left (p y) (is_above x y) fails), is.first);
  }

  first_here : (y : Slot) (ys : List Slot) → p y ≡ true → IsLeast slot_total y ys → IsFirstSlot p (y ∷ ys) y
  first_here y ys passes least = record {
    passing = passes;
    among = omega (arith, count-cons (is_same y) y ys, one_is (is_same y y) (itself y));
    first =
        let later : count_by (λ z. p z && is_above y z) ys ≡ 0 = none_fewer (is_above y) (λ z. p z && is_above y z) (λ z e. (and_parts (p z) (is_above y z) e).1) ys (none_from_least slot_total y ys least) in
        omega (arith, count-cons (λ z. p z && is_above y z) y ys, one_not (p y && is_above y y) (and_right (p y) (is_above y y) (not_above_itself y)), later);
  }

  pub first_of_rising : (slots : List Slot) → IsRising slot_total slots → IsFirst p slots (slice_get (filter p slots) 0)
  first_of_rising [] up = refl
  first_of_rising (y ∷ ys) up = by_test (p y) refl (first_of_rising ys up.1) where
    by_test : (b : Bool) → p y ≡ b → IsFirst p ys (slice_get (filter p ys) 0) → IsFirst p (y ∷ ys) (slice_get (cond b (y ∷ filter p ys) (filter p ys)) 0)
    by_test true e rest = first_here y ys e up.0
    by_test false e rest = first_skip y ys (slice_get (filter p ys) 0) e rest

-- of the same items, each as often, the same is the first
pub first_same : (p : Slot → Bool) (xs ys : List Slot) (r : Option Slot) → SameItems xs ys → IsFirst p xs r → IsFirst p ys r
first_same p xs ys None same none = sym (same.counts p) ∙ none
first_same p xs ys (Some x) same is = record {
  passing = is.passing;
  among = subst (λ n. 0 < n) (same.counts (is_same x)) is.among;
  first = sym (same.counts (λ y. p y && is_above x y)) ∙ is.first;
}

-- ---- of two lists

module _ (reached : Reached) (end : ℤ) (xs ys : List Slot) where
  abbrev left : Slot → Bool
  left = is_left reached end

  -- a departure that is left and is not above one goes before the instant after it
  soon : (b y : Slot) → is_above y b ≡ false → left y ≡ true → is_left reached (b.at +ℤ pos 1) y ≡ true
  soon b y up e =
      let early : y.at ≤ℤ b.at = at_up y b up in
      left_from reached (b.at +ℤ pos 1) y (left_ahead reached end y e) (omega (arith, ints))

  keep_best : (b : Slot) → IsFirstSlot left xs b → count_by (λ y. left y && is_above b y) ys ≡ 0 → IsFirstSlot left (xs ++ ys) b
  keep_best b best none = record {
    passing = best.passing;
    among = omega (arith, count-append (is_same b) xs ys, best.among);
    first = omega (arith, count-append (λ z. left z && is_above b z) xs ys, best.first, none);
  }

  take_found : (f : Slot) → left f ≡ true → 0 < count_by (is_same f) ys → count_by (λ y. left y && is_above f y) xs ≡ 0 → count_by (λ y. left y && is_above f y) ys ≡ 0 → IsFirstSlot left (xs ++ ys) f
  take_found f passes among before behind = record {
    passing = passes;
    among = omega (arith, count-append (is_same f) xs ys, among);
    first = omega (arith, count-append (λ z. left z && is_above f z) xs ys, before, behind);
  }

  module _ (b f : Slot) (best : IsFirstSlot left xs b) (found : IsFirstSlot (is_left reached (b.at +ℤ pos 1)) ys f) where
    found_left : left f ≡ true
    found_left =
        let before : f.at <ℤ (b.at +ℤ pos 1) = left_before reached (b.at +ℤ pos 1) f found.passing in
        let within : b.at <ℤ end = left_before reached end b best.passing in
        left_from reached end f (left_ahead reached (b.at +ℤ pos 1) f found.passing) (omega (arith, ints))

    -- what is above f, where f is below b, is so of b
    above_both : is_lt (slot_cmp f b) ≡ true → (y : Slot) → is_above f y ≡ true → is_above b y ≡ true
    above_both below y e =
        above_is slot_total b y
        ∙ below_through slot_total y f b (sym (above_is slot_total f y) ∙ e) (below_not_above (slot_cmp f b) below)

    before_best : is_lt (slot_cmp f b) ≡ true → IsFirstSlot left (xs ++ ys) f
    before_best below =
        take_found f found_left found.among
        (none_fewer (λ y. left y && is_above b y) (λ y. left y && is_above f y)
        (λ y e. let parts = and_parts (left y) (is_above f y) e in and_from (left y) (is_above b y) parts.0 (above_both below y parts.1)) xs best.first)
        (none_fewer (λ y. is_left reached (b.at +ℤ pos 1) y && is_above f y) (λ y. left y && is_above f y)
        (λ y e. let parts = and_parts (left y) (is_above f y) e in
        let over : is_above b y ≡ true = above_both below y parts.1 in
        and_from (is_left reached (b.at +ℤ pos 1) y) (is_above f y) (soon b y (not_above_back slot_total b y over) parts.0) parts.1) ys found.first)

    after_best : is_lt (slot_cmp f b) ≡ false → IsFirstSlot left (xs ++ ys) b
    after_best not_below =
        keep_best b best
        (none_fewer (λ y. is_left reached (b.at +ℤ pos 1) y && is_above f y) (λ y. left y && is_above b y)
        (λ y e. let parts = and_parts (left y) (is_above b y) e in
        let below_b : is_lt (slot_cmp y b) ≡ true = sym (above_is slot_total b y) ∙ parts.1 in
        let up : is_above b f ≡ false = above_is slot_total b f ∙ not_below in
        and_from (is_left reached (b.at +ℤ pos 1) y) (is_above f y) (soon b y (not_above_back slot_total b y parts.1) parts.0)
        (above_is slot_total f y ∙ below_through slot_total y b f below_b up)) ys found.first)

    joined_both : (c : Bool) → is_lt (slot_cmp f b) ≡ c → IsFirst left (xs ++ ys) (if c then Some f else Some b)
    joined_both true e = before_best e
    joined_both false e = after_best e

  -- The first of two lists is the earlier of the first of each, where in the latter only those count that leave no
  -- later than the best of the former.
  pub first_joined : (best found : Option Slot) → IsFirst left xs best → IsFirst (is_left reached (until_of best end)) ys found → IsFirst left (xs ++ ys) (earlier_of best found)
  first_joined None None none no_more = omega (arith, count-append left xs ys, none, no_more)
  first_joined None (Some f) none found =
      take_found f found.passing found.among (none_fewer left (λ y. left y && is_above f y) (λ y e. (and_parts (left y) (is_above f y) e).0) xs none) found.first
  first_joined (Some b) None best no_more =
      keep_best b best
      (none_fewer (is_left reached (b.at +ℤ pos 1)) (λ y. left y && is_above b y)
      (λ y e. let parts = and_parts (left y) (is_above b y) e in soon b y (not_above_back slot_total b y parts.1) parts.0) ys no_more)
  first_joined (Some b) (Some f) best found = joined_both b f best found (is_lt (slot_cmp f b)) refl

pub earlier_none : (best : Option Slot) → earlier_of best None ≡ best
earlier_none None = refl
earlier_none (Some b) = refl

-- the best so far leaves before the end
pub best_before : (reached : Reached) (end : ℤ) (xs : List Slot) (best : Option Slot) → IsFirst (is_left reached end) xs best → IfSome best (λ b. b.at <ℤ end)
best_before reached end xs None none = tt
best_before reached end xs (Some b) best = left_before reached end b best.passing

-- ---- what is left after the first

module _ (reached : Reached) (end : ℤ) (x : Slot) (ahead : is_ahead reached x ≡ true) where
  abbrev was : Slot → Bool
  was = is_left reached end

  abbrev now : Slot → Bool
  now = is_left (Departure x) end

  equal_part : (b : Bool) → one b ≡ one (b && true) + 0
  equal_part true = refl
  equal_part false = refl

  nothing_part : (b : Bool) → 0 ≡ one (b && false) + 0
  nothing_part true = refl
  nothing_part false = refl

  not_greater : (b : Bool) → (b && true) ≡ false → b ≡ false
  not_greater true e = e
  not_greater false e = refl

  -- what was left, and does not go before x, is x or is left after it
  still : (h : Slot → Bool) (y : Slot) (r : Ordering) → slot_cmp x y ≡ r → was x ≡ true → (was y && is_gt r) ≡ false
      → one (was y && h y) ≡ one (h x && is_eq r) + one ((is_lt r && int_lt y.at end) && h y)
  still h y Less e passes none =
      let before : is_ahead reached y ≡ true = was_ahead reached x y ahead (ap is_lt e) in
      ap (λ b. one ((b && int_lt y.at end) && h y)) before
      ∙ sym (zero-add (one (int_lt y.at end && h y)))
      ∙ sym (ap (λ b. one b + one (int_lt y.at end && h y)) (and_right (h x) false refl))
  still h y Equal e passes none =
      let same : x ≡ y = same_slot x y e in
      ap (λ b. one (b && h y)) (ap was (sym same) ∙ passes) ∙ ap (λ z. one (h z)) (sym same) ∙ equal_part (h x)
  still h y Greater e passes none = ap (λ b. one (b && h y)) (not_greater (was y) none) ∙ nothing_part (h x)

  split_count : (h : Slot → Bool) (ys : List Slot) → was x ≡ true → count_by (λ y. was y && is_above x y) ys ≡ 0
      → count_by (λ y. was y && h y) ys ≡ count_by (λ y. h x && is_same x y) ys + count_by (λ y. now y && h y) ys
  split_count h [] passes none = refl
  split_count h (y ∷ ys) passes none =
      let parts = count-cons (λ z. was z && is_above x z) y ys in
      let here : (was y && is_above x y) ≡ false = not_one (was y && is_above x y) (omega (arith, parts, none)) in
      omega (
        arith,
        count-cons (λ z. was z && h z) y ys,
        count-cons (λ z. h x && is_same x z) y ys,
        count-cons (λ z. now z && h z) y ys,
        still h y (slot_cmp x y) refl passes here,
        split_count h ys passes (omega (arith, parts, none)),
      )

  never_both : (r : Ordering) (b : Bool) → ((is_lt r && b) && is_gt r) ≡ false
  never_both Less b = and_right b false refl
  never_both Equal b = refl
  never_both Greater b = refl

  module _ (all : List Slot) (first : IsFirstSlot was all x) (once : count_by (is_same x) all ≤ 1) where
    here_once : (b : Bool) → count_by (λ y. b && is_same x y) all ≡ one b
    here_once true = omega (arith, once, first.among)
    here_once false = count_never (λ y. false) all (λ y. refl)

    first_and_rest : SameItems (filter was all) (x ∷ filter now all)
    first_and_rest = record {
      counts = λ h.
          omega (arith, count-filter was h all, split_count h all first.passing first.first, here_once (h x), count-cons h x (filter now all), count-filter now h all);
    }

    pub next_left : ordered slot_cmp (filter was all) ≡ x ∷ ordered slot_cmp (filter now all)
    next_left =
        ordered_same slot_total same_slot (filter was all) (x ∷ filter now all) first_and_rest
        ∙ ordered_front slot_total same_slot x (filter now all)
        (count-filter now (is_above x) all ∙ count_never (λ y. now y && is_above x y) all (λ y. never_both (slot_cmp x y) (int_lt y.at end)))

-- where none passes, none is in order
pub none_left : (p : Slot → Bool) (all : List Slot) → count_by p all ≡ 0 → ordered slot_cmp (filter p all) ≡ []
unfolding ordered
none_left p all none = ap (ordered slot_cmp) (nil_from_length (filter p all) (length-filter p all ∙ none))
