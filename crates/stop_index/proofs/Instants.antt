-- Tests of instants, and the order of departures.
use Rattle.std.proofs.Common.{◌≡◌, ℕ, ◌<◌, ◌≤◌, true, false, ℤ, pos, ◌+ℤ◌, ◌≤ℤ◌, ◌<ℤ◌, int_lt, int_le, w64, to_z, of_z, SFits, refl, sym, ap, ◌∙◌, inl, inr, Less, Equal, Greater, arith}
use Rattle.std.specs.Cmp.{IsTotalOrder}
use Rattle.std.specs.FinMap.{nat_cmp-IsAntisymmetric, int_cmp-IsAntisymmetric}
use Rattle.std.specs.Ordering.{int_cmp, nat_cmp, is_gt, ordering_then}
use Rattle.std.specs.declared.cmp.Ordering.{Ordering}
use Rattle.std.proofs.lemmas.Bool.{cases_order}
use Rattle.std.proofs.lemmas.Bool.Decides.{nat_tests}
use Rattle.std.proofs.lemmas.Cmp.{int_cmp_total, nat_cmp_total, on_total, then_total, tied_itself, ranked, int_ranked}
use Rattle.std.proofs.lemmas.Int.{ints, to_z-of_z}
use Rattle.stop_index.specs.declared.slot.Slot.{Slot}
use Rattle.stop_index.specs.declared.trip_departure.TripDeparture.{TripDeparture}
use Rattle.stop_index.specs.Slots.{slot_cmp}
use Rattle.stop_index.specs.Index.{departure_cmp}
use Rattle.stop_index.specs.Left.{slot_at}

-- ---- tests

pub lt_is : (a b : ℤ) → a <ℤ b → int_lt a b ≡ true
lt_is a b h = grind (arith, ints)

pub lt_not : (a b : ℤ) → b ≤ℤ a → int_lt a b ≡ false
lt_not a b h = grind (arith, ints)

pub is_lt_z : (a b : ℤ) → int_lt a b ≡ true → a <ℤ b
is_lt_z a b e = grind (arith, ints)

pub not_lt_z : (a b : ℤ) → int_lt a b ≡ false → b ≤ℤ a
not_lt_z a b e = grind (arith, ints)

pub le_is : (a b : ℤ) → a ≤ℤ b → int_le a b ≡ true
le_is a b h = grind (arith, ints)

pub is_le_z : (a b : ℤ) → int_le a b ≡ true → a ≤ℤ b
is_le_z a b e = grind (arith, ints)

-- ---- instants as the code holds them

abbrev pub wrapped : ℤ → ℤ
wrapped z = to_z w64 (of_z w64 z)

pub before_end : (end at : ℤ) → SFits w64 at → int_le end (wrapped at) ≡ false → at <ℤ end
before_end end at fits e =
    let plain : int_le end at ≡ false = ap (int_le end) (sym (to_z-of_z w64 at fits)) ∙ e in
    grind (arith, ints)

pub from_end : (end at : ℤ) → SFits w64 at → int_le end (wrapped at) ≡ true → end ≤ℤ at
from_end end at fits e =
    let plain : int_le end at ≡ true = ap (int_le end) (sym (to_z-of_z w64 at fits)) ∙ e in
    grind (arith, ints)

-- ---- the orders

pub slot_total : IsTotalOrder slot_cmp
slot_total =
    then_total (on_total (λ s. s.at) int_cmp_total)
    (then_total (on_total (λ s. s.run.trip) nat_cmp_total)
    (then_total (on_total (λ s. s.run.day) nat_cmp_total) (on_total (λ s. s.place) nat_cmp_total)))

pub departure_total : IsTotalOrder departure_cmp
departure_total =
    then_total (on_total (λ d. d.seconds) nat_cmp_total)
    (then_total (on_total (λ d. d.trip) nat_cmp_total) (on_total (λ d. d.place) nat_cmp_total))

both_equal : (a b : Ordering) → ordering_then a b ≡ Equal → (a ≡ Equal) × (b ≡ Equal)
both_equal Less b e = cc
both_equal Equal b e = (refl, e)
both_equal Greater b e = cc

abbrev slot : ℤ → ℕ → ℕ → ℕ → Slot
slot at trip day place = record { at = at; run = record { trip = trip; day = day }; place = place }

abbrev departure : ℕ → ℕ → ℕ → TripDeparture
departure seconds trip place = record { seconds = seconds; trip = trip; place = place }

-- only one departure ties with another
pub same_slot : (a b : Slot) → slot_cmp a b ≡ Equal → a ≡ b
same_slot a b e =
    let by_at = both_equal (int_cmp a.at b.at) (ordering_then (nat_cmp a.run.trip b.run.trip) (ordering_then (nat_cmp a.run.day b.run.day) (nat_cmp a.place b.place))) e in
    let by_trip = both_equal (nat_cmp a.run.trip b.run.trip) (ordering_then (nat_cmp a.run.day b.run.day) (nat_cmp a.place b.place)) by_at.1 in
    let by_day = both_equal (nat_cmp a.run.day b.run.day) (nat_cmp a.place b.place) by_trip.1 in
    ap (λ at. slot at a.run.trip a.run.day a.place) (int_cmp-IsAntisymmetric a.at b.at by_at.0)
    ∙ ap (λ trip. slot b.at trip a.run.day a.place) (nat_cmp-IsAntisymmetric a.run.trip b.run.trip by_trip.0)
    ∙ ap (λ day. slot b.at b.run.trip day a.place) (nat_cmp-IsAntisymmetric a.run.day b.run.day by_day.0)
    ∙ ap (λ place. slot b.at b.run.trip b.run.day place) (nat_cmp-IsAntisymmetric a.place b.place by_day.1)

pub same_departure : (a b : TripDeparture) → departure_cmp a b ≡ Equal → a ≡ b
same_departure a b e =
    let by_time = both_equal (nat_cmp a.seconds b.seconds) (ordering_then (nat_cmp a.trip b.trip) (nat_cmp a.place b.place)) e in
    let by_trip = both_equal (nat_cmp a.trip b.trip) (nat_cmp a.place b.place) by_time.1 in
    ap (λ seconds. departure seconds a.trip a.place) (nat_cmp-IsAntisymmetric a.seconds b.seconds by_time.0)
    ∙ ap (λ trip. departure b.seconds trip a.place) (nat_cmp-IsAntisymmetric a.trip b.trip by_trip.0)
    ∙ ap (λ place. departure b.seconds b.trip place) (nat_cmp-IsAntisymmetric a.place b.place by_trip.1)

-- ---- what is not above goes by time

first_not_above : (r rest : Ordering) → is_gt (ordering_then r rest) ≡ false → is_gt r ≡ false
first_not_above Less rest e = refl
first_not_above Equal rest e = refl
first_not_above Greater rest e = e

up_to : (x y : ℤ) (r : Ordering) → r ≡ int_cmp x y → is_gt r ≡ false → x ≤ℤ y
up_to x y Less is e = let below : x <ℤ y = int_ranked x y Less is in omega (arith, ints)
up_to x y Equal is e = let same : x ≡ y = int_ranked x y Equal is in omega (arith, ints)
up_to x y Greater is e = cc

up_to_nat : (x y : ℕ) (r : Ordering) → r ≡ nat_cmp x y → is_gt r ≡ false → x ≤ y
up_to_nat x y Less is e = let below : x < y = ranked x y Less is in omega arith
up_to_nat x y Equal is e = let same : x ≡ y = ranked x y Equal is in omega arith
up_to_nat x y Greater is e = cc

pub at_up : (a b : Slot) → is_gt (slot_cmp a b) ≡ false → a.at ≤ℤ b.at
at_up a b e =
    up_to a.at b.at (int_cmp a.at b.at) refl
    (first_not_above (int_cmp a.at b.at) (ordering_then (nat_cmp a.run.trip b.run.trip) (ordering_then (nat_cmp a.run.day b.run.day) (nat_cmp a.place b.place))) e)

pub seconds_up : (a b : TripDeparture) → is_gt (departure_cmp a b) ≡ false → a.seconds ≤ b.seconds
seconds_up a b e =
    up_to_nat a.seconds b.seconds (nat_cmp a.seconds b.seconds) refl
    (first_not_above (nat_cmp a.seconds b.seconds) (ordering_then (nat_cmp a.trip b.trip) (nat_cmp a.place b.place)) e)

-- ---- on one day departures go as those of their trips

int_less : (a b : ℤ) → a <ℤ b → int_cmp a b ≡ Less
int_less a b h = grind (arith, ints)

int_more : (a b : ℤ) → b <ℤ a → int_cmp a b ≡ Greater
int_more a b h = grind (arith, ints)

nat_less : (m n : ℕ) → m < n → nat_cmp m n ≡ Less
nat_less m n h = grind (arith, nat_tests)

nat_more : (m n : ℕ) → n < m → nat_cmp m n ≡ Greater
nat_more m n h = grind (arith, nat_tests)

from_base : (base : ℤ) (m n : ℕ) → int_cmp (base +ℤ pos m) (base +ℤ pos n) ≡ nat_cmp m n
from_base base m n = elim (cases_order m n) [
  | inl e ↦ ap (λ k. int_cmp (base +ℤ pos k) (base +ℤ pos n)) e ∙ tied_itself int_cmp_total (base +ℤ pos n) ∙ sym (ap (λ k. nat_cmp k n) e ∙ tied_itself nat_cmp_total n)
  | inr (inl lt) ↦ int_less (base +ℤ pos m) (base +ℤ pos n) (omega (arith, ints)) ∙ sym (nat_less m n lt)
  | inr (inr gt) ↦ int_more (base +ℤ pos m) (base +ℤ pos n) (omega (arith, ints)) ∙ sym (nat_more m n gt)
]

pub on_day : (base : ℤ) (day : ℕ) (x y : TripDeparture) → slot_cmp (slot_at base day x) (slot_at base day y) ≡ departure_cmp x y
on_day base day x y =
    ap (λ r. ordering_then r (ordering_then (nat_cmp x.trip y.trip) (ordering_then (nat_cmp day day) (nat_cmp x.place y.place)))) (from_base base x.seconds y.seconds)
    ∙ ap (λ r. ordering_then (nat_cmp x.seconds y.seconds) (ordering_then (nat_cmp x.trip y.trip) (ordering_then r (nat_cmp x.place y.place)))) (tied_itself nat_cmp_total day)
