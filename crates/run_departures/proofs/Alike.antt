-- Whether two departures are the same: a test that is true of equal ones alone.
use Rattle.std.proofs.Common.{◌≡◌, ℕ, zero, suc, Bool, true, false, ◌&&◌, nat_eq, Option, Some, None, ℤ, refl, sym, ap, ◌∙◌, arith}
use Rattle.std.specs.FinMap.{int_cmp-IsAntisymmetric}
use Rattle.std.specs.Ordering.{int_cmp, is_eq}
use Rattle.std.proofs.lemmas.Bool.{and_from, and_parts, eq-eqb, eqb-true}
use Rattle.std.proofs.lemmas.Cmp.{int_cmp_total, tied_itself}
use Rattle.order.proofs.Ordered.{is_equal}
use Rattle.board_defs.specs.declared.row.RowState.{RowState}
use Rattle.board_defs.specs.declared.row.RowState.TheVariants as state
use Rattle.run_departures.specs.declared.departure.Departure.{Departure}

-- ---- tests of equality

pub record Test (X : Type 0) : Type 0 where
  pub same : X → X → Bool
  pub self : (x : X) → same x x ≡ true
  pub exact : (x y : X) → same x y ≡ true → x ≡ y

numbers : Test ℕ
numbers = record { same = nat_eq; self = λ n. eq-eqb n n refl; exact = λ a b e. eqb-true a b e }

instants : Test ℤ
instants = record {
  same = λ a b. is_eq (int_cmp a b);
  self = λ z. ap is_eq (tied_itself int_cmp_total z);
  exact = λ a b e. int_cmp-IsAntisymmetric a b (is_equal (int_cmp a b) e);
}

both : {X Y : Type 0} → Test X → Test Y → Test (X × Y)
both p q = record {
  same = λ a b. p.same a.0 b.0 && q.same a.1 b.1;
  self = λ a. and_from (p.same a.0 a.0) (q.same a.1 a.1) (p.self a.0) (q.self a.1);
  exact = λ a b e.
      let parts = and_parts (p.same a.0 b.0) (q.same a.1 b.1) e in
      λ i. (p.exact a.0 b.0 parts.0 i, q.exact a.1 b.1 parts.1 i);
}

abbrev same_option : {X : Type 0} → (X → X → Bool) → Option X → Option X → Bool
same_option same None None = true
same_option same None (Some y) = false
same_option same (Some x) None = false
same_option same (Some x) (Some y) = same x y

option_self : {X : Type 0} (p : Test X) (o : Option X) → same_option p.same o o ≡ true
option_self p o = grind arith

option_exact : {X : Type 0} (p : Test X) (a b : Option X) → same_option p.same a b ≡ true → a ≡ b
option_exact p a b e = grind arith

options : {X : Type 0} → Test X → Test (Option X)
options p = record { same = same_option p.same; self = option_self p; exact = option_exact p }

-- what is made of another and gives it back
through : {X Y : Type 0} (f : X → Y) (g : Y → X) → ((x : X) → g (f x) ≡ x) → Test Y → Test X
through f g back p = record {
  same = λ x y. p.same (f x) (f y);
  self = λ x. p.self (f x);
  exact = λ x y e. sym (back x) ∙ ap g (p.exact (f x) (f y) e) ∙ back y;
}

-- ---- departures

abbrev state_number : RowState → ℕ
state_number state.Scheduled = 0
state_number state.Live = 1
state_number state.Skipped = 2
state_number state.Canceled = 3
state_number state.Added = 4

abbrev state_numbered : ℕ → RowState
state_numbered zero = state.Scheduled
state_numbered (suc zero) = state.Live
state_numbered (suc (suc zero)) = state.Skipped
state_numbered (suc (suc (suc zero))) = state.Canceled
state_numbered (suc (suc (suc (suc n)))) = state.Added

state_back : (s : RowState) → state_numbered (state_number s) ≡ s
state_back s = grind arith

states : Test RowState
states = through state_number state_numbered state_back numbers

abbrev Parts : Type 0
Parts = ℤ × (ℕ × (ℕ × (ℕ × (ℕ × (ℤ × (Option ℤ × RowState))))))

abbrev parts_of : Departure → Parts
parts_of d = (d.expected, (d.run.trip, (d.run.day, (d.place, (d.stop, (d.scheduled, (d.delay, d.state)))))))

abbrev of_parts : Parts → Departure
of_parts p = record {
  expected = p.0;
  run = record { trip = p.1.0; day = p.1.1.0 };
  place = p.1.1.1.0;
  stop = p.1.1.1.1.0;
  scheduled = p.1.1.1.1.1.0;
  delay = p.1.1.1.1.1.1.0;
  state = p.1.1.1.1.1.1.1;
}

pub departures_alike : Test Departure
departures_alike =
    through parts_of of_parts (λ d. refl)
    (both instants (both numbers (both numbers (both numbers (both numbers (both instants (both (options instants) states)))))))
