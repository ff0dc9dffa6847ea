-- Delays that the pass writes are near.
use Rattle.std.proofs.Common.{◌≡◌, ℕ, ◌<◌, ◌≤◌, true, Option, List, [], ◌∷◌, ◌++◌, replicate, IfSome, ℤ, pos, negsuc, ◌+ℤ◌, ◌-ℤ◌, sym, ap, ◌∙◌, append_assoc, append-nil, arith, ◌^◌}
use Rattle.std.specs.List.{All}
use Rattle.std.proofs.lemmas.Bool.Decides.{nat_tests}
use Rattle.std.proofs.lemmas.Int.{ints}
use Rattle.std.proofs.lemmas.List.Elements.{All-nil, All-append, All-push, All-replicate, All-same}
use Rattle.sched_types.specs.Timetable.{IsSmall}
use Rattle.delay_rule_defs.specs.declared.state.StopState.{StopState}
use Rattle.text_defs.specs.Moments.{is_instant}
use Rattle.delay_rule_defs.specs.Delays.{plain}
use Rattle.delay_rule.specs.Near.{IsNear, IsNearState, AddsNear}

-- a time that counts is near to a small instant and a time of day behind it
both_ends : (n : ℕ) → is_instant (pos n) ≡ true → n ≤ 253_402_300_799
both_ends n e = grind (arith, nat_tests)

pub near_behind : (time base : ℤ) (seconds : ℕ) → is_instant time ≡ true → IsSmall base → seconds < 2 ^ 32 → IsNear (time -ℤ (base +ℤ pos seconds))
near_behind (pos n) base seconds counts small few =
    let end = both_ends n counts in
    record {
      above = omega (arith, ints, small.above, small.below);
      below = omega (arith, ints, small.above, small.below);
    }
near_behind (negsuc n) base seconds counts small few = cc

pub near_plain : (carry : Option ℤ) → IfSome carry IsNear → IsNearState (plain carry)
near_plain carry near = record { arrival = near; departure = near }

-- so many places of which no update says anything
pub adds_plain : (old new : List StopState) (count : ℕ) (carry : Option ℤ) → IfSome carry IsNear → new ≡ old ++ replicate count (plain carry) → AddsNear old new
adds_plain old new count carry near whole = record {
  more = replicate count (plain carry);
  whole = whole;
  near = All-replicate IsNearState count (plain carry) (near_plain carry near);
}

-- nothing more, one state more, and one part behind another
pub adds_none : (old : List StopState) → AddsNear old old
adds_none old = record { more = []; whole = sym (append-nil old); near = All-nil IsNearState }

pub adds_one : (old mid new : List StopState) (state : StopState) → AddsNear old mid → IsNearState state → new ≡ mid ++ state ∷ [] → AddsNear old new
adds_one old mid new state a near whole = record {
  more = a.more ++ state ∷ [];
  whole = whole ∙ ap (λ xs. xs ++ state ∷ []) a.whole ∙ append_assoc old a.more (state ∷ []);
  near = All-push IsNearState a.more state a.near near;
}

pub adds_on : (old mid new : List StopState) → AddsNear old mid → AddsNear mid new → AddsNear old new
adds_on old mid new a b = record {
  more = a.more ++ b.more;
  whole = b.whole ∙ ap (λ xs. xs ++ b.more) a.whole ∙ append_assoc old a.more b.more;
  near = All-append IsNearState a.more b.more a.near b.near;
}

-- what was added is near, however it is told
same_added : {X : Type 0} (old xs ys : List X) → old ++ xs ≡ old ++ ys → xs ≡ ys
same_added [] xs ys e = e
same_added (x ∷ old) xs ys e = same_added old xs ys (cc)

pub near_added : (old new told : List StopState) → new ≡ old ++ told → AddsNear old new → All IsNearState told
near_added old new told e a = All-same IsNearState told a.more (same_added old told a.more (sym e ∙ a.whole)) a.near
