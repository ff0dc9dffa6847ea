-- Where the timed places of a trip are in order, so are all its places.
use Rattle.std.proofs.Common.{◌≡◌, ℕ, zero, suc, ◌+◌, ◌-◌, ◌*◌, ◌/◌, ◌<◌, ◌≤◌, Bool, true, false, ◌&&◌, ◌||◌, List, [], ◌∷◌, length, refl, sym, subst, arith, T}
use Rattle.std.specs.Prelude.{Option, Some, None, nat_le, nat_lt, slice_get}
use Rattle.std.specs.List.{list_all}
use Rattle.std.proofs.Math.Nat.{div-le_of_le-mul, div-mul-le_self, mul-le-mul_left}
use Rattle.std.proofs.lemmas.Nat.{le-div}
use Rattle.sched_load_defs.specs.Times.{Times, share_between, next_timed, known_times, times_behind, is_timed, is_stay, are_moves, are_times, all_times}

-- an untimed place is reached by the arrival at the timed place behind it
between_before : (departure behind ahead arrival : ℕ) → departure ≤ arrival → share_between departure behind (Some (ahead, arrival)) ≤ arrival
between_before departure behind ahead arrival h =
    let share : (arrival - departure) * behind / (behind + ahead) ≤ arrival - departure = div-le_of_le-mul (behind + ahead) (grind arith) in
    omega (arith, share, h)

-- and not before the timed place in front of it is left
between_behind : (departure behind ahead arrival : ℕ) → departure ≤ share_between departure behind (Some (ahead, arrival))
between_behind departure behind ahead arrival = omega arith

share_rises : (a b n : ℕ) → 0 < n → a * b / n ≤ a * (b + 1) / n
share_rises a b n h =
    let less : a * b ≤ a * (b + 1) = mul-le-mul_left a (omega arith) in
    let back : a * b / n * n ≤ a * b = div-mul-le_self (a * b) n in
    le-div (a * b / n) (a * (b + 1)) n h (omega (arith, less, back))

-- and one step further it is reached no earlier
between_rises : (departure behind ahead arrival : ℕ) → share_between departure behind (Some (ahead + 1, arrival)) ≤ share_between departure (behind + 1) (Some (ahead, arrival))
between_rises departure behind ahead arrival =
    let e : behind + (ahead + 1) ≡ (behind + 1) + ahead = omega arith in
    let rise : (arrival - departure) * behind / (behind + 1 + ahead) ≤ (arrival - departure) * (behind + 1) / (behind + 1 + ahead) =
    share_rises (arrival - departure) behind (behind + 1 + ahead) (omega arith) in
    subst (λ n. departure + (arrival - departure) * behind / n ≤ departure + (arrival - departure) * (behind + 1) / (behind + 1 + ahead)) (sym e) (omega (arith, rise))

-- no place is left before it is reached, nor reached before the one in front of it is left, at first at
-- this time
abbrev pub InOrder : ℕ → List Times → Type 0
InOrder before [] = Unit {0}
InOrder before (place ∷ rest) = (before ≤ place.arrival) × (place.arrival ≤ place.departure) × InOrder place.departure rest

-- the last place is timed
abbrev pub IsEnded : List (Option Times) → Type 0
IsEnded [] = Unit {0}
IsEnded (Some times ∷ places) = IsEnded places
IsEnded (None ∷ []) = ⊥
IsEnded (None ∷ place ∷ places) = IsEnded (place ∷ places)

-- the time is not after the first of the places that follow
abbrev pub IsBefore : ℕ → ℕ → ℕ → List (Option Times) → Type 0
IsBefore time departure behind [] = Unit {0}
IsBefore time departure behind (Some times ∷ places) = time ≤ times.arrival
IsBefore time departure behind (None ∷ places) = time ≤ share_between departure behind (next_timed 1 places)

-- the first untimed place is reached after the timed place in front of it is left
after_timed : (departure steps behind : ℕ) (places : List (Option Times)) → IsEnded (None ∷ places) → departure ≤ share_between departure behind (next_timed steps places)
after_timed departure steps behind [] e = absurd e
after_timed departure steps behind (Some times ∷ places) e = between_behind departure behind steps times.arrival
after_timed departure steps behind (None ∷ places) e = after_timed departure (steps + 1) behind places e

-- the next untimed place is reached no earlier
step_rises : (departure steps behind : ℕ) (places : List (Option Times)) → share_between departure behind (next_timed (steps + 1) places) ≤ share_between departure (behind + 1) (next_timed steps places)
step_rises departure steps behind [] = omega arith
step_rises departure steps behind (Some times ∷ places) = between_rises departure behind steps times.arrival
step_rises departure steps behind (None ∷ places) = step_rises departure (steps + 1) behind places

-- what follows a timed place is reached after it is left
begins : (departure : ℕ) (places : List (Option Times)) → IsEnded places → InOrder departure (known_times places) → IsBefore departure departure 1 places
begins departure [] e h = tt
begins departure (Some times ∷ places) e h = h.0
begins departure (None ∷ places) e h = after_timed departure 1 1 places e

-- what follows an untimed place is reached after it
goes_on : (departure behind : ℕ) (places : List (Option Times)) → InOrder departure (known_times places) → IsBefore (share_between departure behind (next_timed 1 places)) departure (behind + 1) places
goes_on departure behind [] h = tt
goes_on departure behind (Some times ∷ places) h = between_before departure behind 1 times.arrival h.0
goes_on departure behind (None ∷ places) h = step_rises departure 1 behind places

ended_rest : (places : List (Option Times)) → IsEnded (None ∷ places) → IsEnded places
ended_rest [] e = absurd e
ended_rest (place ∷ places) e = e

-- all places are in order where the timed ones are, and the last is timed
pub in_order : (time departure behind : ℕ) (places : List (Option Times)) → IsEnded places → InOrder departure (known_times places) → IsBefore time departure behind places → InOrder time (times_behind departure behind places)
unfolding times_behind
in_order time departure behind [] e h before = tt
in_order time departure behind (Some times ∷ places) e h before =
    (before, h.1, in_order times.departure times.departure 1 places e h.2 (begins times.departure places e h.2))
in_order time departure behind (None ∷ places) e h before =
    (before, omega arith, in_order (share_between departure behind (next_timed 1 places)) departure (behind + 1) places (ended_rest places e) h (goes_on departure behind places h))

true_false : true ≡ false → ⊥
true_false e = subst T e tt

le_from_test : (a b : ℕ) → nat_le a b ≡ true → a ≤ b
le_from_test a b e = grind (arith, e)

few : (n : ℕ) → 1 < n → nat_lt n 2 ≡ false
few n h = grind (arith, h)

first_of_both : (a b : Bool) → a && b ≡ true → a ≡ true
first_of_both true b e = refl
first_of_both false b e = absurd (true_false (sym e))

second_of_both : (a b : Bool) → a && b ≡ true → b ≡ true
second_of_both true b e = e
second_of_both false b e = absurd (true_false (sym e))

second_of_either : (a b : Bool) → a ≡ false → a || b ≡ true → b ≡ true
second_of_either true b f e = absurd (true_false f)
second_of_either false b f e = e

-- places of which the last is timed
ended_at : (places : List (Option Times)) (k : ℕ) → length places ≡ k + 1 → is_timed (slice_get places k) ≡ true → IsEnded places
ended_at [] k l t = tt
ended_at (Some times ∷ []) k l t = tt
ended_at (Some times ∷ place ∷ places) zero l t = absurd (omega (arith, l))
ended_at (Some times ∷ place ∷ places) (suc k) l t = ended_at (place ∷ places) k (omega (arith, l)) t
ended_at (None ∷ []) zero l t = absurd (true_false (sym t))
ended_at (None ∷ []) (suc k) l t = absurd (true_false (sym t))
ended_at (None ∷ place ∷ places) zero l t = absurd (omega (arith, l))
ended_at (None ∷ place ∷ places) (suc k) l t = ended_at (place ∷ places) k (omega (arith, l)) t

-- timed places that pass the two tests are in order
ordered : (before : ℕ) (place : Times) (rest : List Times) → before ≤ place.arrival → list_all is_stay (place ∷ rest) ≡ true → are_moves (place ∷ rest) ≡ true → InOrder before (place ∷ rest)
ordered before place [] b s m = (b, le_from_test _ _ (first_of_both _ _ s), tt)
ordered before place (after ∷ rest) b s m =
    (b, le_from_test _ _ (first_of_both _ _ s), ordered place.departure after rest (le_from_test _ _ (first_of_both _ _ m)) (second_of_both _ _ s) (second_of_both _ _ m))

ordered_all : (places : List Times) → list_all is_stay places ≡ true → are_moves places ≡ true → InOrder 0 places
ordered_all [] s m = tt
ordered_all (place ∷ rest) s m = ordered 0 place rest (omega arith) s m

from_start : (departure behind : ℕ) (places : List (Option Times)) → IsBefore 0 departure behind places
from_start departure behind [] = tt
from_start departure behind (Some times ∷ places) = omega arith
from_start departure behind (None ∷ places) = omega arith

-- the times of a trip that passes as one with times in order are in order at all its places
pub all_in_order : (places : List (Option Times)) → 1 < length places → are_times places ≡ true → InOrder 0 (all_times places)
all_in_order places l e =
    let long : nat_lt (length places) 2 ≡ false = few _ l in
    let tests = second_of_either _ _ long e in
    let times = first_of_both _ _ tests in
    let ends = first_of_both _ _ times in
    in_order 0 0 0 places (ended_at places (length places - 1) (omega (arith, l)) (second_of_both _ _ ends))
    (ordered_all (known_times places) (second_of_both _ _ times) (second_of_both _ _ tests)) (from_start 0 0 places)
