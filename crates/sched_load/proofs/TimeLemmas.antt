-- The times of a trip's places, one after another.
use Rattle.std.proofs.Common.{◌≡◌, ℕ, ◌+◌, ◌-◌, ◌<◌, ◌≤◌, Bool, true, false, ◌&&◌, List, [], ◌∷◌, ◌++◌, length, map, drop, refl, sym, ap, ◌∙◌, arith, nat_le}
use Rattle.std.specs.Prelude.{Option, Some, None, option_map, slice_get, zip, IfSome}
use Rattle.std.specs.List.{list_all}
use Rattle.std.proofs.lemmas.Bool.Decides.{nat_tests}
use Rattle.sched_load_defs.specs.Times.{Times, known_times, is_stay, are_moves, next_timed, share_between, times_at, times_behind}
use Rattle.sched_load.specs.declared.visits.Visit.{Visit}
use Rattle.sched_load.specs.declared.visits.Stay.{Stay}
use Rattle.sched_load.specs.Course.{IsNearer, Knows, Remembers, Steps, ahead_seen, given_of, place_in, places_in, stay_times}
use Rattle.sched_load.specs.declared.times.Ahead.{Ahead}
use Rattle.sched_load.specs.declared.times.Course.{Course}
use Rattle.sched_types.specs.declared.rows.Place.{Place}
use Rattle.std.proofs.lemmas.List.{append_assoc}
use Rattle.std.proofs.lemmas.Option.{none-some as none_some, same_Some}
use Rattle.sched_load.specs.Listed.{times_seen}
use Rattle.row_tables.proofs.Faults.{drop_at, drop_past}

-- timed places follow one another, from a time on
abbrev pub follow : ℕ → List Times → Bool
follow before [] = true
follow before (t ∷ ts) = nat_le before t.arrival && (nat_le t.arrival t.departure && follow t.departure ts)

-- the same by the two tests
split_tests : (a b c d e : Bool) → (b && (c && (d && e))) ≡ ((b && (d)) && (c && e))
split_tests a b c d e = grind arith

end_test : (b : Bool) → (b && true) ≡ ((b && true) && true)
end_test b = grind arith

follow_is : (before : ℕ) (t : Times) (ts : List Times) → follow before (t ∷ ts) ≡ (nat_le before t.arrival && (list_all is_stay (t ∷ ts) && are_moves (t ∷ ts)))
follow_is before t [] = ap (λ b. nat_le before t.arrival && b) (end_test (nat_le t.arrival t.departure))
follow_is before t (u ∷ ts) = grind (arith, follow_is t.departure u ts, split_tests true (nat_le t.arrival t.departure) (nat_le t.departure u.arrival) (list_all is_stay (u ∷ ts)) (are_moves (u ∷ ts)), nat_tests)

zero_le : (n : ℕ) → nat_le 0 n ≡ true
zero_le n = grind (arith, nat_tests)

pub follow_all : (ts : List Times) → follow 0 ts ≡ (list_all is_stay ts && are_moves ts)
follow_all [] = refl
follow_all (t ∷ ts) = follow_is 0 t ts ∙ ap (λ b. b && (list_all is_stay (t ∷ ts) && are_moves (t ∷ ts))) (zero_le t.arrival)

-- what is told of all visits is what is told of those from a place on
pub record Follows (visits : List Visit) (i before : ℕ) : Type 0 where
  pub told : follow 0 (known_times (given_of visits)) ≡ follow before (known_times (given_of (drop i visits)))

timed_told : (visits : List Visit) (i before : ℕ) (visit : Visit) (stay : Stay) (a b : Bool) → Follows visits i before → slice_get visits i ≡ Some visit → visit.stay ≡ Some stay → nat_le before stay.arrival ≡ a → nat_le stay.arrival stay.departure ≡ b
    → follow 0 (known_times (given_of visits)) ≡ (a && (b && follow stay.departure (known_times (given_of (drop (i + 1) visits)))))
timed_told visits i before visit stay a b f at some e h = grind (arith, drop_at, nat_tests)

not_le : (a b : ℕ) → b < a → nat_le a b ≡ false
not_le a b h = grind (arith, nat_tests)

is_le : (a b : ℕ) → a ≤ b → nat_le a b ≡ true
is_le a b h = grind (arith, nat_tests)

pub late : (visits : List Visit) (i before : ℕ) (visit : Visit) (stay : Stay) → Follows visits i before → slice_get visits i ≡ Some visit → visit.stay ≡ Some stay → stay.arrival < before → false ≡ (list_all is_stay (known_times (given_of visits)) && are_moves (known_times (given_of visits)))
late visits i before visit stay f at some l = sym (sym (follow_all (known_times (given_of visits))) ∙ timed_told visits i before visit stay false (nat_le stay.arrival stay.departure) f at some (not_le _ _ l) refl)

and_false : (a : Bool) → (a && false) ≡ false
and_false a = grind arith

pub left_early : (visits : List Visit) (i before : ℕ) (visit : Visit) (stay : Stay) → Follows visits i before → slice_get visits i ≡ Some visit → visit.stay ≡ Some stay → stay.departure < stay.arrival → false ≡ (list_all is_stay (known_times (given_of visits)) && are_moves (known_times (given_of visits)))
left_early visits i before visit stay f at some l =
    sym (sym (follow_all (known_times (given_of visits))) ∙ timed_told visits i before visit stay (nat_le before stay.arrival) false f at some refl (not_le _ _ l) ∙ and_false (nat_le before stay.arrival))

pub follows_all : (visits : List Visit) (i before : ℕ) → Follows visits i before → length visits ≤ i → true ≡ (list_all is_stay (known_times (given_of visits)) && are_moves (known_times (given_of visits)))
follows_all visits i before f h = sym (sym (follow_all (known_times (given_of visits))) ∙ f.told ∙ ap (λ vs. follow before (known_times (given_of vs))) (drop_past visits i h))

-- a place that lies one step further lies one step nearer to the next
next_further : (steps : ℕ) (places : List (Option Times)) → next_timed (steps + 1) places ≡ option_map (λ p. (p.0 + 1, p.1)) (next_timed steps places)
next_further steps [] = refl
next_further steps (Some t ∷ places) = refl
next_further steps (None ∷ places) = next_further (steps + 1) places

nearer_is : (far near : Option Ahead) (places : List (Option Times)) → IsNearer far near → ahead_seen far ≡ next_timed 1 places → ahead_seen near ≡ next_timed 0 places
nearer_is far near places n is = by (next_timed 0 places) far n (is ∙ next_further 0 places)
  where
    by : (o : Option (ℕ × ℕ)) (f : Option Ahead) → IsNearer f near → ahead_seen f ≡ option_map (λ p. (p.0 + 1, p.1)) o → ahead_seen near ≡ o
    by None None m e = ap ahead_seen m
    by None (Some a) m e = absurd (none_some _ (sym e))
    by (Some p) None m e = absurd (none_some _ e)
    by (Some (s, t)) (Some a) m e =
        let same : (a.steps, a.arrival) ≡ (s + 1, t) = same_Some _ _ e in
        let steps : a.steps ≡ s + 1 = ap (λ (q : ℕ × ℕ). q.0) same in
        let less : a.steps - 1 ≡ s = omega (arith, steps) in
        let arrives : a.arrival ≡ t = ap (λ (q : ℕ × ℕ). q.1) same in
        m ∙ ap (λ n. Some (n, a.arrival)) less ∙ ap (λ n. Some (s, n)) arrives

pub step_untimed : (course : Course) (visit : Visit) (rest : List Visit) (ahead near : Option Ahead) (time : ℕ) → visit.stay ≡ None → ahead_seen ahead ≡ next_timed 1 (given_of rest) → IsNearer ahead near → time ≡ share_between course.departure course.behind (ahead_seen ahead)
    → Steps course (record { departure = course.departure; behind = course.behind + 1; ahead = Some near }) (record { arrival = time; departure = time }) visit rest
unfolding times_behind
step_untimed course visit rest ahead near time none is n at = record {
  times =
      ap (λ o. times_behind course.departure course.behind (times_seen o ∷ given_of rest)) none
      ∙ ap (λ o. times_at (share_between course.departure course.behind o) ∷ times_behind course.departure (course.behind + 1) (given_of rest)) (sym is)
      ∙ ap (λ t. times_at t ∷ times_behind course.departure (course.behind + 1) (given_of rest)) (sym at);
  ahead = nearer_is ahead near (given_of rest) n is;
  behind = omega arith;
}

pub step_timed : (course : Course) (visit : Visit) (rest : List Visit) (stay : Stay) → visit.stay ≡ Some stay → Steps course (record { departure = stay.departure; behind = 1; ahead = None }) stay visit rest
unfolding times_behind
step_timed course visit rest stay some = grind arith

-- what is remembered in front of an untimed place is known
pub knows : (known : Option (Option Ahead)) (visit : Visit) (rest : List Visit) → visit.stay ≡ None → Remembers known (visit ∷ rest) → Knows known rest
knows known visit rest none r = grind arith

-- the places so far, and those of the visits that are left, are all
pub record Fills (visits : List Visit) (i : ℕ) (course : Course) (so_far : List Place) : Type 0 where
  pub places : so_far ++ map place_in (zip (drop i visits) (times_behind course.departure course.behind (given_of (drop i visits)))) ≡ places_in visits
  pub ahead : Remembers course.ahead (drop i visits)
  pub behind : course.behind ≤ i

pub fills_more : (visits : List Visit) (i : ℕ) (course next : Course) (places after : List Place) (visit : Visit) (stay : Stay) (place : Place) → Fills visits i course places → slice_get visits i ≡ Some visit → Steps course next stay visit (drop (i + 1) visits) → place ≡ place_in (visit, stay_times stay) → after ≡ places ++ place ∷ [] → Fills visits (i + 1) next after
fills_more visits i course next places after visit stay place f at s is pushed = grind (arith, append_assoc, drop_at)

timed_steps : (steps : ℕ) (places : List (Option Times)) (found : Option Ahead) → ahead_seen found ≡ next_timed steps places → IfSome found (λ a. steps ≤ a.steps)
timed_steps steps [] None e = tt
timed_steps steps [] (Some a) e = absurd (none_some _ (sym e))
timed_steps steps (Some t ∷ places) None e = tt
timed_steps steps (Some t ∷ places) (Some a) e = let same : a.steps ≡ steps = ap (λ (q : ℕ × ℕ). q.0) (same_Some _ _ e) in omega (arith, same)
timed_steps steps (None ∷ places) found e = grind (arith, timed_steps (steps + 1) places found e)

-- a timed place that is known in front of an untimed one lies a step away or more
pub known_steps : (found : Option Ahead) (rest : List Visit) → ahead_seen found ≡ next_timed 1 (given_of rest) → IfSome found (λ a. 1 ≤ a.steps)
known_steps found rest e = timed_steps 1 (given_of rest) found e
