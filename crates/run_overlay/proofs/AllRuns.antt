-- Each run of a timetable is among its runs, and none is there twice.
use Rattle.std.proofs.Common.{◌≡◌, ℕ, ◌<◌, ◌≤◌, Bool, true, false, nat_eq, cond, List, [], ◌∷◌, length, map, filter, count_by, refl, sym, ap, subst, ◌∙◌, arith, zero-add}
use Rattle.std.specs.Prelude.{◌&&◌, ◌||◌}
use Rattle.std.specs.List.{flat_map, list_any, range_with_len}
use Rattle.std.proofs.lemmas.Bool.{and_parts, and_right}
use Rattle.std.proofs.lemmas.List.Folds.{list_any-append, list_any_at}
use Rattle.std.proofs.lemmas.List.FromFn.{get_or-range_with_len, length-range_with_len}
use Rattle.sched_types.specs.declared.rows.Run.{Run}
use Rattle.sched_types.specs.Timetable.{Timetable, is_run}
use Rattle.sched_types.proofs.TimetableLaws.{run_has, run_trip}
use Rattle.sched_types.specs.Runs.{all_runs}
use Rattle.order.proofs.Counts.{count-filter, count-map, count_fewer, count_never, once_flat, range_once}

-- ---- lists

any_filter : {X : Type 0} (p q : X → Bool) (xs : List X) → ((x : X) → q x ≡ true → p x ≡ true) → list_any q (filter p xs) ≡ list_any q xs
any_filter p q [] kept = refl
any_filter p q (x ∷ xs) kept = by_test (p x) (kept x) (any_filter p q xs kept) where
  not_there : (c m : Bool) → (c ≡ true → false ≡ true) → m ≡ (c || m)
  not_there true m kept = let clash = kept refl in cc
  not_there false m kept = refl

  by_test : (b : Bool) → (q x ≡ true → b ≡ true) → list_any q (filter p xs) ≡ list_any q xs → list_any q (cond b (x ∷ filter p xs) (filter p xs)) ≡ (q x || list_any q xs)
  by_test true kept rest = ap (λ c. q x || c) rest
  by_test false kept rest = rest ∙ not_there (q x) (list_any q xs) kept

pub any_flat : {A X : Type 0} (q : X → Bool) (f : A → List X) (items : List A) → list_any q (flat_map f items) ≡ list_any (λ a. list_any q (f a)) items
any_flat q f [] = refl
any_flat q f (a ∷ items) = list_any-append q (f a) (flat_map f items) ∙ ap (λ b. list_any q (f a) || b) (any_flat q f items)

pub any_map : {A X : Type 0} (q : X → Bool) (f : A → X) (items : List A) → list_any q (map f items) ≡ list_any (λ a. q (f a)) items
any_map q f [] = refl
any_map q f (a ∷ items) = ap (λ b. q (f a) || b) (any_map q f items)

-- a number below n is among the first n
any_number : (q : ℕ → Bool) (n number : ℕ) → number < n → q number ≡ true → list_any q (range_with_len 0 n) ≡ true
any_number q n number few passes =
    list_any_at q (range_with_len 0 n) number 0 (omega (arith, length-range_with_len 0 n))
    (ap q (get_or-range_with_len 0 n number 0 few ∙ zero-add number) ∙ passes)

-- ---- runs

abbrev run_on : ℕ → ℕ → Run
run_on day trip = record { trip = trip; day = day }

module _ (t : Timetable) (run : Run) where
  abbrev trips : List ℕ
  trips = range_with_len 0 (length t.trips)

  abbrev days : List ℕ
  days = range_with_len 0 (length t.bases)

  -- a test that only that run passes finds it among all
  pub any_run : (q : Run → Bool) → q run ≡ true → ((x : Run) → q x ≡ true → x ≡ run) → is_run t run ≡ true → list_any q (all_runs t) ≡ true
  unfolding all_runs
  any_run q own only runs =
      any_filter (is_run t) q (flat_map (λ day. map (run_on day) trips) days) (λ x e. subst (λ r. is_run t r ≡ true) (sym (only x e)) runs)
      ∙ any_flat q (λ day. map (run_on day) trips) days
      ∙ any_number (λ day. list_any q (map (run_on day) trips)) (length t.bases) run.day (run_has t run runs).day
      (any_map q (run_on run.day) trips
      ∙ any_number (λ trip. q (run_on run.day trip)) (length t.trips) run.trip (run_trip t run runs) own)

  abbrev pub is_this : Run → Bool
  is_this other = nat_eq other.trip run.trip && nat_eq other.day run.day

  of_other_day : (day : ℕ) → nat_eq day run.day ≡ false → count_by is_this (map (run_on day) trips) ≡ 0
  of_other_day day other =
      count-map is_this (run_on day) trips
      ∙ count_never (λ trip. is_this (run_on day trip)) trips (λ trip. and_right (nat_eq trip run.trip) (nat_eq day run.day) other)

  of_one_day : (day : ℕ) → count_by is_this (map (run_on day) trips) ≤ 1
  of_one_day day =
      omega (
        arith,
        count-map is_this (run_on day) trips,
        count_fewer (λ trip. nat_eq trip run.trip) (λ trip. is_this (run_on day trip)) (λ trip e. (and_parts (nat_eq trip run.trip) (nat_eq day run.day) e).0) trips,
        range_once run.trip 0 (length t.trips),
      )

  pub run_once : count_by is_this (all_runs t) ≤ 1
  unfolding all_runs
  run_once =
      omega (
        arith,
        count-filter (is_run t) is_this (flat_map (λ day. map (run_on day) trips) days),
        count_fewer is_this (λ x. is_run t x && is_this x) (λ x e. (and_parts (is_run t x) (is_this x) e).1) (flat_map (λ day. map (run_on day) trips) days),
        once_flat is_this (λ day. nat_eq day run.day) (λ day. map (run_on day) trips) of_other_day of_one_day days (range_once run.day 0 (length t.bases)),
      )
