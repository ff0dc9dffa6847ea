-- The dates of a window's days.
use Rattle.std.proofs.Common.{◌≡◌, ℕ, ◌+◌, ◌-◌, ◌<◌, ◌≤◌, true, false, nat_eq, Some, None, List, ◌∷◌, [], ◌++◌, add-one, map, length, get_or, refl, sym, ap, ◌∙◌, inl, inr, arith}
use Rattle.std.specs.List.{range_with_len}
use Rattle.std.proofs.lemmas.Bool.{cases_lt}
use Rattle.std.proofs.lemmas.Bool.Decides.{nat_tests}
use Rattle.std.proofs.lemmas.List.FromFn.{get_or-map-range_with_len, length-map-range_with_len, map-range_with_len_more}
use Rattle.text_defs.specs.Dates.{is_day, day_number, next_day, date_plus}
use Rattle.text_defs.proofs.DateLemmas.{IsDay, IsDay-is_day, is_day-IsDay}
use Rattle.text_defs.proofs.DateLaws.{day_number-lt, date_plus-number, date_plus-is, date_plus-window, before_last}
use Rattle.sched_types.specs.Timetable.{Timetable, IsTimetable, dates_of, day_with_date}
use Rattle.sched_types.proofs.Found.{position_present, position_absent}

-- the first dates of a window, and the date that is next
pub record IsWindow (first count : ℕ) (dates : List ℕ) (date : ℕ) : Type 0 where
  pub dates_are : dates ≡ map (date_plus first) (range_with_len 0 count)
  pub date_is : date ≡ date_plus first count

same_number : (a b : ℕ) → a ≡ b → nat_eq a b ≡ true
same_number a b e = grind (arith, nat_tests)

other_number : (a b : ℕ) → (a ≡ b → ⊥) → nat_eq a b ≡ false
other_number a b e = grind (arith, nat_tests)

last_first : IsDay 29991231
unfolding is_day
last_first = IsDay-is_day 29991231 refl

last_first-number : day_number 29991231 ≡ 1_095_727
unfolding day_number
last_first-number = refl

first_number : (first : ℕ) → IsDay first → first ≤ 29991231 → day_number first ≤ 1_095_727
first_number first day h =
    elim (cases_lt first 29991231) [
      | inl lt ↦ omega (arith, day_number-lt first 29991231 day last_first lt, last_first-number)
      | inr ge ↦ let same : first ≡ 29991231 = omega arith in omega (arith, ap day_number same, last_first-number)
    ]

-- no date is before another whose number is no higher
not_before : (a b : ℕ) → IsDay a → IsDay b → day_number a ≤ day_number b → a ≤ b
not_before a b first second h = grind (arith, cases_lt, day_number-lt)

module _ (t : Timetable) (sound : IsTimetable t) where
  pub first_day : IsDay t.first
  first_day = IsDay-is_day t.first sound.first_is

  -- each day of the window lies within the calendar
  pub within_calendar : (k : ℕ) → k ≤ length t.bases → day_number t.first + k < 3_652_425
  within_calendar k h = omega (arith, first_number t.first first_day sound.first_late, sound.few_days)

  date_number : (k : ℕ) → k ≤ length t.bases → IsDay (date_plus t.first k) × (day_number (date_plus t.first k) ≡ day_number t.first + k)
  date_number k h = date_plus-number t.first k first_day (omega (arith, within_calendar k h))

  -- the dates lie between 1970 and 3001
  pub date_early : (k : ℕ) → k < length t.bases → 19700101 ≤ date_plus t.first k
  date_early k h =
      let number = date_number k (omega arith) in
      let after : t.first ≤ date_plus t.first k = not_before t.first (date_plus t.first k) first_day number.0 (omega (arith, number.1)) in
      omega (arith, sound.first_early)

  pub date_late : (k : ℕ) → k < length t.bases → date_plus t.first k ≤ 30010204
  date_late k h = (date_plus-window t.first k first_day sound.first_late (omega (arith, sound.few_days))).1

  pub date_at : (k d : ℕ) → k < length t.bases → get_or (dates_of t) k d ≡ date_plus t.first k
  date_at k d h = get_or-map-range_with_len (date_plus t.first) 0 (length t.bases) k k d h (omega arith)

  pub length_dates : length (dates_of t) ≡ length t.bases
  length_dates = length-map-range_with_len (date_plus t.first) 0 (length t.bases)

  differs : (date k d : ℕ) → k < length t.bases → (date_plus t.first k ≡ date → ⊥) → nat_eq (get_or (dates_of t) k d) date ≡ false
  differs date k d h other = ap (λ x. nat_eq x date) (date_at k d h) ∙ other_number (date_plus t.first k) date other

  -- a valid date lies as many days into the window as its number is above that of the first day
  pub day_there : (date : ℕ) → is_day date ≡ true → day_number t.first ≤ day_number date → day_number date - day_number t.first < length t.bases → day_with_date t date ≡ Some (day_number date - day_number t.first)
  day_there date valid after within =
      position_present (λ d. nat_eq d date) (dates_of t) (day_number date - day_number t.first) (omega (arith, length_dates))
      (λ d. ap (λ x. nat_eq x date) (date_at _ d within) ∙ same_number _ date (date_plus-is t.first _ date first_day (IsDay-is_day date valid) (omega arith)))
      (λ k d lt. differs date k d (omega arith) (λ same. omega (arith, ap day_number same, (date_number k (omega arith)).1)))

  -- and outside where its number is below that, or past the last
  pub day_elsewhere : (date : ℕ) → ((k : ℕ) → k < length t.bases → day_number t.first + k ≡ day_number date → ⊥) → day_with_date t date ≡ None
  day_elsewhere date apart =
      position_absent (λ d. nat_eq d date) (dates_of t)
      (λ k d within. let lt : k < length t.bases = omega (arith, length_dates) in
      differs date k d lt (λ same. apart k lt (sym (date_number k (omega arith)).1 ∙ ap day_number same)))

  -- what is no date is not in the window
  pub no_date : (date : ℕ) → is_day date ≡ false → day_with_date t date ≡ None
  no_date date invalid =
      position_absent (λ d. nat_eq d date) (dates_of t)
      (λ k d within. let lt : k < length t.bases = omega (arith, length_dates) in
      differs date k d lt (λ same. let valid = is_day-IsDay (date_plus t.first k) (date_number k (omega arith)).0 in
      let clash : true ≡ false = sym valid ∙ ap is_day same ∙ invalid in cc))

-- one more date
pub window_more : (first count : ℕ) (dates more : List ℕ) (date next : ℕ) → IsWindow first count dates date → more ≡ dates ++ date ∷ [] → next ≡ next_day date → IsWindow first (count + 1) more next
unfolding date_plus
window_more first count dates more date next window pushed after = record {
  dates_are = let same : 0 + count ≡ count = omega arith in
      pushed ∙ ap (λ xs. xs ++ date ∷ []) window.dates_are ∙ ap (λ d. map (date_plus first) (range_with_len 0 count) ++ d ∷ []) window.date_is
      ∙ sym (map-range_with_len_more (date_plus first) 0 count count same);
  date_is = after ∙ ap next_day window.date_is ∙ ap (date_plus first) (sym (add-one count));
}

-- a date of the window is a day before the calendar's last
pub window_day : (first count total date : ℕ) → is_day first ≡ true → day_number first + total < 3_652_425 → count < total → date ≡ date_plus first count → (is_day date ≡ true) × (date < 99991231)
window_day first count total date valid in_time lt e =
    let made = date_plus-number first count (IsDay-is_day first valid) (omega arith) in
    rw e (is_day-IsDay (date_plus first count) made.0, before_last (date_plus first count) made.0 (omega (arith, made.1)))

-- and none at first
pub window_none : (first : ℕ) (dates : List ℕ) → dates ≡ [] → IsWindow first 0 dates first
unfolding date_plus
window_none first dates e = record { dates_are = e; date_is = refl }
