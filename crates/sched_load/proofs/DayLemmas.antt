-- The days of a window, one after another.
use Rattle.std.proofs.Common.{◌≡◌, ℕ, zero, suc, ◌+◌, ◌<◌, ◌≤◌, Bool, true, false, cond, List, [], ◌∷◌, ◌++◌, length, refl, sym, ap, ◌∙◌, subst, map, arith, add-one, nat_cmp}
use Rattle.std.specs.Prelude.{ℤ, slice_get, zip, Option, Some, filter, if◌then◌else◌}
use Rattle.std.specs.List.{range_with_len}
use Rattle.std.specs.List.{find as find_in}
use Rattle.sched_load_defs.specs.Services.{flags_of}
use Rattle.sched_load.specs.Days.{Flagged}
use Rattle.std.specs.FinMap.Entries.{find}
use Rattle.std.proofs.lemmas.List.{append-nil}
use Rattle.std.proofs.lemmas.List.Elements.{filter-append}
use Rattle.text_defs.specs.Dates.{date_plus, day_number, is_day, next_day}
use Rattle.service_day.specs.Zone.{TzText, base_of}
use Rattle.text_defs.proofs.DateLaws.{date_plus-window, day_number-lt}
use Rattle.text_defs.proofs.DateLemmas.{IsDay-is_day}
use Rattle.std.proofs.lemmas.Bool.{cases_lt}
use Rattle.std.proofs.lemmas.List.FromFn.{map-range_with_len_more}
use Rattle.std.proofs.lemmas.Option.{none-some as none_some, same_Some}
use Rattle.service_day.specs.declared.services.Exception.{Exception}
use Rattle.gtfs_rows.specs.declared.rows.CalendarRow.{CalendarRow}
use Rattle.sched_load.specs.Days.{runs_by}
use Rattle.order.proofs.Lists.{range_more}

pub days_more : (test : ℕ → Bool) (day : ℕ) (b : Bool) (before after : List ℕ) → before ≡ filter test (range_with_len 0 day) → b ≡ test day → after ≡ (if b then before ++ day ∷ [] else before) → after ≡ filter test (range_with_len 0 (day + 1))
days_more test day b before after so_far is pushed =
    let same : 0 + day ≡ day = omega arith in
    by b pushed is ∙ ap (λ xs. xs ++ cond (test day) (day ∷ []) []) so_far ∙ sym (filter-append test (range_with_len 0 day) (day ∷ [])) ∙ ap (filter test) (sym (range_more 0 day day same))
  where
    by : (c : Bool) → after ≡ (if c then before ++ day ∷ [] else before) → c ≡ test day → after ≡ before ++ cond (test day) (day ∷ []) []
    by true p e = p ∙ ap (λ d. before ++ cond d (day ∷ []) []) e
    by false p e = p ∙ sym (append-nil before) ∙ ap (λ d. before ++ cond d (day ∷ []) []) e

pub date_next : (first day date next : ℕ) → date ≡ date_plus first day → next ≡ next_day date → next ≡ date_plus first (day + 1)
unfolding date_plus
date_next first day date next is after = after ∙ ap next_day is ∙ ap (date_plus first) (sym (add-one day))

pub date_start : (first : ℕ) → first ≡ date_plus first 0
unfolding date_plus
date_start first = refl

-- whether a service runs on the day
pub runs_day : (row : Option CalendarRow) (es : List (ℕ × Exception)) (first day date : ℕ) (exception : Option Exception) (b : Bool) → date ≡ date_plus first day → exception ≡ find nat_cmp date es → b ≡ runs_by row exception date → b ≡ runs_by row (find nat_cmp (date_plus first day) es) (date_plus first day)
runs_day row es first day date exception b is found said = said ∙ ap (λ e. runs_by row e date) found ∙ ap (λ d. runs_by row (find nat_cmp d es) d) is

-- one base more
pub each_push : {X : Type 0} (P : X → Type 0) (xs : List X) (x : X) → ((i : ℕ) (y : X) → slice_get xs i ≡ Some y → P y) → P x → (i : ℕ) (y : X) → slice_get (xs ++ x ∷ []) i ≡ Some y → P y
each_push P [] x h p zero y at = subst P (same_Some _ _ at) p
each_push P [] x h p (suc i) y at = absurd (none_some y at)
each_push P (z ∷ zs) x h p zero y at = h 0 y at
each_push P (z ∷ zs) x h p (suc i) y at = each_push P zs x (λ j w is. h (suc j) w is) p i y at

pub bases_more : (rule : TzText) (first day date : ℕ) (seconds : ℤ) (before after : List ℤ) → before ≡ map (λ day. base_of rule (date_plus first day)) (range_with_len 0 day) → date ≡ date_plus first day → seconds ≡ base_of rule date → after ≡ before ++ seconds ∷ [] → after ≡ map (λ day. base_of rule (date_plus first day)) (range_with_len 0 (day + 1))
bases_more rule first day date seconds before after so_far is said pushed =
    let same : 0 + day ≡ day = omega arith in
    pushed ∙ ap (λ xs. xs ++ seconds ∷ []) so_far ∙ ap (λ s. map (λ day. base_of rule (date_plus first day)) (range_with_len 0 day) ++ s ∷ []) (said ∙ ap (base_of rule) is)
    ∙ sym (map-range_with_len_more (λ day. base_of rule (date_plus first day)) 0 day day same)

-- a day of the window lies within the years that zones are asked for
pub in_window : (first day date : ℕ) → is_day first ≡ true → first ≤ 29991231 → day ≤ 400 → date ≡ date_plus first day → date ≤ 30010204
in_window first day date valid late few is = let w = date_plus-window first day (IsDay-is_day first valid) late few in subst (λ d. d ≤ 30010204) (sym is) w.1

last_number : day_number 29991231 ≡ 1095727
unfolding day_number
last_number = refl

last_is : is_day 29991231 ≡ true
unfolding is_day
last_is = refl

-- a window ends before the calendar
pub window_ends : (first days : ℕ) → is_day first ≡ true → first ≤ 29991231 → days ≤ 400 → day_number first + days < 3_652_425
window_ends first days valid late few = grind (arith, IsDay-is_day, cases_lt, day_number-lt, last_is, last_number)

pub zip_get : {A B : Type 0} (xs : List A) (ys : List B) (i : ℕ) (x : A) (y : B) → slice_get xs i ≡ Some x → slice_get ys i ≡ Some y → slice_get (zip xs ys) i ≡ Some (x, y)
zip_get [] ys i x y p q = absurd (none_some x p)
zip_get (a ∷ xs) [] i x y p q = absurd (none_some y q)
zip_get (a ∷ xs) (b ∷ ys) zero x y p q = ap (λ z. Some (z, b)) (same_Some _ _ p) ∙ ap (λ z. Some (x, z)) (same_Some _ _ q)
zip_get (a ∷ xs) (b ∷ ys) (suc i) x y p q = zip_get xs ys i x y p q

pub zip_length : {A B : Type 0} (xs : List A) (ys : List B) → length (zip xs ys) ≤ length xs
zip_length [] ys = omega arith
zip_length (x ∷ xs) [] = omega arith
zip_length (x ∷ xs) (y ∷ ys) = let h = zip_length xs ys in omega (arith, h)

pub flagged_find : (test : CalendarRow → Bool) (rows : List CalendarRow) → ((i : ℕ) (row : CalendarRow) → slice_get rows i ≡ Some row → flags_of row ≤ 127) → Flagged (find_in test rows)
flagged_find test [] h = tt
flagged_find test (row ∷ rows) h = by (test row) (flagged_find test rows (λ i r at. h (suc i) r at))
  where
    by : (b : Bool) → Flagged (find_in test rows) → Flagged (cond b (Some row) (find_in test rows))
    by true r = h 0 row refl
    by false r = r
