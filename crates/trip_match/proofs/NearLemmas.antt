-- How far an instant lies outside of a run, and the nearest of the days so far.
use Rattle.std.proofs.Common.{◌≡◌, ℕ, ◌+◌, ◌-◌, ◌^◌, ◌<◌, Bool, true, false, cond, ◌||◌, Some, None, Option, List, [], ◌∷◌, ◌++◌, length, map, filter, get_or, slice_get, refl, sym, ap, ◌∙◌, arith, ℤ, pos, ◌+ℤ◌, ◌-ℤ◌, ◌≤ℤ◌, to_z, of_z, w64, SFits}
use Rattle.std.specs.List.{fold, list_any, range_with_len}
use Rattle.std.specs.Prelude.{int_lt}
use Rattle.std.proofs.lemmas.Int.{ints, to_z-of_z}
use Rattle.std.proofs.lemmas.List.{map-append}
use Rattle.std.proofs.lemmas.List.Elements.{filter-append}
use Rattle.std.proofs.lemmas.List.Folds.{list_any-append}
use Rattle.std.proofs.lemmas.List.Sums.{fold-append}
use Rattle.std.proofs.lemmas.Option.{slice_get-get_or}
use Rattle.order.proofs.Lists.{range_more}
use Rattle.sched_types.specs.declared.rows.Place.{Place}
use Rattle.sched_types.specs.declared.rows.Run.{Run}
use Rattle.sched_types.specs.Timetable.{Timetable, IsSmall, places_of}
use Rattle.trip_match_defs.specs.declared.found.Near.{Near}
use Rattle.trip_match_defs.specs.declared.found.Found.TheVariants as found
use Rattle.trip_match_defs.specs.declared.found.Why.TheVariants as why
use Rattle.trip_match_defs.specs.Matching.{seconds_outside, near_at, nearer, nearest, is_near, runs_near, run_near, by_near}

-- ---- sums of seconds fit 64 bits

abbrev wrapped : ℤ → ℤ
wrapped z = to_z w64 (of_z w64 z)

module _ (base instant : ℤ) (small : IsSmall base) (positive : pos 0 ≤ℤ instant) (early : instant ≤ℤ pos 2_000_000_000_000) where
  base_fits : SFits w64 base
  base_fits = omega (arith, ints, small.above, small.below)

  instant_fits : SFits w64 instant
  instant_fits = omega (arith, ints)

  time_is : (seconds : ℤ) (n : ℕ) → n < 2 ^ 32 → seconds ≡ pos n → wrapped (wrapped base +ℤ wrapped seconds) ≡ base +ℤ pos n
  time_is seconds n few is =
      let here : SFits w64 (pos n) = omega (arith, ints) in
      let sum : SFits w64 (base +ℤ pos n) = omega (arith, ints, small.above, small.below) in
      ap (λ x. wrapped (x +ℤ wrapped seconds)) (to_z-of_z w64 base base_fits)
      ∙ ap (λ x. wrapped (base +ℤ wrapped x)) is
      ∙ ap (λ x. wrapped (base +ℤ x)) (to_z-of_z w64 (pos n) here)
      ∙ to_z-of_z w64 (base +ℤ pos n) sum

  -- behind the last time
  pub gap_behind : (f l : ℤ) (first last : ℕ) → first < 2 ^ 32 → last < 2 ^ 32 → f ≡ pos first → l ≡ pos last
      → int_lt (wrapped instant) (wrapped (wrapped base +ℤ wrapped f)) ≡ false → int_lt (wrapped (wrapped base +ℤ wrapped l)) (wrapped instant) ≡ true
      → wrapped (wrapped instant -ℤ wrapped (wrapped base +ℤ wrapped l)) ≡ seconds_outside (base +ℤ pos first) (base +ℤ pos last) instant
  gap_behind f l first last few less f_is l_is not_before behind =
      let i = to_z-of_z w64 instant instant_fits in
      let from = time_is f first few f_is in
      let to = time_is l last less l_is in
      let apart : SFits w64 (instant -ℤ (base +ℤ pos last)) = omega (arith, ints, small.above, small.below) in
      let t : int_lt instant (base +ℤ pos first) ≡ false = ap (λ x. int_lt x (base +ℤ pos first)) (sym i) ∙ ap (int_lt (wrapped instant)) (sym from) ∙ not_before in
      let u : int_lt (base +ℤ pos last) instant ≡ true = ap (int_lt (base +ℤ pos last)) (sym i) ∙ ap (λ x. int_lt x (wrapped instant)) (sym to) ∙ behind in
      ap (λ x. wrapped (x -ℤ wrapped (wrapped base +ℤ wrapped l))) i
      ∙ ap (λ x. wrapped (instant -ℤ x)) to
      ∙ to_z-of_z w64 (instant -ℤ (base +ℤ pos last)) apart
      ∙ sym (ap (λ b. cond b ((base +ℤ pos first) -ℤ instant) (cond (int_lt (base +ℤ pos last) instant) (instant -ℤ (base +ℤ pos last)) (pos 0))) t
      ∙ ap (λ b. cond b (instant -ℤ (base +ℤ pos last)) (pos 0)) u)

  -- the gap of a run, by its first and its last place
  pub near_is : (t : Timetable) (run : Run) (places : List Place) (none : Place) (r : ℤ) → places ≡ places_of t run.trip → 1 < length (places_of t run.trip) → slice_get t.bases run.day ≡ Some base → SFits w64 r
      → r ≡ seconds_outside (wrapped base +ℤ pos (get_or places 0 none).departure) (wrapped base +ℤ pos (get_or places (length places - 1) none).arrival) (wrapped instant)
      → let near : Near = record { day = run.day; gap = wrapped r } in near ≡ near_at t run.trip instant run.day
  near_is t run places none r lists many bases fits told =
      let own = places_of t run.trip in
      let first : slice_get own 0 ≡ Some (get_or own 0 none) = slice_get-get_or own 0 none (omega arith) in
      let last : slice_get own (length own - 1) ≡ Some (get_or own (length own - 1) none) = slice_get-get_or own (length own - 1) none (omega arith) in
      let value : wrapped r ≡ seconds_outside (base +ℤ pos (get_or own 0 none).departure) (base +ℤ pos (get_or own (length own - 1) none).arrival) instant =
      to_z-of_z w64 r fits ∙ told
      ∙ ap (λ b. seconds_outside (b +ℤ pos (get_or places 0 none).departure) (b +ℤ pos (get_or places (length places - 1) none).arrival) (wrapped instant)) (to_z-of_z w64 base base_fits)
      ∙ ap (seconds_outside (base +ℤ pos (get_or places 0 none).departure) (base +ℤ pos (get_or places (length places - 1) none).arrival)) (to_z-of_z w64 instant instant_fits)
      ∙ ap (λ (xs : List Place). seconds_outside (base +ℤ pos (get_or xs 0 none).departure) (base +ℤ pos (get_or xs (length xs - 1) none).arrival) instant) lists in
      rw (first, last, bases) (ap (λ g. record { day = run.day; gap = g }) value)

-- ---- one day more

days_more : (n : ℕ) → range_with_len 0 (n + 1) ≡ range_with_len 0 n ++ n ∷ []
days_more n = range_more 0 n n (omega arith)

or_nothing : (a b : Bool) → (a || (b || false)) ≡ (a || b)
or_nothing true b = refl
or_nothing false true = refl
or_nothing false false = refl

module _ (t : Timetable) (trip : ℕ) (instant : ℤ) where
  one_more : (b : Bool) (best : Option Near) (day : ℕ) → fold nearer best (map (near_at t trip instant) (cond b (day ∷ []) [])) ≡ cond b (nearer best (near_at t trip instant day)) best
  one_more true best day = refl
  one_more false best day = refl

  nearest_more : (day : ℕ) → nearest t trip instant (range_with_len 0 (day + 1)) ≡ cond (runs_near t trip instant day) (nearer (nearest t trip instant (range_with_len 0 day)) (near_at t trip instant day)) (nearest t trip instant (range_with_len 0 day))
  nearest_more day =
      ap (λ days. fold nearer None (map (near_at t trip instant) (filter (runs_near t trip instant) days))) (days_more day)
      ∙ ap (λ days. fold nearer None (map (near_at t trip instant) days)) (filter-append (runs_near t trip instant) (range_with_len 0 day) (day ∷ []))
      ∙ ap (fold nearer None) (map-append (near_at t trip instant) (filter (runs_near t trip instant) (range_with_len 0 day)) (filter (runs_near t trip instant) (day ∷ [])))
      ∙ fold-append nearer None (map (near_at t trip instant) (filter (runs_near t trip instant) (range_with_len 0 day))) (map (near_at t trip instant) (filter (runs_near t trip instant) (day ∷ [])))
      ∙ one_more (runs_near t trip instant day) (nearest t trip instant (range_with_len 0 day)) day

  any_more : (day : ℕ) → list_any (is_near t instant) (range_with_len 0 (day + 1)) ≡ (list_any (is_near t instant) (range_with_len 0 day) || is_near t instant day)
  any_more day =
      ap (list_any (is_near t instant)) (days_more day)
      ∙ list_any-append (is_near t instant) (range_with_len 0 day) (day ∷ [])
      ∙ or_nothing (list_any (is_near t instant) (range_with_len 0 day)) (is_near t instant day)

  -- what is known after the first days
  pub record IsSeen (count : ℕ) (any : Bool) (best : Option Near) : Type 0 where
    pub any_is : any ≡ list_any (is_near t instant) (range_with_len 0 count)
    pub best_is : best ≡ nearest t trip instant (range_with_len 0 count)

  pub seen_more : (day : ℕ) (any any' : Bool) (best best' : Option Near) → IsSeen day any best → any' ≡ (any || is_near t instant day)
      → best' ≡ cond (runs_near t trip instant day) (nearer best (near_at t trip instant day)) best → IsSeen (day + 1) any' best'
  seen_more day any any' best best' seen any_on best_on = record {
    any_is = any_on ∙ ap (λ a. a || is_near t instant day) seen.any_is ∙ sym (any_more day);
    best_is = best_on ∙ ap (λ b. cond (runs_near t trip instant day) (nearer b (near_at t trip instant day)) b) seen.best_is ∙ sym (nearest_more day);
  }

  -- after all days
  pub no_day : (any : Bool) (best : Option Near) → IsSeen (length t.bases) any best → any ≡ false → found.NoMatch why.NoDay ≡ by_near t instant trip
  unfolding by_near
  no_day any best seen none = sym (ap (λ b. cond b (run_near trip (nearest t trip instant (range_with_len 0 (length t.bases)))) (found.NoMatch why.NoDay)) (sym seen.any_is ∙ none))

  pub some_day : (any : Bool) (best : Option Near) → IsSeen (length t.bases) any best → any ≡ true → run_near trip best ≡ by_near t instant trip
  unfolding by_near
  some_day any best seen one =
      ap (run_near trip) seen.best_is
      ∙ sym (ap (λ b. cond b (run_near trip (nearest t trip instant (range_with_len 0 (length t.bases)))) (found.NoMatch why.NoDay)) (sym seen.any_is ∙ one))
