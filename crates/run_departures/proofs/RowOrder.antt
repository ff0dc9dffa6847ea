-- Rows go as their departures do: numbers of trips and days stand as the texts of the rows.
use Rattle.std.proofs.Common.{◌≡◌, ℕ, ◌<◌, None, List, length, [], slice_get, get_or, sym, ap, ◌∙◌, inl, inr, Less, Greater, arith}
use Rattle.std.specs.Prelude.{unwrap_or}
use Rattle.std.specs.Cmp.Lexicographic.{slice_cmp}
use Rattle.std.specs.Fmt.{decimal}
use Rattle.std.specs.Option.{option_map}
use Rattle.std.specs.Ordering.{nat_cmp}
use Rattle.std.proofs.lemmas.Bool.{cases_order}
use Rattle.std.proofs.lemmas.Bool.Decides.{nat_tests}
use Rattle.std.proofs.lemmas.Cmp.{nat_cmp_total, tied_itself}
use Rattle.std.proofs.lemmas.Option.{slice_get-get_or}
use Rattle.text_defs.specs.Dates.{day_number, date_plus}
use Rattle.text_defs.proofs.DateLaws.{day_number-lt, date_plus-number}
use Rattle.sched_types.specs.declared.rows.Trip.{Trip}
use Rattle.sched_types.specs.Timetable.{Timetable, IsTimetable, dates_of}
use Rattle.sched_types.proofs.Days.{first_day, within_calendar, date_early, date_late, date_at, length_dates}
use Rattle.board_defs.specs.Rows.{row_cmp, date_text}
use Rattle.board_defs.proofs.DateOrder.{decimal_order}
use Rattle.board_defs.proofs.KeyOrder.{id_order}
use Rattle.run_departures.specs.declared.departure.Departure.{Departure}
use Rattle.run_departures.specs.Departures.{as_row, IsThere, departure_cmp}

less : (i j : ℕ) → i < j → nat_cmp i j ≡ Less
less i j h = grind (arith, nat_tests)

more : (i j : ℕ) → j < i → nat_cmp i j ≡ Greater
more i j h = grind (arith, nat_tests)

module _ (t : Timetable) (sound : IsTimetable t) where
  -- later days have greater dates
  date_rises : (i j : ℕ) → i < j → j < length t.bases → date_plus t.first i < date_plus t.first j
  date_rises i j h within =
      let a = date_plus-number t.first i (first_day t sound) (omega (arith, within_calendar t sound i (omega arith))) in
      let b = date_plus-number t.first j (first_day t sound) (omega (arith, within_calendar t sound j (omega arith))) in
      elim (cases_order (date_plus t.first i) (date_plus t.first j)) [
        | inl e ↦ absurd (omega (arith, a.1, b.1, ap day_number e))
        | inr (inl lt) ↦ lt
        | inr (inr gt) ↦ absurd (omega (arith, a.1, b.1, day_number-lt (date_plus t.first j) (date_plus t.first i) b.0 a.0 gt))
      ]

  dates_order : (i j : ℕ) → i < length t.bases → j < length t.bases → nat_cmp (date_plus t.first i) (date_plus t.first j) ≡ nat_cmp i j
  dates_order i j h k =
      elim (cases_order i j) [
        | inl e ↦ ap (λ n. nat_cmp (date_plus t.first n) (date_plus t.first j)) e ∙ tied_itself nat_cmp_total (date_plus t.first j)
            ∙ sym (ap (λ n. nat_cmp n j) e ∙ tied_itself nat_cmp_total j)
        | inr (inl lt) ↦ less (date_plus t.first i) (date_plus t.first j) (date_rises i j lt k) ∙ sym (less i j lt)
        | inr (inr gt) ↦ more (date_plus t.first i) (date_plus t.first j) (date_rises j i gt h) ∙ sym (more i j gt)
      ]

  -- the text of a day's date
  pub date_is : (day : ℕ) → day < length t.bases → date_text t day ≡ decimal (date_plus t.first day)
  date_is day h =
      ap (λ o. decimal (unwrap_or o 0)) (slice_get-get_or (dates_of t) day 0 (omega (arith, length_dates t sound)))
      ∙ ap decimal (date_at t sound day 0 h)

  texts_order : (i j : ℕ) → i < length t.bases → j < length t.bases → slice_cmp nat_cmp (date_text t i) (date_text t j) ≡ nat_cmp i j
  texts_order i j h k = grind (arith, date_early, date_is, date_late, dates_order, decimal_order)

  -- the id of a trip, by its number
  abbrev trip_text : ℕ → List ℕ
  trip_text trip = unwrap_or (option_map (λ x. x.id) (slice_get t.trips trip)) []

  trips_order : (i j : ℕ) → i < length t.trips → j < length t.trips → slice_cmp nat_cmp (trip_text i) (trip_text j) ≡ nat_cmp i j
  trips_order i j h k =
      let none : Trip = record { id = []; route = 0; service = 0; headsign = []; direction = None } in
      let at = slice_get-get_or t.trips i none h in
      let then = slice_get-get_or t.trips j none k in
      ap (λ o. slice_cmp nat_cmp (unwrap_or (option_map (λ x. x.id) o) []) (trip_text j)) at
      ∙ ap (λ o. slice_cmp nat_cmp (get_or t.trips i none).id (unwrap_or (option_map (λ x. x.id) o) [])) then
      ∙ id_order (λ trip. trip.id) t.trips sound.trips_rise i j (get_or t.trips i none) (get_or t.trips j none) at then

  -- departures stand as their rows
  pub rows_order : (a b : Departure) → IsThere t a → IsThere t b → row_cmp (as_row t a) (as_row t b) ≡ departure_cmp a b
  rows_order a b there other = grind (arith, texts_order, trips_order)
