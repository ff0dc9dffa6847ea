-- Lines go as their rows do.
use Rattle.std.proofs.Common.{◌≡◌, ℕ, ◌<◌, List, length, [], slice_get, refl, sym, ap, ◌∙◌, arith}
use Rattle.std.specs.Prelude.{unwrap_or}
use Rattle.std.specs.Cmp.{IsTotalOrder, bool_cmp_total}
use Rattle.std.specs.Cmp.Lexicographic.{slice_cmp}
use Rattle.std.specs.Fmt.{decimal}
use Rattle.std.specs.Ordering.{bool_cmp, int_cmp, nat_cmp, ordering_then}
use Rattle.std.specs.declared.cmp.Ordering.{Ordering}
use Rattle.std.proofs.lemmas.Cmp.{int_cmp_total, nat_cmp_total, nat_list_cmp_total, on_total, then_total}
use Rattle.std.proofs.lemmas.List.FromFn.{get_or-map-range_with_len}
use Rattle.std.proofs.lemmas.Option.{slice_get-get_or, unwrap_or-slice_get}
use Rattle.text_defs.specs.Dates.{date_plus}
use Rattle.sched_types.specs.Timetable.{Timetable, IsTimetable, dates_of}
use Rattle.sched_types.proofs.Days.{date_at, length_dates}
use Rattle.board_defs.specs.Rows.{BoardRow, is_added, row_cmp, date_text}
use Rattle.board_core.specs.declared.line.Line.{Line}
use Rattle.board_core.specs.declared.line.Line.TheVariants as line
use Rattle.board_core.specs.Lines.{line_row, line_cmp, expected_of, trip_of, date_of, is_added_line, place_of, date_texts, IsInPlan}

pub row_total : IsTotalOrder row_cmp
row_total =
    then_total (on_total (λ (b : BoardRow). b.row.expected) int_cmp_total)
    (then_total (on_total (λ (b : BoardRow). b.row.trip) nat_list_cmp_total)
    (then_total (on_total (λ (b : BoardRow). b.row.date) nat_list_cmp_total)
    (then_total (on_total (λ (b : BoardRow). is_added b.subject) bool_cmp_total) (on_total (λ (b : BoardRow). b.place) nat_cmp_total))))

pub line_total : (t : Timetable) (dates : List (List ℕ)) → IsTotalOrder (line_cmp t dates)
line_total t dates =
    then_total (on_total expected_of int_cmp_total)
    (then_total (on_total (trip_of t) nat_list_cmp_total)
    (then_total (on_total (date_of dates) nat_list_cmp_total)
    (then_total (on_total is_added_line bool_cmp_total) (on_total place_of nat_cmp_total))))

module _ (t : Timetable) (sound : IsTimetable t) where
  -- the text of a day's date
  pub date_is : (day : ℕ) → day < length t.bases → date_text t day ≡ decimal (date_plus t.first day)
  date_is day h =
      ap (λ o. decimal (unwrap_or o 0)) (slice_get-get_or (dates_of t) day 0 (omega (arith, length_dates t sound)))
      ∙ ap decimal (date_at t sound day 0 h)

  -- ---- lines

  -- the text of a day's date, among those of all days
  text_at : (day : ℕ) → day < length t.bases → unwrap_or (slice_get (date_texts t) day) [] ≡ date_text t day
  text_at day h =
      unwrap_or-slice_get (date_texts t) day []
      ∙ get_or-map-range_with_len (date_text t) 0 (length t.bases) day day [] h (omega arith)

  dates_same : (l : Line) → IsInPlan t l → (line_row t l).row.date ≡ date_of (date_texts t) l
  dates_same (line.Run d) there = sym (text_at d.run.day there.day)
  dates_same (line.Added r) there = refl

  abbrev by_dates : Line → Line → List ℕ → List ℕ → Ordering
  by_dates a b x y =
      ordering_then (int_cmp (expected_of a) (expected_of b))
      (ordering_then (slice_cmp nat_cmp (trip_of t a) (trip_of t b))
      (ordering_then (slice_cmp nat_cmp x y)
      (ordering_then (bool_cmp (is_added_line a) (is_added_line b)) (nat_cmp (place_of a) (place_of b)))))

  of_rows : (a b : Line) → row_cmp (line_row t a) (line_row t b) ≡ by_dates a b (line_row t a).row.date (line_row t b).row.date
  of_rows (line.Run a) (line.Run b) = refl
  of_rows (line.Run a) (line.Added b) = refl
  of_rows (line.Added a) (line.Run b) = refl
  of_rows (line.Added a) (line.Added b) = refl

  -- lines stand as their rows
  pub lines_order : (a b : Line) → IsInPlan t a → IsInPlan t b → row_cmp (line_row t a) (line_row t b) ≡ line_cmp t (date_texts t) a b
  lines_order a b there other =
      of_rows a b
      ∙ ap (λ x. by_dates a b x (line_row t b).row.date) (dates_same a there)
      ∙ ap (λ y. by_dates a b (date_of (date_texts t) a) y) (dates_same b other)
