-- At most one departure of a run has a key.
use Rattle.std.proofs.Common.{◌≡◌, ℕ, ◌-◌, ◌≤◌, List, Bool, true, false, cond, Option, Some, None, count_by, sym, ap, ◌∙◌, arith}
use Rattle.std.specs.Prelude.{length, take}
use Rattle.std.specs.Option.{option_map}
use Rattle.std.specs.Ordering.{eq_by_cmp}
use Rattle.std.proofs.lemmas.Bool.{eq-eqb}
use Rattle.order.proofs.Counts.{numbered, numbers_once}
use Rattle.sched_types.specs.declared.rows.Place.{Place}
use Rattle.sched_types.specs.declared.rows.Run.{Run}
use Rattle.sched_types.specs.Timetable.{Timetable, places_of}
use Rattle.board_defs.specs.Choice.{Update, chosen}
use Rattle.sched_types.specs.Runs.{departures_of}
use Rattle.board_defs.specs.Rows.{Shown, may_board, shown_at}
use Rattle.run_overlay.specs.declared.row.LiveRow.{LiveRow}
use Rattle.run_overlay.specs.declared.row.RowKey.{RowKey}
use Rattle.run_overlay.specs.Keys.{row_cmp, row_key}
use Rattle.run_overlay.specs.Live.{live_place, live_row, live_rows, rows_by, sign_of}
use Rattle.run_overlay.specs.Orders.{rows_exact, rows_total}
use Rattle.keyed_lists.proofs.Once.{count_given}
use Rattle.keyed_lists.proofs.Tables.{tie_same}

abbrev pub has_row : RowKey → LiveRow → Bool
has_row k row = eq_by_cmp row_cmp k (row_key row)

module _ (t : Timetable) (updates : List Update) where
  -- a departure from a place has its number
  place_by_shown : (run : Run) (numbered : ℕ × Place) (shown : Option Shown) (row : LiveRow) → option_map (λ s. live_row t run numbered (sign_of s)) shown ≡ Some row → row.slot.place ≡ numbered.0
  place_by_shown run numbered None row at = cc
  place_by_shown run numbered (Some s) row at = let is : live_row t run numbered (sign_of s) ≡ row = cc in sym (ap (λ (r : LiveRow). r.slot.place) is)

  place_of_row : (run : Run) (u : Update) (numbered : ℕ × Place) (row : LiveRow) → live_place t run u numbered ≡ Some row → row.slot.place ≡ numbered.0
  place_of_row run u numbered row at = by_boarding (may_board numbered.1) at where
    by_boarding : (b : Bool) → cond b (option_map (λ s. live_row t run numbered (sign_of s)) (shown_at t run (Some u) numbered.0)) None ≡ Some row → row.slot.place ≡ numbered.0
    by_boarding true at = place_by_shown run numbered (shown_at t run (Some u) numbered.0) row at
    by_boarding false at = cc

  numbered_so : (k : RowKey) (run : Run) (u : Update) (place : ℕ × Place) (row : LiveRow) → live_place t run u place ≡ Some row → has_row k row ≡ true → numbered k.place place ≡ true
  numbered_so k run u place row at tie =
      eq-eqb place.0 k.place (sym (ap (λ (x : RowKey). x.place) (tie_same rows_total rows_exact k (row_key row) tie) ∙ place_of_row run u place row at))

  once_by : (k : RowKey) (run : Run) (best : Option Update) → count_by (has_row k) (rows_by t run best) ≤ 1
  once_by k run None = omega arith
  once_by k run (Some u) =
      let places = places_of t run.trip in
      omega (
        arith,
        count_given (live_place t run u) (has_row k) (numbered k.place) (numbered_so k run u) (departures_of t run.trip),
        numbers_once k.place 0 (take (length places - 1) places),
      )

  pub once_in_run : (k : RowKey) (run : Run) → count_by (has_row k) (live_rows t updates run) ≤ 1
  unfolding live_rows
  once_in_run k run = once_by k run (chosen t updates run)
