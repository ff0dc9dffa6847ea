-- The rows of the updates that count are those that are defined.
use Rattle.std.proofs.Common.{◌≡◌, ℕ, Bool, true, false, not, ◌&&◌, filter, Option, Some, None, List, [], refl, ap, ◌∙◌}
use Rattle.std.specs.Prelude.{if◌then◌else◌}
use Rattle.std.specs.List.{flat_map}
use Rattle.sched_types.specs.Timetable.{Timetable}
use Rattle.board_defs.specs.declared.call.Call.{Call}
use Rattle.board_defs.specs.declared.query.BoardQuery.{BoardQuery}
use Rattle.board_defs.specs.Choice.{Update, text_or_none, is_outdone, not_outdone}
use Rattle.board_defs.specs.Rows.{BoardRow, added_row, added_row_at, added_trip_rows, calls_of, departing_calls, is_asked, is_within, route_named}
use Rattle.board_parts.specs.Appended.{Become, Adds}
use Rattle.board_parts.proofs.Appended.{adds_all}
use Rattle.board_parts.proofs.Lists.{filter_each, filter_flat, kept}
use Rattle.board_added.specs.declared.row.AddedRow.{AddedRow}
use Rattle.board_added.specs.Added.{as_row, row_by, rows_of, rows_unless, IsInOrder, IsThere}
use Rattle.board_added.proofs.Outdone.{outdone_same}

module _ (t : Timetable) (query : BoardQuery) (stop : ℕ) where
  abbrev within : BoardRow → Bool
  within row = is_within query.at query.span row

  row_kept : (trip date : List ℕ) (route : Option ℕ) (i : ℕ) (call : Call) (asked inside : Bool)
      → (if asked && inside then Some (added_row t trip date route i call) else None) ≡ (if asked then (if inside then Some (added_row t trip date route i call) else None) else None)
  row_kept trip date route i call true inside = refl
  row_kept trip date route i call false inside = refl

  kept_if : (asked : Bool) (row : BoardRow) → (if asked then (if within row then Some row else None) else None) ≡ kept within (if asked then Some row else None)
  kept_if true row = refl
  kept_if false row = refl

  row_is : (u : Update) (pair : ℕ × Call)
      → row_by t query stop (text_or_none u.update.trip.trip_id) (text_or_none u.update.trip.start_date) (route_named t u.update.trip.route_id) pair ≡ kept within (added_row_at t stop u.update.trip pair)
  row_is u (i, call) =
      let trip = text_or_none u.update.trip.trip_id in
      let date = text_or_none u.update.trip.start_date in
      let route = route_named t u.update.trip.route_id in
      row_kept trip date route i call (is_asked t stop call.stop) (within (added_row t trip date route i call))
      ∙ kept_if (is_asked t stop call.stop) (added_row t trip date route i call)

  rows_are : (u : Update) → rows_of t query stop u.update ≡ filter within (added_trip_rows t stop u)
  unfolding added_trip_rows
  rows_are u =
      filter_each within (added_row_at t stop u.update.trip)
      (row_by t query stop (text_or_none u.update.trip.trip_id) (text_or_none u.update.trip.start_date) (route_named t u.update.trip.route_id))
      (departing_calls (calls_of t u.update)) (row_is u)

  module _ (added sorted : List Update) (order : IsInOrder added sorted) where
    unless_is : (u : Update) → rows_unless t query stop sorted u ≡ (if not (is_outdone added u) then filter within (added_trip_rows t stop u) else [])
    unless_is u =
        ap (λ b. if b then [] else rows_of t query stop u.update) (outdone_same u added sorted order)
        ∙ by_test (is_outdone added u)
      where
        by_test : (b : Bool) → (if b then [] else rows_of t query stop u.update) ≡ (if not b then filter within (added_trip_rows t stop u) else [])
        by_test true = refl
        by_test false = rows_are u

    -- the rows that were appended are those of the updates that count
    pub counted : (rows : List AddedRow) → Adds (as_row t) (IsThere t) [] rows (flat_map (rows_unless t query stop sorted) added)
        → Become (as_row t) (IsThere t) rows (filter within (flat_map (added_trip_rows t stop) (not_outdone added)))
    counted rows adds =
        let are = adds_all (as_row t) (IsThere t) rows (flat_map (rows_unless t query stop sorted) added) adds in
        record {
          become = are.become ∙ filter_flat within (λ u. not (is_outdone added u)) (added_trip_rows t stop) (rows_unless t query stop sorted) added unless_is;
          there = are.there;
        }
