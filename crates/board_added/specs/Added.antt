-- The order of updates of added trips, and the rows that they give before their texts are made.
use Rattle.std.specs.Prelude.{ℕ, ◌<◌, ◌&&◌, if◌then◌else◌, List, [], length, Option, Some, None, IfSome}
use Rattle.std.specs.Cmp.Lexicographic.{slice_cmp}
use Rattle.std.specs.List.{filter_map}
use Rattle.std.specs.List.Sorted.{IsSorted, IsPermutation}
use Rattle.std.specs.Ordering.{nat_cmp, ordering_then}
use Rattle.std.specs.declared.cmp.Ordering.{Ordering}
use Rattle.rt_types.specs.declared.descriptor.TripRef.{TripRef}
use Rattle.rt_types.specs.declared.trip_update.TripUpdate.{TripUpdate}
use Rattle.sched_types.specs.Timetable.{Timetable}
use Rattle.board_defs.specs.declared.call.Call.{Call}
use Rattle.board_defs.specs.declared.query.BoardQuery.{BoardQuery}
use Rattle.board_defs.specs.Choice.{Update, text_or_none, is_outdone, choice_cmp}
use Rattle.board_defs.specs.Rows.{BoardRow, is_asked, is_within, route_named, departing_calls, calls_of, added_row}
use Rattle.board_added.specs.declared.row.AddedRow.{AddedRow}

-- ---- their order

-- by the trip_id, and then by the start_date
abbrev pub key_cmp : TripRef → TripRef → Ordering
key_cmp a b =
    ordering_then (slice_cmp nat_cmp (text_or_none a.trip_id) (text_or_none b.trip_id))
    (slice_cmp nat_cmp (text_or_none a.start_date) (text_or_none b.start_date))

-- by their trips, and of one trip by how they count
abbrev pub full_cmp : Update → Update → Ordering
full_cmp a b = ordering_then (key_cmp a.update.trip b.update.trip) (choice_cmp a b)

-- the same updates in order
pub record IsInOrder (all order : List Update) : Type 0 where
  pub sorted : IsSorted full_cmp order
  pub same : IsPermutation all order

-- ---- their rows

-- a call is at one of the timetable's stops
abbrev pub IsCall : Timetable → Call → Type 0
IsCall t call = call.stop < length t.stops

-- the row, with its texts
abbrev pub as_row : Timetable → AddedRow → BoardRow
as_row t r =
    added_row t r.key.trip.now r.key.date.now r.key.route r.place
    (record { stop = r.stop; leaves = r.expected })

-- its stop and its route are those of the timetable
pub record IsThere (t : Timetable) (r : AddedRow) : Type 0 where
  pub route : IfSome r.key.route (λ route. route < length t.routes)
  pub stop : r.stop < length t.stops

-- the row of a call of an added trip, if it is one of the board at the stop
abbrev pub row_by : Timetable → BoardQuery → ℕ → List ℕ → List ℕ → Option ℕ → ℕ × Call
    → Option BoardRow
row_by t query stop trip date route (i, call) =
    if is_asked t stop call.stop
    && is_within query.at query.span (added_row t trip date route i call)
    then Some (added_row t trip date route i call) else None

abbrev pub rows_by : Timetable → BoardQuery → ℕ → List ℕ → List ℕ → Option ℕ → List (ℕ × Call)
    → List BoardRow
rows_by t query stop trip date route calls = filter_map (row_by t query stop trip date route) calls

-- the rows of the board that an update gives
abbrev pub rows_of : Timetable → BoardQuery → ℕ → TripUpdate → List BoardRow
rows_of t query stop update =
    rows_by t query stop (text_or_none update.trip.trip_id) (text_or_none update.trip.start_date)
    (route_named t update.trip.route_id) (departing_calls (calls_of t update))

-- and those that it gives where it counts among others
abbrev pub rows_unless : Timetable → BoardQuery → ℕ → List Update → Update → List BoardRow
rows_unless t query stop updates u =
    if is_outdone updates u then [] else rows_of t query stop u.update
