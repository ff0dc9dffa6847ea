-- Departures of either kind, of runs and of added trips, and the rows that they become.
use Rattle.std.specs.Prelude.{ℕ, Bool, true, false, List, [], map, length, slice_get, unwrap_or, ℤ}
use Rattle.std.specs.Cmp.Lexicographic.{slice_cmp}
use Rattle.std.specs.List.{range_with_len}
use Rattle.std.specs.Option.{option_map}
use Rattle.std.specs.Ordering.{bool_cmp, int_cmp, nat_cmp, ordering_then}
use Rattle.std.specs.declared.cmp.Ordering.{Ordering}
use Rattle.sched_types.specs.Timetable.{Timetable}
use Rattle.board_defs.specs.Rows.{BoardRow, date_text}
use Rattle.alert_select.specs.declared.subject.Subject.{Subject}
use Rattle.alert_select.specs.declared.subject.Subject.TheVariants as about
use Rattle.run_departures.specs.Departures.{as_row, IsThere}
use Rattle.board_added.specs.Added as added
use Rattle.board_core.specs.declared.line.Line.{Line}
use Rattle.board_core.specs.declared.line.Line.TheVariants as line

-- the row that a line becomes
abbrev pub line_row : Timetable → Line → BoardRow
line_row t (line.Run d) = as_row t d
line_row t (line.Added r) = added.as_row t r

-- it is of the timetable
abbrev pub IsInPlan : Timetable → Line → Type 0
IsInPlan t (line.Run d) = IsThere t d
IsInPlan t (line.Added r) = added.IsThere t r

-- what its row is about, as an alert may touch it
abbrev pub subject_of : Line → Subject
subject_of (line.Run d) = about.Row d.run d.stop
subject_of (line.Added r) = about.AddedRow r.key r.stop

-- ---- their order

abbrev pub expected_of : Line → ℤ
expected_of (line.Run d) = d.expected
expected_of (line.Added r) = r.expected

abbrev pub trip_of : Timetable → Line → List ℕ
trip_of t (line.Run d) = unwrap_or (option_map (λ x. x.id) (slice_get t.trips d.run.trip)) []
trip_of t (line.Added r) = r.key.trip.now

-- the text of its date, of the texts of all dates
abbrev pub date_of : List (List ℕ) → Line → List ℕ
date_of dates (line.Run d) = unwrap_or (slice_get dates d.run.day) []
date_of dates (line.Added r) = r.key.date.now

abbrev pub is_added_line : Line → Bool
is_added_line (line.Run d) = false
is_added_line (line.Added r) = true

abbrev pub place_of : Line → ℕ
place_of (line.Run d) = d.place
place_of (line.Added r) = r.place

-- the texts of the dates of a timetable
abbrev pub date_texts : Timetable → List (List ℕ)
date_texts t = map (date_text t) (range_with_len 0 (length t.bases))

-- lines go as their rows do
abbrev pub later_cmp : List (List ℕ) → Line → Line → Ordering
later_cmp dates a b =
    ordering_then (slice_cmp nat_cmp (date_of dates a) (date_of dates b))
    (ordering_then (bool_cmp (is_added_line a) (is_added_line b))
    (nat_cmp (place_of a) (place_of b)))

abbrev pub line_cmp : Timetable → List (List ℕ) → Line → Line → Ordering
line_cmp t dates a b =
    ordering_then (int_cmp (expected_of a) (expected_of b))
    (ordering_then (slice_cmp nat_cmp (trip_of t a) (trip_of t b)) (later_cmp dates a b))
