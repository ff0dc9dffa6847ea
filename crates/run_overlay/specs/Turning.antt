-- What becomes of runs, and of their departures.
use Rattle.std.specs.Prelude.{Bool, true, false, ◌&&◌, ◌==◌, if◌then◌else◌, ℕ, ℤ, Option, Some, None, List, [], map, filter, slice_get}
use Rattle.std.specs.List.{filter_map, flat_map}
use Rattle.std.specs.Option.{option_map}
use Rattle.std.specs.FinMap.{find}
use Rattle.std.specs.Ordering.{int_eq}
use Rattle.rt_types.specs.declared.enums.TripRelation.{TripRelation}
use Rattle.rt_types.specs.declared.trip_update.TripUpdate.{TripUpdate}
use Rattle.shared_list.specs.declared.change.Change.{Change}
use Rattle.shared_list.specs.declared.change.Change.TheVariants.{Put, Remove}
use Rattle.sched_types.specs.declared.rows.Place.{Place}
use Rattle.sched_types.specs.declared.rows.Run.{Run}
use Rattle.sched_types.specs.Timetable.{Timetable}
use Rattle.delay_rule_defs.specs.declared.state.StopState.{StopState}
use Rattle.delay_rule_defs.specs.Delays.{states}
use Rattle.trip_match_defs.specs.Matching.{relation_of}
use Rattle.board_defs.specs.Choice.{Update}
use Rattle.sched_types.specs.Runs.{departures_of}
use Rattle.board_defs.specs.Rows.{by_relation, may_board}
use Rattle.run_overlay.specs.declared.candidate.Candidate.{Candidate}
use Rattle.run_overlay.specs.declared.live_run.LiveRun.{LiveRun}
use Rattle.run_overlay.specs.declared.row.LiveRow.{LiveRow}
use Rattle.run_overlay.specs.declared.row.RowKey.{RowKey}
use Rattle.run_overlay.specs.declared.turns.Turn.{Turn}
use Rattle.run_overlay.specs.declared.slot.LiveSlot.{LiveSlot}
use Rattle.run_overlay.specs.declared.slot.SlotState.{SlotState}
use Rattle.run_overlay.specs.declared.slot.SlotState.TheVariants as told
use Rattle.keyed_lists.specs.Keyed.{changed, turned}
use Rattle.run_overlay.specs.Keys.{CandidateKey, row_cmp, row_key, run_cmp, live_run_key}
use Rattle.run_overlay.specs.Kept.{LiveKept, live_run}
use Rattle.run_overlay.specs.Live.{live_row, sign_of}

-- ---- the departures of a run, by the states of its places

abbrev pub place_by : Timetable → Run → TripRelation → List StopState → ℕ × Place → Option LiveRow
place_by t run kind states (i, place) =
    if may_board place
    then
    option_map (λ shown. live_row t run (i, place) (sign_of shown))
    (by_relation kind (slice_get states i))
    else None

-- by an update of the run
abbrev pub rows_with : Timetable → Run → TripUpdate → List LiveRow
rows_with t run update =
    filter_map (place_by t run (relation_of update.trip) (states t run update))
    (departures_of t run.trip)

-- ---- the update that counts for a run

-- it is about that run
abbrev pub is_of_run : Run → Candidate → Bool
is_of_run run candidate =
    (candidate.mention.run.trip == run.trip) && (candidate.mention.run.day == run.day)

-- the first of those that are
abbrev pub first_of : Run → List (CandidateKey × Candidate) → Option Candidate
first_of run candidates =
    slice_get (filter (is_of_run run) (map (λ entry. entry.1) candidates)) 0

-- ---- what becomes of runs that are touched

-- a run, and what it is now, if an update counts for it
abbrev pub turn_of : Timetable → List Update → Run → Turn
turn_of t updates run = record { run = run; now = live_run t updates run }

abbrev pub turned_run : Run → Option LiveRun → Change LiveRun Run
turned_run run None = Remove run
turned_run run (Some live) = Put live

abbrev pub run_change : Turn → Change LiveRun Run
run_change turn = turned_run turn.run turn.now

-- the departures of a run that has an update
abbrev pub rows_kept : Option LiveRun → List LiveRow
rows_kept None = []
rows_kept (Some live) = live.rows

abbrev pub rows_now : Turn → List LiveRow
rows_now turn = rows_kept turn.now

-- the same is known of two departures
abbrev pub same_state : SlotState → SlotState → Bool
same_state told.Scheduled told.Scheduled = true
same_state told.Live told.Live = true
same_state told.Skipped told.Skipped = true
same_state told.Canceled told.Canceled = true
same_state a b = false

abbrev pub same_delay : Option ℤ → Option ℤ → Bool
same_delay None None = true
same_delay (Some a) (Some b) = int_eq a b
same_delay None (Some b) = false
same_delay (Some a) None = false

abbrev pub same_slot : LiveSlot → LiveSlot → Bool
same_slot a b =
    int_eq a.at b.at && ((a.run.trip == b.run.trip) && (a.run.day == b.run.day))
    && (a.place == b.place)
    && same_state a.state b.state && same_delay a.delay b.delay

abbrev pub same_row : LiveRow → LiveRow → Bool
same_row a b = (a.stop == b.stop) && same_slot a.slot b.slot

-- Those that it had go, and those that it has come. What stays as it was at its place does neither.
abbrev pub row_changes : List (Run × LiveRun) → Turn → List (Change LiveRow RowKey)
row_changes runs turn =
    turned same_row row_key (rows_kept (find run_cmp turn.run runs)) (rows_kept turn.now)

-- what turns make of what was kept
abbrev pub live_turned : List Turn → LiveKept → LiveKept
live_turned turns kept = record {
  runs = changed run_cmp live_run_key kept.runs (map run_change turns);
  rows = changed row_cmp row_key kept.rows (flat_map (row_changes kept.runs) turns);
}

abbrev pub live_after : Timetable → List Update → List Run → LiveKept → LiveKept
live_after t updates runs kept = live_turned (map (turn_of t updates) runs) kept
