-- The departures of runs with an update that counts, of one feed: at which stop, when, and what is
-- known of them.
use Rattle.std.specs.Prelude.{ℕ, Bool, ◌&&◌, ◌==◌, if◌then◌else◌, Option, Some, None, unwrap_or, List, [], map, filter, ℤ, pos, ◌+ℤ◌, int_le, int_lt}
use Rattle.std.specs.List.{filter_map, flat_map}
use Rattle.std.specs.Option.{option_map}
use Rattle.std.specs.Ordering.{int_cmp, nat_cmp, ordering_then}
use Rattle.std.specs.declared.cmp.Ordering.{Ordering}
use Rattle.sched_types.specs.declared.rows.Place.{Place}
use Rattle.sched_types.specs.declared.rows.Run.{Run}
use Rattle.sched_types.specs.Timetable.{Timetable}
use Rattle.order.specs.Order.{ordered}
use Rattle.board_defs.specs.declared.row.RowState.{RowState}
use Rattle.board_defs.specs.declared.row.RowState.TheVariants as state
use Rattle.board_defs.specs.Choice.{Update, chosen}
use Rattle.sched_types.specs.Runs.{all_runs, departures_of}
use Rattle.board_defs.specs.Rows.{Shown, may_board, scheduled_at, shown_at}
use Rattle.run_overlay.specs.declared.row.LiveRow.{LiveRow}
use Rattle.run_overlay.specs.declared.shown.Sign.{Sign}
use Rattle.run_overlay.specs.declared.slot.LiveSlot.{LiveSlot}
use Rattle.run_overlay.specs.declared.slot.SlotState.{SlotState}
use Rattle.run_overlay.specs.declared.slot.SlotState.TheVariants as told

-- ---- a place

-- What a board shows of a place, as a departure has it. No place of a run is shown as one of an
-- added trip.
abbrev pub slot_state : RowState → SlotState
slot_state state.Scheduled = told.Scheduled
slot_state state.Live = told.Live
slot_state state.Skipped = told.Skipped
slot_state state.Canceled = told.Canceled
slot_state state.Added = told.Scheduled

abbrev pub sign_of : Shown → Sign
sign_of shown =
    record { state = slot_state shown.state; delay = shown.delay; stop = shown.stop }

-- The departure from a numbered place. It is at the stop to which the place is moved, and else at
-- that of the timetable (GTFS Realtime, StopTimeProperties, assigned_stop_id), and is expected at
-- the scheduled instant, or as much later as the delay is, where that is known (StopTimeEvent,
-- delay).
abbrev pub live_row : Timetable → Run → ℕ × Place → Sign → LiveRow
live_row t run (i, place) sign = record {
  stop = unwrap_or sign.stop place.stop;
  slot = record {
    at = scheduled_at t run place +ℤ unwrap_or sign.delay (pos 0);
    run = run;
    place = i;
    state = sign.state;
    delay = sign.delay;
  };
}

-- where passengers may board at the place, and the run is shown
abbrev pub live_place : Timetable → Run → Update → ℕ × Place → Option LiveRow
live_place t run u (i, place) =
    if may_board place
    then
    option_map (λ shown. live_row t run (i, place) (sign_of shown)) (shown_at t run (Some u) i)
    else None

-- ---- a run

-- the departures by the update that counts, in order of places; none where no update does
abbrev pub rows_by : Timetable → Run → Option Update → List LiveRow
rows_by t run None = []
rows_by t run (Some u) = filter_map (live_place t run u) (departures_of t run.trip)

unfoldable pub live_rows : Timetable → List Update → Run → List LiveRow
live_rows t updates run = rows_by t run (chosen t updates run)

-- ---- a stop

-- all departures at that very stop, in no order
abbrev pub is_at : ℕ → LiveRow → Bool
is_at stop row = row.stop == stop

abbrev pub slots_at : Timetable → List Update → ℕ → List LiveSlot
slots_at t updates stop =
    map (λ row. row.slot)
    (filter (is_at stop) (flat_map (live_rows t updates) (all_runs t)))

-- expected from one instant on and before another
abbrev pub is_between : ℤ → ℤ → LiveSlot → Bool
is_between start end slot = int_le start slot.at && int_lt slot.at end

-- by the expected instant, the trip, the day and the place
abbrev pub slot_cmp : LiveSlot → LiveSlot → Ordering
slot_cmp a b =
    ordering_then (int_cmp a.at b.at)
    (ordering_then (nat_cmp a.run.trip b.run.trip)
    (ordering_then (nat_cmp a.run.day b.run.day) (nat_cmp a.place b.place)))

-- the departures at a stop that are expected from one instant on and before another, in order
unfoldable pub live_between : Timetable → List Update → ℕ → ℤ → ℤ → List LiveSlot
live_between t updates stop start end =
    ordered slot_cmp (filter (is_between start end) (slots_at t updates stop))
