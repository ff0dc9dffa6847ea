-- The departures at one stop: by the timetable, and by the updates of each feed.
use Rattle.std.specs.Prelude.{ℕ, ◌+◌, ◌==◌, if◌then◌else◌, Option, Some, None, List, ◌∷◌, map, slice_get, pos}
use Rattle.std.specs.List.{filter_map}
use Rattle.sched_types.specs.declared.rows.Place.{Place}
use Rattle.sched_types.specs.Timetable.{Timetable, places_of}
use Rattle.stop_index.specs.declared.slot.Slot.{Slot}
use Rattle.stop_index.specs.Slots.{slots_between}
use Rattle.board_defs.specs.declared.row.RowState.{RowState}
use Rattle.board_defs.specs.declared.row.RowState.TheVariants as state
use Rattle.board_defs.specs.Rows.{may_board, scheduled_at}
use Rattle.run_overlay.specs.declared.slot.LiveSlot.{LiveSlot}
use Rattle.run_overlay.specs.declared.slot.SlotState.{SlotState}
use Rattle.run_overlay.specs.declared.slot.SlotState.TheVariants as told
use Rattle.run_overlay.specs.Kept.{slots_in}
use Rattle.run_departures.specs.declared.asked.Asked.{Asked}
use Rattle.run_departures.specs.declared.departure.Departure.{Departure}
use Rattle.run_departures.specs.Bids.{LiveFeed, winning}

-- ---- by the timetable

-- a departure at its scheduled instant
abbrev pub by_timetable : ℕ → Slot → Departure
by_timetable stop slot = record {
  expected = slot.at;
  run = slot.run;
  place = slot.place;
  stop = stop;
  scheduled = slot.at;
  delay = None;
  state = state.Scheduled;
}

-- where passengers may board there
abbrev pub if_boarding : ℕ → Slot → Option Place → Option Departure
if_boarding stop slot None = None
if_boarding stop slot (Some place) =
    if may_board place then Some (by_timetable stop slot) else None

-- and where no feed has an update that counts
abbrev pub if_untold : {X : Type 0} → Option ℕ → Option X → Option X
if_untold None given = given
if_untold (Some number) given = None

abbrev pub scheduled_departure : Timetable → List LiveFeed → ℕ → ℕ → Slot → Option Departure
scheduled_departure t feeds at stop slot =
    if_untold (winning at feeds slot.run)
    (if_boarding stop slot (slice_get (places_of t slot.run.trip) slot.place))

-- ---- by an update

-- what is known of it, as a row tells it
abbrev pub row_state : SlotState → RowState
row_state told.Scheduled = state.Scheduled
row_state told.Live = state.Live
row_state told.Skipped = state.Skipped
row_state told.Canceled = state.Canceled

-- a departure at its expected instant
abbrev pub updated : Timetable → ℕ → LiveSlot → Place → Departure
updated t stop slot place = record {
  expected = slot.at;
  run = slot.run;
  place = slot.place;
  stop = stop;
  scheduled = scheduled_at t slot.run place;
  delay = slot.delay;
  state = row_state slot.state;
}

abbrev pub by_update : Timetable → ℕ → LiveSlot → Option Place → Option Departure
by_update t stop slot None = None
by_update t stop slot (Some place) = Some (updated t stop slot place)

-- where the update that counts is that of the feed of that number
abbrev pub if_told_by : {X : Type 0} → ℕ → Option ℕ → Option X → Option X
if_told_by number None given = None
if_told_by number (Some other) given = if number == other then given else None

abbrev pub live_departure : Timetable → List LiveFeed → ℕ → ℕ → ℕ → LiveSlot → Option Departure
live_departure t feeds at number stop slot =
    if_told_by number (winning at feeds slot.run)
    (by_update t stop slot (slice_get (places_of t slot.run.trip) slot.place))

-- ---- at a stop, in the window

abbrev pub scheduled_there : Timetable → List LiveFeed → Asked → ℕ → List Departure
scheduled_there t feeds asked stop =
    filter_map (scheduled_departure t feeds asked.at stop)
    (slots_between t stop (pos asked.at) (pos (asked.at + asked.span)))

abbrev pub live_there : Timetable → List LiveFeed → Asked → ℕ → LiveFeed → List Departure
live_there t feeds asked stop feed =
    filter_map (live_departure t feeds asked.at feed.number stop)
    (slots_in feed.overlay stop (pos asked.at) (pos (asked.at + asked.span)))

-- those by the timetable, and then those of each feed
abbrev pub sources_at : Timetable → List LiveFeed → Asked → ℕ → List (List Departure)
sources_at t feeds asked stop =
    scheduled_there t feeds asked stop ∷ map (live_there t feeds asked stop) feeds
