-- The rows of a board: of all runs of a timetable all places at which passengers may board at the
-- asked stop.
use Rattle.std.specs.Prelude.{ℕ, ◌+◌, ◌-◌, Bool, true, false, not, ◌&&◌, ◌||◌, ◌==◌, if◌then◌else◌, List, [], ◌++◌, length, map, take, filter, slice_get, Option, Some, None, unwrap_or, ℤ, pos, ◌+ℤ◌, int_le, int_lt}
use Rattle.std.specs.Cmp.Lexicographic.{slice_cmp}
use Rattle.std.specs.Fmt.{decimal}
use Rattle.std.specs.List.{filter_map, flat_map, enumerate_from, range_with_len}
use Rattle.std.specs.Option.{option_map, option_and_then, option_or}
use Rattle.std.specs.Ordering.{bool_cmp, int_cmp, nat_cmp, ordering_then}
use Rattle.std.specs.Str.{bytes_eq}
use Rattle.std.specs.declared.cmp.Ordering.{Ordering}
use Rattle.rt_types.specs.declared.descriptor.TripRef.{TripRef}
use Rattle.rt_types.specs.declared.enums.StopRelation.{StopRelation}
use Rattle.rt_types.specs.declared.enums.StopRelation.TheVariants as served
use Rattle.rt_types.specs.declared.enums.TripRelation.{TripRelation}
use Rattle.rt_types.specs.declared.enums.TripRelation.TheVariants as relation
use Rattle.rt_types.specs.declared.trip_update.Event.{Event}
use Rattle.rt_types.specs.declared.trip_update.StopUpdate.{StopUpdate}
use Rattle.rt_types.specs.declared.trip_update.TripUpdate.{TripUpdate}
use Rattle.sched_types.specs.declared.rows.Place.{Place}
use Rattle.sched_types.specs.declared.rows.Route.{Route}
use Rattle.sched_types.specs.declared.rows.Run.{Run}
use Rattle.sched_types.specs.declared.rows.Trip.{Trip}
use Rattle.sched_types.specs.Runs.{all_runs, departures_of}
use Rattle.sched_types.specs.Schedules.{Schedules}
use Rattle.sched_types.specs.Timetable.{Timetable, number_of, places_of, is_run, names_parent, base_of, dates_of}
use Rattle.delay_rule_defs.specs.declared.state.StopState.{StopState}
use Rattle.delay_rule_defs.specs.Delays.{states}
use Rattle.delay_rule_defs.specs.Delays.{relation_of as served_as}
use Rattle.trip_match_defs.specs.Matching.{relation_of}
use Rattle.order.specs.Order.{ordered}
use Rattle.text_defs.specs.Moments.{is_instant}
use Rattle.board_defs.specs.declared.call.Call.{Call}
use Rattle.board_defs.specs.declared.query.BoardQuery.{BoardQuery}
use Rattle.board_defs.specs.declared.row.Row.{Row}
use Rattle.board_defs.specs.declared.row.RowState.{RowState}
use Rattle.board_defs.specs.declared.row.RowState.TheVariants as state
use Rattle.board_defs.specs.Fold.{FeedFold}
use Rattle.board_defs.specs.Choice.{Update, updates_at, chosen, text_or_none, added_updates}

-- what a row is about: a run of the timetable, or an added trip by its trip_id, its start_date and
-- its route
pub data Subject : Type 0 where
  RunOf : Run → Subject
  AddedTrip : List ℕ → List ℕ → Option ℕ → Subject

-- a row, with what it is about, the place of its trip, and the stop at which it stands
pub record BoardRow : Type 0 where
  pub row : Row
  pub subject : Subject
  pub place : ℕ
  pub stop : ℕ

-- ---- which places count

-- the stop is the asked one, or names it as its parent_station (GTFS Schedule, stops.txt)
abbrev pub is_asked : Timetable → ℕ → ℕ → Bool
is_asked t asked stop = (stop == asked) || names_parent asked (slice_get t.stops stop)

-- passengers may board there (GTFS Schedule, stop_times.txt, pickup_type: 1 is no pickup)
abbrev pub may_board : Place → Bool
may_board place = not (place.pickup == 1)

-- ---- what a board says of a place

-- a state, a delay where it is known, and a stop where it is moved to one
pub record Shown : Type 0 where
  pub state : RowState
  pub delay : Option ℤ
  pub stop : Option ℕ

abbrev pub by_delay : Option ℤ → Option ℕ → Shown
by_delay None stop = record { state = state.Scheduled; delay = None; stop = stop }
by_delay (Some delay) stop = record { state = state.Live; delay = Some delay; stop = stop }

abbrev pub as_scheduled : Shown
as_scheduled = by_delay None None

-- by the state of the place under the run's update
abbrev pub by_state : Option StopState → Shown
by_state None = as_scheduled
by_state (Some s) =
    if s.skipped
    then record { state = state.Skipped; delay = None; stop = s.stop }
    else by_delay s.departure s.stop

-- By the relation of the run's update: a deleted run is not shown, and a canceled one keeps its
-- times and its stops.
abbrev pub by_relation : TripRelation → Option StopState → Option Shown
by_relation relation.Scheduled s = Some (by_state s)
by_relation relation.Added s = Some (by_state s)
by_relation relation.Unscheduled s = Some (by_state s)
by_relation relation.Canceled s =
    Some (record { state = state.Canceled; delay = None; stop = None })
by_relation relation.Replacement s = Some (by_state s)
by_relation relation.Duplicated s = Some (by_state s)
by_relation relation.Deleted s = None

-- by the update that counts for the run, if there is one
abbrev pub shown_at : Timetable → Run → Option Update → ℕ → Option Shown
shown_at t run None i = Some as_scheduled
shown_at t run (Some u) i =
    by_relation (relation_of u.update.trip) (slice_get (states t run u.update) i)

-- the stop at which a place of a run stands: the one to which it is moved, else the timetable's
abbrev pub stands_at : Place → Shown → ℕ
stands_at place shown = unwrap_or shown.stop place.stop

-- ---- the row of a place

-- the short name of a route, else its long name
abbrev pub route_name : Option Route → List ℕ
route_name None = []
route_name (Some route) = if bytes_eq route.short [] then route.long else route.short

abbrev pub route_text : Timetable → Option Trip → List ℕ
route_text t None = []
route_text t (Some trip) = route_name (slice_get t.routes trip.route)

abbrev pub stop_id_of : Timetable → ℕ → List ℕ
stop_id_of t stop = unwrap_or (option_map (λ s. s.id) (slice_get t.stops stop)) []

-- the date of a run, in eight digits
abbrev pub date_text : Timetable → ℕ → List ℕ
date_text t day = decimal (unwrap_or (slice_get (dates_of t) day) 0)

abbrev pub scheduled_at : Timetable → Run → Place → ℤ
scheduled_at t run place = base_of t run.day +ℤ pos place.departure

abbrev pub row_of : Timetable → Run → Place → Shown → Row
row_of t run place shown = let trip = slice_get t.trips run.trip in record {
  expected = scheduled_at t run place +ℤ unwrap_or shown.delay (pos 0);
  scheduled = Some (scheduled_at t run place);
  delay = shown.delay;
  state = shown.state;
  route = route_text t trip;
  headsign = unwrap_or (option_map (λ x. x.headsign) trip) [];
  trip = unwrap_or (option_map (λ x. x.id) trip) [];
  date = date_text t run.day;
  platform = stop_id_of t (stands_at place shown);
}

-- and with what it is about, where the place stands at the asked stop
abbrev pub shown_row : Timetable → ℕ → Run → ℕ × Place → Shown → Option BoardRow
shown_row t asked run (i, place) shown =
    if is_asked t asked (stands_at place shown)
    then
    Some
    (record {
      row = row_of t run place shown;
      subject = RunOf run;
      place = i;
      stop = stands_at place shown;
    })
    else None

-- a place at which passengers may board, by the update that counts for its run
abbrev pub place_row : Timetable → ℕ → Run → Option Update → ℕ × Place → Option BoardRow
place_row t asked run update (i, place) =
    if may_board place
    then option_and_then (shown_row t asked run (i, place)) (shown_at t run update i)
    else None

-- the rows of a run at the asked stop
unfoldable pub run_rows : Timetable → ℕ → List Update → Run → List BoardRow
run_rows t asked updates run =
    filter_map (place_row t asked run (chosen t updates run)) (departures_of t run.trip)

-- ---- the rows of added trips (GTFS Realtime, TripDescriptor, ADDED)

-- the time that an event tells, where it is a moment (StopTimeEvent, time)
abbrev pub moment_of : Option Event → Option ℤ
moment_of event =
    option_and_then (λ time. if is_instant time then Some time else None)
    (option_and_then (λ e. e.time) event)

-- when a call leaves: the time of its departure, or else of its arrival
abbrev pub leaves_at : StopUpdate → Option ℤ
leaves_at u = option_or (moment_of u.departure) (moment_of u.arrival)

abbrev pub call_at : Option ℕ → Option ℤ → Option Call
call_at None leaves = None
call_at (Some stop) None = None
call_at (Some stop) (Some leaves) = Some (record { stop = stop; leaves = leaves })

-- whether the vehicle stops there, and its times are told (StopTimeUpdate, schedule_relationship)
abbrev pub is_served : StopRelation → Bool
is_served served.Scheduled = true
is_served served.Skipped = false
is_served served.NoData = false
is_served served.Unscheduled = false

-- A stop time update is a call where the stop is served, its stop_id is in stops.txt, and a time is
-- told. An added trip has no places in the timetable, so neither a stop_sequence nor a delay says
-- anything.
abbrev pub call_of : Timetable → StopUpdate → Option Call
call_of t u =
    if is_served (served_as u)
    then call_at (option_and_then (number_of (λ stop. stop.id) t.stops) u.stop_id) (leaves_at u)
    else None

abbrev pub calls_of : Timetable → TripUpdate → List Call
calls_of t update = filter_map (call_of t) update.stop_time_update

-- all calls but the last, at which nobody boards, with their numbers
abbrev pub departing_calls : List Call → List (ℕ × Call)
departing_calls calls = enumerate_from 0 (take (length calls - 1) calls)

-- the number of the route of a route_id
abbrev pub route_named : Timetable → Option (List ℕ) → Option ℕ
route_named t id = option_and_then (number_of (λ route. route.id) t.routes) id

-- the row of a call of an added trip, which has no times in the timetable and so no delay
abbrev pub added_row : Timetable → List ℕ → List ℕ → Option ℕ → ℕ → Call → BoardRow
added_row t trip date route i call = record {
  row = record {
    expected = call.leaves;
    scheduled = None;
    delay = None;
    state = state.Added;
    route = route_name (option_and_then (slice_get t.routes) route);
    headsign = [];
    trip = trip;
    date = date;
    platform = stop_id_of t call.stop;
  };
  subject = AddedTrip trip date route;
  place = i;
  stop = call.stop;
}

abbrev pub added_row_at : Timetable → ℕ → TripRef → ℕ × Call → Option BoardRow
added_row_at t asked trip (i, call) =
    if is_asked t asked call.stop
    then
    Some
    (added_row t (text_or_none trip.trip_id) (text_or_none trip.start_date)
    (route_named t trip.route_id) i call)
    else None

-- the rows of an added trip at the asked stop, by the update that counts for it
unfoldable pub added_trip_rows : Timetable → ℕ → Update → List BoardRow
added_trip_rows t asked u =
    filter_map (added_row_at t asked u.update.trip) (departing_calls (calls_of t u.update))

abbrev pub added_rows : Timetable → ℕ → List Update → List BoardRow
added_rows t asked updates = flat_map (added_trip_rows t asked) (added_updates t updates)

abbrev pub all_rows : Timetable → ℕ → List Update → List BoardRow
all_rows t asked updates = flat_map (run_rows t asked updates) (all_runs t)
    ++ added_rows t asked updates

-- ---- their order

abbrev pub is_added : Subject → Bool
is_added (RunOf run) = false
is_added (AddedTrip trip date route) = true

-- by the expected instant, the trip_id, the date, trips of the timetable before added ones, the
-- place
abbrev pub row_cmp : BoardRow → BoardRow → Ordering
row_cmp a b =
    ordering_then (int_cmp a.row.expected b.row.expected)
    (ordering_then (slice_cmp nat_cmp a.row.trip b.row.trip)
    (ordering_then (slice_cmp nat_cmp a.row.date b.row.date)
    (ordering_then (bool_cmp (is_added a.subject) (is_added b.subject)) (nat_cmp a.place b.place))))

-- expected from a moment on, for so many seconds
abbrev pub is_within : ℕ → ℕ → BoardRow → Bool
is_within at span row = int_le (pos at) row.row.expected
    && int_lt row.row.expected (pos (at + span))

-- the first rows at a stop
unfoldable pub board_at : Timetable → ℕ → List Update → BoardQuery → List BoardRow
board_at t asked updates query =
    take query.limit
    (ordered row_cmp (filter (is_within query.at query.span) (all_rows t asked updates)))

abbrev pub board_in : Timetable → List Update → BoardQuery → Option ℕ → Option (List BoardRow)
board_in t updates query None = None
board_in t updates query (Some asked) = Some (board_at t asked updates query)

-- the timetable of a schedule; one without rows past the last
abbrev pub timetable_in : Schedules → ℕ → Option Timetable
timetable_in schedules plan = option_map (λ named. named.plan) (slice_get schedules.plans plan)

-- The rows of a board with what they are about, of what all feeds say; None where no row of
-- stops.txt has the asked id.
abbrev pub board_of : Schedules → List FeedFold → BoardQuery → Option Timetable
    → Option (List BoardRow)
board_of schedules folds query None = None
board_of schedules folds query (Some t) =
    board_in t (updates_at query.plan query.at schedules.feeds folds) query
    (number_of (λ stop. stop.id) t.stops query.stop)

unfoldable pub board : Schedules → List FeedFold → BoardQuery → Option (List BoardRow)
board schedules folds query = board_of schedules folds query (timetable_in schedules query.plan)

-- the rows alone
abbrev pub rows : Schedules → List FeedFold → BoardQuery → Option (List Row)
rows schedules folds query = option_map (map (λ b. b.row)) (board schedules folds query)
