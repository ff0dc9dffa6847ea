-- The states of a run's places under a trip update (GTFS Realtime, TripUpdate; Trip Updates, "Stop
-- Time Updates"). Delays are seconds behind the timetable; None is an unknown one.
use Rattle.std.specs.Prelude.{ℕ, ◌+◌, Bool, true, false, ◌==◌, nat_lt, if◌then◌else◌, Option, Some, None, unwrap_or, List, [], ◌∷◌, length, map, filter, filter_map, drop, ℤ, pos, ◌-ℤ◌}
use Rattle.std.specs.List.{find, last_or, position_from, range_with_len}
use Rattle.std.specs.Option.{option_or, option_map, option_and_then}
use Rattle.rt_types.specs.declared.enums.StopRelation.{StopRelation}
use Rattle.rt_types.specs.declared.enums.StopRelation.TheVariants.{Scheduled, Skipped, NoData, Unscheduled}
use Rattle.rt_types.specs.declared.trip_update.Event.{Event}
use Rattle.rt_types.specs.declared.trip_update.StopProps.{StopProps}
use Rattle.rt_types.specs.declared.trip_update.StopUpdate.{StopUpdate}
use Rattle.rt_types.specs.declared.trip_update.TripUpdate.{TripUpdate}
use Rattle.text_defs.specs.Moments.{is_instant}
use Rattle.sched_types.specs.declared.rows.Place.{Place}
use Rattle.sched_types.specs.declared.rows.Run.{Run}
use Rattle.sched_types.specs.Timetable.{Timetable, number_of, places_of, arrival_at, departure_at, is_given}
use Rattle.delay_rule_defs.specs.declared.state.StopState.{StopState}

-- ---- which place an update is about

-- the place's stop is the one with that stop_id
abbrev pub is_at : Timetable → Option (List ℕ) → Place → Bool
is_at t None place = false
is_at t (Some id) place = is_given place.stop (number_of (λ stop. stop.id) t.stops id)

-- An update is about the place with its stop_sequence. Where it gives none, it is about a place at
-- the stop with its stop_id. That the stop_id has no say beside a stop_sequence is a rule of this
-- project.
abbrev pub fits_by : Timetable → Option ℕ → Option (List ℕ) → Place → Bool
fits_by t (Some sequence) id place = place.sequence == sequence
fits_by t None id place = is_at t id place

abbrev pub fits : Timetable → StopUpdate → Place → Bool
fits t update place = fits_by t update.stop_sequence update.stop_id place

-- the first place that an update is about, at that one or behind it
abbrev pub place_for : Timetable → ℕ → ℕ → StopUpdate → Option ℕ
place_for t trip from update = position_from (fits t update) from (drop from (places_of t trip))

-- the place that an update takes, with the update, and what the updates behind it take behind that
-- place; an update that takes none is dropped
abbrev pub taken : Option ℕ → StopUpdate → (ℕ → List (ℕ × StopUpdate)) → ℕ → List (ℕ × StopUpdate)
taken None update behind from = behind from
taken (Some i) update behind from = (i, update) ∷ behind (i + 1)

-- the places that a list of updates takes, each behind those before it, with their updates
abbrev pub placements_of : Timetable → ℕ → List StopUpdate → ℕ → List (ℕ × StopUpdate)
placements_of t trip [] from = []
placements_of t trip (update ∷ updates) from =
    taken (place_for t trip from update) update (λ next. placements_of t trip updates next) from

-- ---- what its events tell

-- the delay that a time tells, of something scheduled: a time counts from the first second of 1970
-- on, up to the end of the year 9999
abbrev pub by_time : ℤ → Option ℤ → Option ℤ
by_time scheduled None = None
by_time scheduled (Some time) = if is_instant time then Some (time -ℤ scheduled) else None

-- The delay that an event tells: by its time where that counts, else its own delay, if it has one
-- (GTFS Realtime, StopTimeEvent: a time goes before a delay). None for an event that tells none.
abbrev pub event_delay : ℤ → Option Event → Option ℤ
event_delay scheduled None = None
event_delay scheduled (Some event) = option_or (by_time scheduled event.time) event.delay

-- the delays that the two events of an update tell
pub record EventDelays : Type 0 where
  pub arrival : Option ℤ
  pub departure : Option ℤ

-- an arrival is told against the scheduled arrival at the place, a departure against the scheduled
-- departure
abbrev pub event_delays_at : Timetable → Run → ℕ → StopUpdate → EventDelays
event_delays_at t run i update = record {
  arrival = event_delay (unwrap_or (arrival_at t run i) (pos 0)) update.arrival;
  departure = event_delay (unwrap_or (departure_at t run i) (pos 0)) update.departure;
}

-- an absent relation is SCHEDULED
abbrev pub relation_of : StopUpdate → StopRelation
relation_of update = unwrap_or update.relation Scheduled

-- ---- where the vehicle stops

-- the stop of an assigned_stop_id, where it is one of stops.txt (GTFS Realtime, StopTimeProperties)
abbrev pub assigned_in : Timetable → Option StopProps → Option ℕ
assigned_in t None = None
assigned_in t (Some properties) =
    option_and_then (number_of (λ stop. stop.id) t.stops) properties.assigned_stop_id

-- the stop that an update names for its place
abbrev pub assigned_stop : Timetable → StopUpdate → Option ℕ
assigned_stop t update = assigned_in t update.properties

-- ---- what is carried from place to place

-- What an update says of the places behind it, if it says something: that nothing is known, or a
-- delay. SKIPPED says nothing of them, and neither does SCHEDULED where no event tells a delay (the
-- latter is a rule of this project, as is that an arrival's delay is carried on where no
-- departure's is told).
abbrev pub carry_of : StopRelation → EventDelays → Option (Option ℤ)
carry_of Skipped told = None
carry_of NoData told = Some None
carry_of Unscheduled told = Some None
carry_of Scheduled told = option_map Some (option_or told.departure told.arrival)

abbrev pub carry_of_update : Timetable → Run → (ℕ × StopUpdate) → Option (Option ℤ)
carry_of_update t run pair = carry_of (relation_of pair.1) (event_delays_at t run pair.0 pair.1)

-- The delay that is carried to a place: by the last update that takes a place before it and says
-- something, else the delay of the whole trip update (GTFS Realtime, TripUpdate, delay).
abbrev pub carry_at : Timetable → Run → List (ℕ × StopUpdate) → Option ℤ → ℕ → Option ℤ
carry_at t run pairs delay i =
    unwrap_or (last_or None
    (filter_map (carry_of_update t run) (filter (λ pair. nat_lt pair.0 i) pairs))) delay

-- ---- the state of a place

-- a place that no update says anything about
abbrev pub plain : Option ℤ → StopState
plain carry = record { skipped = false; arrival = carry; departure = carry; stop = None }

-- A place that an update takes, by the update's relation, the delays that it tells, the stop that
-- it names, and the delay that is carried to the place. Where a SCHEDULED update tells no arrival,
-- the carried delay counts; where it tells no departure, the arrival's. It moves its place to the
-- stop that it names, whether it tells a delay or not. The other relations move none, and the stop
-- is not carried on: both are rules of this project.
abbrev pub state_by : StopRelation → EventDelays → Option ℕ → Option ℤ → StopState
state_by Skipped told stop carry =
    record { skipped = true; arrival = carry; departure = carry; stop = None }
state_by NoData told stop carry = plain None
state_by Unscheduled told stop carry = plain None
state_by Scheduled told stop carry = record {
  skipped = false;
  arrival = option_or told.arrival carry;
  departure = option_or told.departure (option_or told.arrival carry);
  stop = stop;
}

abbrev pub state_with : Timetable → Run → Option (ℕ × StopUpdate) → Option ℤ → StopState
state_with t run None carry = plain carry
state_with t run (Some pair) carry =
    state_by (relation_of pair.1) (event_delays_at t run pair.0 pair.1) (assigned_stop t pair.1)
    carry

abbrev pub state_at : Timetable → Run → List (ℕ × StopUpdate) → Option ℤ → ℕ → StopState
state_at t run pairs delay i =
    state_with t run (find (λ pair. pair.0 == i) pairs) (carry_at t run pairs delay i)

-- the states of all places of a run under a trip update, in order
unfoldable pub states : Timetable → Run → TripUpdate → List StopState
states t run update =
    map (state_at t run (placements_of t run.trip update.stop_time_update 0) update.delay)
    (range_with_len 0 (length (places_of t run.trip)))
