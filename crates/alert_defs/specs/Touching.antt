-- What a selector of an alert is about (GTFS Realtime, EntitySelector): all that it gives must
-- hold. A text that is given and empty is given.
use Rattle.std.specs.Prelude.{ℕ, Bool, true, false, not, ◌&&◌, ◌||◌, ◌==◌, List, slice_get, Option, Some, None, ℤ, pos}
use Rattle.std.specs.Option.{option_and_then, option_map, is_some}
use Rattle.std.specs.Ordering.{int_eq}
use Rattle.rt_types.specs.declared.alert.Selector.{Selector}
use Rattle.rt_types.specs.declared.descriptor.TripRef.{TripRef}
use Rattle.sched_types.specs.declared.rows.Route.{Route}
use Rattle.sched_types.specs.Timetable.{Timetable, number_of, is_given, names_parent}
use Rattle.trip_match_defs.specs.declared.found.Found.{Found}
use Rattle.trip_match_defs.specs.Matching.{match_of}
use Rattle.board_defs.specs.Choice.{is_run_found, is_added_found, is_added_trip}
use Rattle.board_defs.specs.Rows.{Subject}
use Rattle.board_defs.specs.Rows.Subject.{RunOf, AddedTrip}

-- what an alert may touch: a stop by its number, or a row of a board, by what it is about and the
-- number of the stop at which it stands
pub data Touched : Type 0 where
  StopItself : ℕ → Touched
  RowAt : Subject → ℕ → Touched

-- ---- the parts of a selector

-- what isn't given holds
abbrev pub holds_if_given : {A : Type 0} → (A → Bool) → Option A → Bool
holds_if_given test None = true
holds_if_given test (Some value) = test value

-- both numbers are given, and are one
abbrev pub is_one : Option ℕ → Option ℕ → Bool
is_one None other = false
is_one (Some number) other = is_given number other

-- the stop of an id is this one, or the one that this one names as its parent_station
abbrev pub is_stop_or_parent : Timetable → ℕ → Option ℕ → Bool
is_stop_or_parent t stop None = false
is_stop_or_parent t stop (Some named) =
    (named == stop) || names_parent named (slice_get t.stops stop)

-- the same, or one that names this one as its parent_station
abbrev pub is_stop_or_kin : Timetable → ℕ → Option ℕ → Bool
is_stop_or_kin t stop None = false
is_stop_or_kin t stop (Some named) =
    is_stop_or_parent t stop (Some named) || names_parent stop (slice_get t.stops named)

abbrev pub stop_with : Timetable → List ℕ → Option ℕ
stop_with t id = number_of (λ stop. stop.id) t.stops id

-- ---- what a row is about

-- the number of the row's route; an added trip may have none
abbrev pub route_of : Timetable → Subject → Option ℕ
route_of t (RunOf run) = option_map (λ trip. trip.route) (slice_get t.trips run.trip)
route_of t (AddedTrip trip date route) = route

-- the direction of the row's trip, if it has one; an added trip has none
abbrev pub direction_of : Timetable → Subject → Option ℕ
direction_of t (RunOf run) = option_and_then (λ trip. trip.direction) (slice_get t.trips run.trip)
direction_of t (AddedTrip trip date route) = None

abbrev pub route_row : Timetable → Option ℕ → Option Route
route_row t route = option_and_then (λ number. slice_get t.routes number) route

-- the route is one of the agency of this id, the one of this id, one of this route_type
abbrev pub is_agency : Timetable → Option ℕ → List ℕ → Bool
is_agency t route id =
    is_one (number_of (λ agency. agency) t.agencies id)
    (option_and_then (λ row. row.agency) (route_row t route))

abbrev pub is_route : Timetable → Option ℕ → List ℕ → Bool
is_route t route id = is_one (number_of (λ row. row.id) t.routes id) route

abbrev pub has_kind : ℤ → Option Route → Bool
has_kind kind None = false
has_kind kind (Some route) = int_eq (pos route.kind) kind

-- what a trip descriptor is about is the row's run or added trip
abbrev pub is_trip : Subject → TripRef → Found → Bool
is_trip (RunOf run) named found = is_run_found run found
is_trip (AddedTrip trip date route) named found =
    is_added_found found && is_added_trip trip date named

-- ---- selectors

-- a selector gives one field besides stop_id at least
abbrev pub gives_more : Selector → Bool
gives_more s =
    is_some s.agency_id || is_some s.route_id || is_some s.route_type || is_some s.trip
    || is_some s.direction_id

-- the selector gives a stop_id alone, of the stop itself, its parent or one of its children
abbrev pub touches_stop : Timetable → Selector → ℕ → Option (List ℕ) → Bool
touches_stop t s stop None = false
touches_stop t s stop (Some id) = not (gives_more s) && is_stop_or_kin t stop (stop_with t id)

-- the fields that say which rows, without the trip, hold for a row of that route and direction at
-- that stop
abbrev pub fits : Timetable → Selector → Option ℕ → Option ℕ → ℕ → Bool
fits t s route direction stop =
    holds_if_given (is_agency t route) s.agency_id
    && holds_if_given (is_route t route) s.route_id
    && holds_if_given (λ kind. has_kind kind (route_row t route)) s.route_type
    && holds_if_given (λ asked. is_given asked direction) s.direction_id
    && holds_if_given (λ id. is_stop_or_parent t stop (stop_with t id)) s.stop_id

-- Each field that the selector gives holds for the row, and it gives one. A trip is taken as it is
-- meant at the stamp of the alert's message.
abbrev pub touches_row : Timetable → Selector → ℕ → Subject → ℕ → Bool
touches_row t s stamp subject stop =
    (gives_more s || is_some s.stop_id)
    && fits t s (route_of t subject) (direction_of t subject) stop
    && holds_if_given (λ trip. is_trip subject trip (match_of t trip stamp)) s.trip

-- what the selector touches, where the alert's message has that stamp
unfoldable pub touches : Timetable → Selector → ℕ → Touched → Bool
touches t s stamp (StopItself stop) = touches_stop t s stop s.stop_id
touches t s stamp (RowAt subject stop) = touches_row t s stamp subject stop
