-- The trip updates and vehicles whose trip is no run of the timetable, and why.
use Rattle.std.specs.Prelude.{ℕ, Bool, true, false, List, [], ◌∷◌, ◌++◌, Option, Some, None}
use Rattle.std.specs.List.{flat_map}
use Rattle.rt_types.specs.declared.descriptor.TripRef.{TripRef}
use Rattle.rt_types.specs.declared.trip_update.TripUpdate.{TripUpdate}
use Rattle.rt_types.specs.declared.vehicle.Vehicle.{Vehicle}
use Rattle.sched_types.specs.Schedules.{Schedules}
use Rattle.sched_types.specs.Timetable.{Timetable}
use Rattle.trip_match_defs.specs.declared.found.Found.{Found}
use Rattle.trip_match_defs.specs.declared.found.Found.TheVariants as found
use Rattle.trip_match_defs.specs.Matching.{match_of}
use Rattle.board_defs.specs.Choice.{stamp_or}
use Rattle.board_defs.specs.Feeds.{HeldEntity, schedule_entities}
use Rattle.board_defs.specs.Fold.{FeedFold}
use Rattle.board_defs.specs.Rows.{timetable_in}
use Rattle.alert_defs.specs.declared.rows.Unmatched.{Unmatched}

abbrev pub unless_found : HeldEntity → Bool → Found → List Unmatched
unless_found held vehicle (found.Run run) = []
unless_found held vehicle found.Added = []
unless_found held vehicle (found.NoMatch why) =
    record { feed = held.number; id = held.stored.entity.id; vehicle = vehicle; why = why } ∷ []

-- a trip update, at its own stamp or else at its message's
abbrev pub unmatched_update : Timetable → HeldEntity → Option TripUpdate → List Unmatched
unmatched_update t held None = []
unmatched_update t held (Some update) =
    unless_found held false
    (match_of t update.trip (stamp_or held.stored.stamp update.timestamp))

-- a vehicle that names a trip, likewise
abbrev pub unmatched_trip : Timetable → HeldEntity → Option ℕ → Option TripRef → List Unmatched
unmatched_trip t held own None = []
unmatched_trip t held own (Some trip) =
    unless_found held true (match_of t trip (stamp_or held.stored.stamp own))

abbrev pub unmatched_vehicle : Timetable → HeldEntity → Option Vehicle → List Unmatched
unmatched_vehicle t held None = []
unmatched_vehicle t held (Some vehicle) =
    unmatched_trip t held vehicle.timestamp vehicle.trip

-- of an entity, the trip update before the vehicle
abbrev pub unmatched_in : Timetable → HeldEntity → List Unmatched
unmatched_in t held =
    unmatched_update t held held.stored.entity.trip_update
    ++ unmatched_vehicle t held held.stored.entity.vehicle

abbrev pub unmatched_of : Option Timetable → Schedules → List FeedFold → ℕ → List Unmatched
unmatched_of None schedules folds plan = []
unmatched_of (Some t) schedules folds plan =
    flat_map (unmatched_in t) (schedule_entities plan schedules.feeds folds)

-- the trip updates and vehicles of a schedule's feeds that are about no run, by feed and id
unfoldable pub unmatched : Schedules → List FeedFold → ℕ → List Unmatched
unmatched schedules folds plan = unmatched_of (timetable_in schedules plan) schedules folds plan
