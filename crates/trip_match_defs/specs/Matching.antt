-- Which run a TripDescriptor is about (GTFS Realtime, TripDescriptor), at an instant: that of the
-- update in which it stands. Of six rules, and one more between the third and the fourth, the first
-- that applies decides; that they come in this order is a rule of this project.
use Rattle.std.specs.Prelude.{ℕ, ◌-◌, Bool, ◌&&◌, if◌then◌else◌, Option, Some, None, unwrap_or, option_and_then, List, [], ◌∷◌, length, map, filter, fold, ℤ, pos, ◌+ℤ◌, ◌-ℤ◌, int_lt, int_le}
use Rattle.std.specs.List.{list_any, range_with_len}
use Rattle.rt_types.specs.declared.enums.TripRelation.{TripRelation}
use Rattle.rt_types.specs.declared.enums.TripRelation.TheVariants as relation
use Rattle.rt_types.specs.declared.descriptor.TripRef.{TripRef}
use Rattle.sched_types.specs.Timetable.{Timetable, number_of, places_of, is_run, base_of, arrival_at, departure_at, day_with_date, pattern_with, derived_trip, has_derived}
use Rattle.sched_types.specs.Departures.{departs_so}
use Rattle.trip_match_defs.specs.declared.found.Found.{Found}
use Rattle.trip_match_defs.specs.declared.found.Found.TheVariants as found
use Rattle.trip_match_defs.specs.declared.found.Near.{Near}
use Rattle.trip_match_defs.specs.declared.found.Why.{Why}
use Rattle.trip_match_defs.specs.declared.found.Why.TheVariants as why
use Rattle.trip_match_defs.specs.Texts.{text_given}
use Rattle.text_defs.specs.Dates.{date_in}
use Rattle.text_defs.specs.Times.{time_in}

-- a rule that applies decides, and else the later ones
abbrev pub first_rule : Option Found → Found → Found
first_rule None later = later
first_rule (Some found) later = found

abbrev pub no_match : Why → Option Found
no_match why = Some (found.NoMatch why)

-- 1. Trips that take the place of a timetable's, or that have none, are about no run.
abbrev pub rule_1_relation : TripRelation → Option Found
rule_1_relation relation.Scheduled = None
rule_1_relation relation.Added = None
rule_1_relation relation.Unscheduled = no_match why.Relation
rule_1_relation relation.Canceled = None
rule_1_relation relation.Replacement = no_match why.Relation
rule_1_relation relation.Duplicated = no_match why.Relation
rule_1_relation relation.Deleted = None

-- 2. A start_date is a date.
abbrev pub unless_date : Option ℕ → Option Found
unless_date None = no_match why.BadText
unless_date (Some date) = None

abbrev pub rule_2_start_date : Option (List ℕ) → Option Found
rule_2_start_date None = None
rule_2_start_date (Some text) = unless_date (date_in text)

-- 3. An ADDED trip is known by its trip_id.
abbrev pub added_trip : Option (List ℕ) → Option Found
added_trip None = no_match why.NoTrip
added_trip (Some id) = Some found.Added

abbrev pub rule_3_added_trip : TripRelation → Option (List ℕ) → Option Found
rule_3_added_trip relation.Scheduled id = None
rule_3_added_trip relation.Added id = added_trip id
rule_3_added_trip relation.Unscheduled id = None
rule_3_added_trip relation.Canceled id = None
rule_3_added_trip relation.Replacement id = None
rule_3_added_trip relation.Duplicated id = None
rule_3_added_trip relation.Deleted id = None

-- Between the third and the fourth: a trip_id that frequencies.txt names is a pattern, and the
-- start_time says which of its trips is meant (GTFS Realtime, TripDescriptor, start_time: it must
-- be given for trips of frequencies.txt). A pattern without trips and a start at which it has none
-- are no trip; an absent start_time leaves several. That these are the answers is a rule of this
-- project.
abbrev pub unless_derived : Option ℕ → Option Found
unless_derived None = no_match why.NoTrip
unless_derived (Some trip) = None

abbrev pub unless_start : Timetable → ℕ → Option ℕ → Option Found
unless_start t pattern None = no_match why.BadText
unless_start t pattern (Some start) = unless_derived (derived_trip t pattern start)

abbrev pub unless_start_text : Timetable → ℕ → Option (List ℕ) → Option Found
unless_start_text t pattern None = no_match why.Several
unless_start_text t pattern (Some text) = unless_start t pattern (time_in text)

abbrev pub unless_pattern : Timetable → Option ℕ → Option (List ℕ) → Option Found
unless_pattern t None time = None
unless_pattern t (Some pattern) time =
    if has_derived t pattern then unless_start_text t pattern time else no_match why.NoTrip

abbrev pub rule_pattern : Timetable → Option (List ℕ) → Option (List ℕ) → Option Found
rule_pattern t None time = None
rule_pattern t (Some id) time = unless_pattern t (pattern_with t id) time

-- The trip that is meant then: that of the pattern at the start_time, and else the one with the id.
abbrev pub trip_with : Timetable → List ℕ → Option ℕ
trip_with t id = number_of (λ trip. trip.id) t.trips id

abbrev pub started_trip : Timetable → ℕ → Option (List ℕ) → Option ℕ
started_trip t pattern time =
    option_and_then (derived_trip t pattern) (option_and_then time_in time)

abbrev pub trip_or_started : Timetable → List ℕ → Option (List ℕ) → Option ℕ → Option ℕ
trip_or_started t id time None = trip_with t id
trip_or_started t id time (Some pattern) = started_trip t pattern time

abbrev pub trip_meant : Timetable → List ℕ → Option (List ℕ) → Option ℕ
trip_meant t id time = trip_or_started t id time (pattern_with t id)

-- 4. A trip with a trip_id is in the timetable; with a start_date it is the run on that day.
abbrev pub run_on : Timetable → ℕ → Option ℕ → Found
run_on t trip None = found.NoMatch why.NoDay
run_on t trip (Some day) =
    if is_run t (record { trip = trip; day = day })
    then found.Run (record { trip = trip; day = day }) else found.NoMatch why.NotActive

abbrev pub run_on_date : Timetable → ℕ → Option ℕ → Option Found
run_on_date t trip None = None
run_on_date t trip (Some date) = Some (run_on t trip (day_with_date t date))

abbrev pub run_of_trip : Timetable → Option ℕ → Option ℕ → Option Found
run_of_trip t None date = no_match why.NoTrip
run_of_trip t (Some trip) date = run_on_date t trip date

abbrev pub rule_4_trip_id : Timetable → Option (List ℕ) → Option (List ℕ) → Option ℕ
    → Option Found
rule_4_trip_id t None time date = None
rule_4_trip_id t (Some id) time date = run_of_trip t (trip_meant t id time) date

-- 5. Without a start_date it is the run on the near day whose span lies nearest to the instant.

-- A day is near an instant that lies less than a day and a half before its noon, or so long behind
-- it: without a clock change the day of the instant, the day before it and the day behind it.
abbrev pub is_near_noon : ℤ → ℤ → Bool
is_near_noon noon instant = int_le (noon -ℤ pos 129_600) instant
    && int_lt instant (noon +ℤ pos 129_600)

abbrev pub is_near : Timetable → ℤ → ℕ → Bool
is_near t instant day = is_near_noon (base_of t day +ℤ pos 43_200) instant

-- how far an instant lies outside of a span
abbrev pub seconds_outside : ℤ → ℤ → ℤ → ℤ
seconds_outside first last instant =
    if int_lt instant first then first -ℤ instant else if int_lt last instant then instant -ℤ last
    else pos 0

-- how far an instant lies outside of a run, from its first departure to its last arrival
abbrev pub near_at : Timetable → ℕ → ℤ → ℕ → Near
near_at t trip instant day = record {
  day = day;
  gap =
      seconds_outside (unwrap_or (departure_at t (record { trip = trip; day = day }) 0) (pos 0))
      (unwrap_or (arrival_at t (record { trip = trip; day = day }) (length (places_of t trip) - 1))
      (pos 0))
      instant;
}

-- the nearer of two; where both are as near, the earlier one
abbrev pub nearer : Option Near → Near → Option Near
nearer None near = Some near
nearer (Some best) near = Some (if int_lt near.gap best.gap then near else best)

abbrev pub runs_near : Timetable → ℕ → ℤ → ℕ → Bool
runs_near t trip instant day = is_near t instant day && is_run t (record { trip = trip; day = day })

-- the nearest of some days that are near and on which the trip runs
abbrev pub nearest : Timetable → ℕ → ℤ → List ℕ → Option Near
nearest t trip instant days =
    fold nearer None (map (near_at t trip instant) (filter (runs_near t trip instant) days))

abbrev pub run_near : ℕ → Option Near → Found
run_near trip None = found.NoMatch why.NotActive
run_near trip (Some near) = found.Run (record { trip = trip; day = near.day })

unfoldable pub by_near : Timetable → ℤ → ℕ → Found
by_near t instant trip =
    let days = range_with_len 0 (length t.bases) in
    if list_any (is_near t instant) days then run_near trip (nearest t trip instant days)
    else found.NoMatch why.NoDay

abbrev pub run_near_instant : Timetable → ℤ → Option ℕ → Option Found
run_near_instant t instant None = None
run_near_instant t instant (Some trip) = Some (by_near t instant trip)

abbrev pub rule_5_nearest_day : Timetable → ℤ → Option (List ℕ) → Option (List ℕ) → Option Found
rule_5_nearest_day t instant None time = None
rule_5_nearest_day t instant (Some id) time = run_near_instant t instant (trip_meant t id time)

-- 6. Without a trip_id it is the one run on that day of that route and direction that first departs
--    at that time.
abbrev pub only_trip : ℕ → List ℕ → Found
only_trip day [] = found.NoMatch why.NoTrip
only_trip day (trip ∷ []) = found.Run (record { trip = trip; day = day })
only_trip day (trip ∷ other ∷ trips) = found.NoMatch why.Several

abbrev pub trips_running : Timetable → ℕ → List ℕ → List ℕ
trips_running t day trips = filter (λ trip. is_run t (record { trip = trip; day = day })) trips

abbrev pub on_route : Timetable → Option ℕ → ℕ → ℕ → ℕ → Found
on_route t None direction departure day = found.NoMatch why.NoTrip
on_route t (Some route) direction departure day =
    only_trip day
    (trips_running t day
    (filter (departs_so t route direction departure) (range_with_len 0 (length t.trips))))

abbrev pub on_day : Timetable → List ℕ → ℕ → ℕ → Option ℕ → Found
on_day t route direction departure None = found.NoMatch why.NoDay
on_day t route direction departure (Some day) =
    on_route t (number_of (λ row. row.id) t.routes route) direction departure day

abbrev pub at_time : Timetable → List ℕ → ℕ → ℕ → Option ℕ → Found
at_time t route direction date None = found.NoMatch why.BadText
at_time t route direction date (Some departure) =
    on_day t route direction departure (day_with_date t date)

abbrev pub rule_6_route_and_time : Timetable → Option (List ℕ) → Option ℕ → Option ℕ
    → Option (List ℕ) → Found
rule_6_route_and_time t (Some route) (Some direction) (Some date) (Some time) =
    at_time t route direction date (time_in time)
rule_6_route_and_time t _ _ _ _ = found.NoMatch why.NoTrip

-- an absent relation is SCHEDULED
abbrev pub relation_of : TripRef → TripRelation
relation_of trip = unwrap_or trip.relation relation.Scheduled

-- the date that a start_date writes, if it is given and writes one
abbrev pub start_day : TripRef → Option ℕ
start_day trip = option_and_then date_in (text_given trip.start_date)

-- what a trip descriptor is about at an instant
unfoldable pub match_of : Timetable → TripRef → ℕ → Found
match_of t trip stamp =
    first_rule (rule_1_relation (relation_of trip))
    (first_rule (rule_2_start_date (text_given trip.start_date))
    (first_rule (rule_3_added_trip (relation_of trip) (text_given trip.trip_id))
    (first_rule (rule_pattern t (text_given trip.trip_id) (text_given trip.start_time))
    (first_rule
    (rule_4_trip_id t (text_given trip.trip_id) (text_given trip.start_time) (start_day trip))
    (first_rule
    (rule_5_nearest_day t (pos stamp) (text_given trip.trip_id) (text_given trip.start_time))
    (rule_6_route_and_time t (text_given trip.route_id) trip.direction_id (start_day trip)
    (text_given trip.start_time)))))))
