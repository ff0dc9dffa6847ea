-- A run that a trip descriptor is about is one of the timetable.
use Rattle.std.proofs.Common.{◌≡◌, ℕ, Bool, true, false, cond, Option, Some, None, List, [], ◌∷◌, length, map, filter, ℤ, pos, refl}
use Rattle.std.specs.Prelude.{if◌then◌else◌, IfSome, fold, int_lt}
use Rattle.std.specs.List.{AllByRecursion, list_any, range_with_len}
use Rattle.std.proofs.lemmas.Bool.{and_parts}
use Rattle.rt_types.specs.declared.descriptor.TripRef.{TripRef}
use Rattle.rt_types.specs.declared.enums.TripRelation.{TripRelation}
use Rattle.rt_types.specs.declared.enums.TripRelation.TheVariants as relation
use Rattle.sched_types.specs.Timetable.{Timetable, number_of, is_run, day_with_date, pattern_with, derived_trip, has_derived}
use Rattle.sched_types.specs.Departures.{departs_so}
use Rattle.text_defs.specs.Dates.{date_in}
use Rattle.text_defs.specs.Times.{time_in}
use Rattle.trip_match_defs.specs.declared.found.Found.{Found}
use Rattle.trip_match_defs.specs.declared.found.Found.TheVariants as found
use Rattle.trip_match_defs.specs.declared.found.Near.{Near}
use Rattle.trip_match_defs.specs.declared.found.Why.TheVariants as why
use Rattle.trip_match_defs.specs.Matching.{first_rule, rule_1_relation, unless_date, rule_2_start_date, added_trip, rule_3_added_trip, unless_derived, unless_start, unless_start_text, unless_pattern, rule_pattern, trip_meant, run_on, run_on_date, run_of_trip, rule_4_trip_id, is_near, near_at, nearer, runs_near, nearest, run_near, by_near, run_near_instant, rule_5_nearest_day, only_trip, trips_running, on_route, on_day, at_time, rule_6_route_and_time, relation_of, start_day, match_of}
use Rattle.trip_match_defs.specs.Texts.{text_given}

-- a run that was found runs
abbrev pub RunsIfFound : Timetable → Found → Type 0
RunsIfFound t (found.Run run) = is_run t run ≡ true
RunsIfFound t found.Added = Unit {0}
RunsIfFound t (found.NoMatch why) = Unit {0}

all_passed : (p : ℕ → Bool) (xs : List ℕ) → AllByRecursion (λ x. p x ≡ true) (filter p xs)
all_passed p [] = tt
all_passed p (x ∷ xs) = by_test (p x) refl (all_passed p xs) where
  by_test : (b : Bool) → p x ≡ b → AllByRecursion (λ y. p y ≡ true) (filter p xs) → AllByRecursion (λ y. p y ≡ true) (cond b (x ∷ filter p xs) (filter p xs))
  by_test true e rest = (e, rest)
  by_test false e rest = rest

module _ (t : Timetable) where
  abbrev Sound : Option Found → Type 0
  Sound rule = IfSome rule (RunsIfFound t)

  by_rule : (rule : Option Found) (later : Found) → Sound rule → RunsIfFound t later → RunsIfFound t (first_rule rule later)
  by_rule None later first rest = rest
  by_rule (Some one) later first rest = first

  -- ---- the first three rules find no run

  by_relation : (kind : TripRelation) → Sound (rule_1_relation kind)
  by_relation relation.Scheduled = tt
  by_relation relation.Added = tt
  by_relation relation.Unscheduled = tt
  by_relation relation.Canceled = tt
  by_relation relation.Replacement = tt
  by_relation relation.Duplicated = tt
  by_relation relation.Deleted = tt

  by_date : (date : Option ℕ) → Sound (unless_date date)
  by_date None = tt
  by_date (Some date) = tt

  by_start_date : (text : Option (List ℕ)) → Sound (rule_2_start_date text)
  by_start_date None = tt
  by_start_date (Some text) = by_date (date_in text)

  by_added_id : (id : Option (List ℕ)) → Sound (added_trip id)
  by_added_id None = tt
  by_added_id (Some id) = tt

  by_added : (kind : TripRelation) (id : Option (List ℕ)) → Sound (rule_3_added_trip kind id)
  by_added relation.Scheduled id = tt
  by_added relation.Added id = by_added_id id
  by_added relation.Unscheduled id = tt
  by_added relation.Canceled id = tt
  by_added relation.Replacement id = tt
  by_added relation.Duplicated id = tt
  by_added relation.Deleted id = tt

  -- ---- nor does that of patterns

  by_derived : (trip : Option ℕ) → Sound (unless_derived trip)
  by_derived None = tt
  by_derived (Some trip) = tt

  by_start : (pattern : ℕ) (start : Option ℕ) → Sound (unless_start t pattern start)
  by_start pattern None = tt
  by_start pattern (Some start) = by_derived (derived_trip t pattern start)

  by_start_text : (pattern : ℕ) (time : Option (List ℕ)) → Sound (unless_start_text t pattern time)
  by_start_text pattern None = tt
  by_start_text pattern (Some text) = by_start pattern (time_in text)

  by_given_pattern : (pattern : Option ℕ) (time : Option (List ℕ)) → Sound (unless_pattern t pattern time)
  by_given_pattern None time = tt
  by_given_pattern (Some pattern) time = by_test (has_derived t pattern) where
    by_test : (b : Bool) → Sound (if b then unless_start_text t pattern time else Some (found.NoMatch why.NoTrip))
    by_test true = by_start_text pattern time
    by_test false = tt

  by_pattern : (id time : Option (List ℕ)) → Sound (rule_pattern t id time)
  by_pattern None time = tt
  by_pattern (Some id) time = by_given_pattern (pattern_with t id) time

  -- ---- with a trip_id and a date

  on_that_day : (trip : ℕ) (day : Option ℕ) → RunsIfFound t (run_on t trip day)
  on_that_day trip None = tt
  on_that_day trip (Some day) = by_test (is_run t (record { trip = trip; day = day })) refl where
    by_test : (b : Bool) → is_run t (record { trip = trip; day = day }) ≡ b → RunsIfFound t (if b then found.Run (record { trip = trip; day = day }) else found.NoMatch why.NotActive)
    by_test true e = e
    by_test false e = tt

  on_date : (trip : ℕ) (date : Option ℕ) → Sound (run_on_date t trip date)
  on_date trip None = tt
  on_date trip (Some date) = on_that_day trip (day_with_date t date)

  of_trip : (trip : Option ℕ) (date : Option ℕ) → Sound (run_of_trip t trip date)
  of_trip None date = tt
  of_trip (Some trip) date = on_date trip date

  by_trip_id : (id time : Option (List ℕ)) (date : Option ℕ) → Sound (rule_4_trip_id t id time date)
  by_trip_id None time date = tt
  by_trip_id (Some id) time date = of_trip (trip_meant t id time) date

  -- ---- on the nearest day

  abbrev RunsThen : ℕ → Near → Type 0
  RunsThen trip near = is_run t (record { trip = trip; day = near.day }) ≡ true

  one_nearer : (trip : ℕ) (best : Option Near) (near : Near) → IfSome best (RunsThen trip) → RunsThen trip near → IfSome (nearer best near) (RunsThen trip)
  one_nearer trip None near before this = this
  one_nearer trip (Some best) near before this = by_test (int_lt near.gap best.gap) where
    by_test : (b : Bool) → IfSome (Some (if b then near else best)) (RunsThen trip)
    by_test true = this
    by_test false = before

  all_nearer : (trip : ℕ) (best : Option Near) (nears : List Near) → IfSome best (RunsThen trip) → AllByRecursion (RunsThen trip) nears → IfSome (fold nearer best nears) (RunsThen trip)
  all_nearer trip best [] before all = before
  all_nearer trip best (near ∷ nears) before all = all_nearer trip (nearer best near) nears (one_nearer trip best near before all.0) all.1

  near_days : (trip : ℕ) (instant : ℤ) (days : List ℕ) → AllByRecursion (RunsThen trip) (map (near_at t trip instant) (filter (runs_near t trip instant) days))
  near_days trip instant [] = tt
  near_days trip instant (day ∷ days) = by_test (runs_near t trip instant day) refl (near_days trip instant days) where
    by_test : (b : Bool) → runs_near t trip instant day ≡ b → AllByRecursion (RunsThen trip) (map (near_at t trip instant) (filter (runs_near t trip instant) days))
        → AllByRecursion (RunsThen trip) (map (near_at t trip instant) (cond b (day ∷ filter (runs_near t trip instant) days) (filter (runs_near t trip instant) days)))
    by_test true e rest = ((and_parts (is_near t instant day) (is_run t (record { trip = trip; day = day })) e).1, rest)
    by_test false e rest = rest

  by_nearest : (trip : ℕ) (best : Option Near) → IfSome best (RunsThen trip) → RunsIfFound t (run_near trip best)
  by_nearest trip None runs = tt
  by_nearest trip (Some near) runs = runs

  on_near_day : (instant : ℤ) (trip : ℕ) → RunsIfFound t (by_near t instant trip)
  unfolding by_near
  on_near_day instant trip = by_test (list_any (is_near t instant) (range_with_len 0 (length t.bases))) where
    by_test : (b : Bool) → RunsIfFound t (if b then run_near trip (nearest t trip instant (range_with_len 0 (length t.bases))) else found.NoMatch why.NoDay)
    by_test true =
        by_nearest trip (nearest t trip instant (range_with_len 0 (length t.bases)))
        (all_nearer trip None (map (near_at t trip instant) (filter (runs_near t trip instant) (range_with_len 0 (length t.bases)))) tt (near_days trip instant (range_with_len 0 (length t.bases))))
    by_test false = tt

  near_trip : (instant : ℤ) (trip : Option ℕ) → Sound (run_near_instant t instant trip)
  near_trip instant None = tt
  near_trip instant (Some trip) = on_near_day instant trip

  by_nearest_day : (instant : ℤ) (id time : Option (List ℕ)) → Sound (rule_5_nearest_day t instant id time)
  by_nearest_day instant None time = tt
  by_nearest_day instant (Some id) time = near_trip instant (trip_meant t id time)

  -- ---- by route and time

  only_one : (day : ℕ) (trips : List ℕ) → AllByRecursion (λ trip. is_run t (record { trip = trip; day = day }) ≡ true) trips → RunsIfFound t (only_trip day trips)
  only_one day [] all = tt
  only_one day (trip ∷ []) all = all.0
  only_one day (trip ∷ other ∷ trips) all = tt

  by_route : (route : Option ℕ) (direction departure day : ℕ) → RunsIfFound t (on_route t route direction departure day)
  by_route None direction departure day = tt
  by_route (Some route) direction departure day =
      let trips = filter (departs_so t route direction departure) (range_with_len 0 (length t.trips)) in
      only_one day (trips_running t day trips) (all_passed (λ trip. is_run t (record { trip = trip; day = day })) trips)

  by_day : (route : List ℕ) (direction departure : ℕ) (day : Option ℕ) → RunsIfFound t (on_day t route direction departure day)
  by_day route direction departure None = tt
  by_day route direction departure (Some day) = by_route (number_of (λ row. row.id) t.routes route) direction departure day

  by_time : (route : List ℕ) (direction date : ℕ) (departure : Option ℕ) → RunsIfFound t (at_time t route direction date departure)
  by_time route direction date None = tt
  by_time route direction date (Some departure) = by_day route direction departure (day_with_date t date)

  by_route_and_time : (route : Option (List ℕ)) (direction date : Option ℕ) (time : Option (List ℕ)) → RunsIfFound t (rule_6_route_and_time t route direction date time)
  by_route_and_time (Some route) (Some direction) (Some date) (Some time) = by_time route direction date (time_in time)
  by_route_and_time _ _ _ _ = tt

  -- ---- all rules

  pub match_runs : (trip : TripRef) (stamp : ℕ) → RunsIfFound t (match_of t trip stamp)
  unfolding match_of
  match_runs trip stamp =
      by_rule (rule_1_relation (relation_of trip)) _ (by_relation (relation_of trip))
      (by_rule (rule_2_start_date (text_given trip.start_date)) _ (by_start_date (text_given trip.start_date))
      (by_rule (rule_3_added_trip (relation_of trip) (text_given trip.trip_id)) _ (by_added (relation_of trip) (text_given trip.trip_id))
      (by_rule (rule_pattern t (text_given trip.trip_id) (text_given trip.start_time)) _ (by_pattern (text_given trip.trip_id) (text_given trip.start_time))
      (by_rule (rule_4_trip_id t (text_given trip.trip_id) (text_given trip.start_time) (start_day trip)) _ (by_trip_id (text_given trip.trip_id) (text_given trip.start_time) (start_day trip))
      (by_rule (rule_5_nearest_day t (pos stamp) (text_given trip.trip_id) (text_given trip.start_time)) _ (by_nearest_day (pos stamp) (text_given trip.trip_id) (text_given trip.start_time))
      (by_route_and_time (text_given trip.route_id) trip.direction_id (start_day trip) (text_given trip.start_time)))))))
