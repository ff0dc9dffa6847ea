-- The definitions on a small timetable, one by one: each line computes.
use Rattle.std.specs.Prelude.{◌≡◌, ℕ, ◌+◌, ◌-◌, Some, None, List, [], codes, refl}
use Rattle.rt_types.specs.declared.enums.TripRelation.TheVariants.{Added, Duplicated}
use Rattle.rt_types.specs.declared.descriptor.TripRef.{TripRef}
use Rattle.text_defs.specs.Dates.{is_day, next_day, date_plus, date_in}
use Rattle.sched_types.specs.City.{city}
use Rattle.trip_match_defs.specs.Autumn.{autumn}
use Rattle.trip_match_defs.specs.Frequent.{frequent}
use Rattle.trip_match_defs.specs.declared.found.Found.{Found}
use Rattle.trip_match_defs.specs.declared.found.Found.TheVariants as found
use Rattle.trip_match_defs.specs.declared.found.Why.TheVariants.{NoTrip, NoDay, NotActive, Several, Relation, BadText}
use Rattle.text_defs.specs.Times.{time_in}
use Rattle.trip_match_defs.specs.Matching.{match_of, by_near}

-- ---- texts

-- the year 0 is one of the calendar's
year_0 : date_in (codes "00000101") ≡ Some 101
unfolding date_in is_day
year_0 = refl

short_date : date_in (codes "2025033") ≡ None
unfolding date_in is_day
short_date = refl

-- ---- descriptors

abbrev nothing : TripRef
nothing = record { trip_id = None; start_time = None; start_date = None; relation = None; route_id = None; direction_id = None; unknown = [] }

abbrev the_trip : List ℕ → TripRef
the_trip id = record nothing { trip_id = Some id }

abbrev on_date : List ℕ → List ℕ → TripRef
on_date id date = record nothing { trip_id = Some id; start_date = Some date }

abbrev of_route : List ℕ → List ℕ → TripRef
of_route date time = record nothing { route_id = Some (codes "R7"); direction_id = Some 0; start_date = Some date; start_time = Some time }

abbrev the_run : ℕ → ℕ → Found
the_run trip day = found.Run (record { trip = trip; day = day })

-- the night trip at 01:15 on 30 March, the night of the change to summer time: it began on the 29th
night_trip : match_of city (the_trip (codes "N1")) 1743293700 ≡ the_run 0 0
unfolding match_of by_near date_in time_in is_day date_plus next_day
night_trip = refl

-- in the evening it is the one that comes, and halfway between the two the earlier one
next_night : match_of city (the_trip (codes "N1")) 1743354000 ≡ the_run 0 1
unfolding match_of by_near date_in time_in is_day date_plus next_day
next_night = refl

halfway : match_of city (the_trip (codes "N1")) 1743335700 ≡ the_run 0 0
unfolding match_of by_near date_in time_in is_day date_plus next_day
halfway = refl

past_halfway : match_of city (the_trip (codes "N1")) 1743335701 ≡ the_run 0 1
unfolding match_of by_near date_in time_in is_day date_plus next_day
past_halfway = refl

dated : match_of city (on_date (codes "T1") (codes "20250331")) 0 ≡ the_run 1 2
unfolding match_of by_near date_in time_in is_day date_plus next_day
dated = refl

outside : match_of city (on_date (codes "T1") (codes "20250401")) 0 ≡ found.NoMatch NoDay
unfolding match_of by_near date_in time_in is_day date_plus next_day
outside = refl

bad_date : match_of city (on_date (codes "T9") (codes "20250230")) 0 ≡ found.NoMatch BadText
unfolding match_of by_near date_in time_in is_day date_plus next_day
bad_date = refl

no_trip : match_of city (the_trip (codes "T9")) 1743293700 ≡ found.NoMatch NoTrip
unfolding match_of by_near date_in time_in is_day date_plus next_day
no_trip = refl

-- the window's first noon is at 1743246000: from a day and a half before it on it is near
first_near : match_of city (the_trip (codes "N1")) (1743246000 - 129600) ≡ the_run 0 0
unfolding match_of by_near date_in time_in is_day date_plus next_day
first_near = refl

not_near_yet : match_of city (the_trip (codes "N1")) (1743246000 - 129601) ≡ found.NoMatch NoDay
unfolding match_of by_near date_in time_in is_day date_plus next_day
not_near_yet = refl

last_near : match_of city (the_trip (codes "N1")) (1743415200 + 129599) ≡ the_run 0 2
unfolding match_of by_near date_in time_in is_day date_plus next_day
last_near = refl

no_longer_near : match_of city (the_trip (codes "N1")) (1743415200 + 129600) ≡ found.NoMatch NoDay
unfolding match_of by_near date_in time_in is_day date_plus next_day
no_longer_near = refl

-- by route, direction, date and time
by_route : match_of city (of_route (codes "20250330") (codes "25:10:00")) 0 ≡ the_run 0 1
unfolding match_of by_near date_in time_in is_day date_plus next_day
by_route = refl

bad_time : match_of city (of_route (codes "20250401") (codes "25:10")) 0 ≡ found.NoMatch BadText
unfolding match_of by_near date_in time_in is_day date_plus next_day
bad_time = refl

no_departure : match_of city (of_route (codes "20250330") (codes "25:10:01")) 0 ≡ found.NoMatch NoTrip
unfolding match_of by_near date_in time_in is_day date_plus next_day
no_departure = refl

-- relations: the first rule goes before the second, the second before the third; an empty trip_id is none
duplicated : match_of city (record (on_date (codes "T1") (codes "x")) { relation = Some Duplicated }) 0 ≡ found.NoMatch Relation
unfolding match_of by_near date_in time_in is_day date_plus next_day
duplicated = refl

added_badly : match_of city (record (on_date (codes "X") (codes "x")) { relation = Some Added }) 0 ≡ found.NoMatch BadText
unfolding match_of by_near date_in time_in is_day date_plus next_day
added_badly = refl

added : match_of city (record (the_trip (codes "X")) { relation = Some Added }) 0 ≡ found.Added
unfolding match_of by_near date_in time_in is_day date_plus next_day
added = refl

added_nameless : match_of city (record (the_trip []) { relation = Some Added }) 0 ≡ found.NoMatch NoTrip
unfolding match_of by_near date_in time_in is_day date_plus next_day
added_nameless = refl

-- ---- the change to winter time: 02:30 comes twice on 26 October, at 00:30 and at 01:30 of UTC

first_half_past_two : match_of autumn (the_trip (codes "N1")) 1761438600 ≡ the_run 0 0
unfolding match_of by_near date_in time_in is_day date_plus next_day
first_half_past_two = refl

second_half_past_two : match_of autumn (the_trip (codes "N1")) 1761442200 ≡ the_run 0 0
unfolding match_of by_near date_in time_in is_day date_plus next_day
second_half_past_two = refl

-- a day and an hour lie between the two runs, and halfway is at 11:55 of UTC
long_night : match_of autumn (the_trip (codes "N1")) 1761479700 ≡ the_run 0 0
unfolding match_of by_near date_in time_in is_day date_plus next_day
long_night = refl

past_the_long_night : match_of autumn (the_trip (codes "N1")) 1761479701 ≡ the_run 0 1
unfolding match_of by_near date_in time_in is_day date_plus next_day
past_the_long_night = refl

-- two leave at eight; on the 27th none runs
several : match_of autumn (of_route (codes "20251026") (codes "8:00:00")) 0 ≡ found.NoMatch Several
unfolding match_of by_near date_in time_in is_day date_plus next_day
several = refl

not_active : match_of autumn (on_date (codes "T1") (codes "20251027")) 0 ≡ found.NoMatch NotActive
unfolding match_of by_near date_in time_in is_day date_plus next_day
not_active = refl

none_on_the_day : match_of autumn (of_route (codes "20251027") (codes "8:00:00")) 0 ≡ found.NoMatch NoTrip
unfolding match_of by_near date_in time_in is_day date_plus next_day
none_on_the_day = refl

-- near the 27th alone, on which it does not run
near_idle_day : match_of autumn (the_trip (codes "T1")) (1761519600 + 43200 + 129599) ≡ found.NoMatch NotActive
unfolding match_of by_near date_in time_in is_day date_plus next_day
near_idle_day = refl

-- ---- trips of frequencies.txt: T2 starts at 08:00:00 and at 08:30:00, and T3 never

abbrev starting : List ℕ → List ℕ → TripRef
starting id time = record (on_date id (codes "20251026")) { start_time = Some time }

eight : match_of frequent (starting (codes "T2") (codes "8:00:00")) 0 ≡ the_run 2 1
unfolding match_of by_near date_in time_in is_day date_plus next_day
eight = refl

half_past_eight : match_of frequent (starting (codes "T2") (codes "08:30:00")) 0 ≡ the_run 3 1
unfolding match_of by_near date_in time_in is_day date_plus next_day
half_past_eight = refl

-- without a date it is the run on the nearest day, as it is of any trip
nearest_half_past_eight : match_of frequent (record (the_trip (codes "T2")) { start_time = Some (codes "08:30:00") }) 1761377000 ≡ the_run 3 0
unfolding match_of by_near date_in time_in is_day date_plus next_day
nearest_half_past_eight = refl

no_such_start : match_of frequent (starting (codes "T2") (codes "08:15:00")) 0 ≡ found.NoMatch NoTrip
unfolding match_of by_near date_in time_in is_day date_plus next_day
no_such_start = refl

no_start_time : match_of frequent (on_date (codes "T2") (codes "20251026")) 0 ≡ found.NoMatch Several
unfolding match_of by_near date_in time_in is_day date_plus next_day
no_start_time = refl

-- an empty text is none
empty_start_time : match_of frequent (starting (codes "T2") []) 0 ≡ found.NoMatch Several
unfolding match_of by_near date_in time_in is_day date_plus next_day
empty_start_time = refl

bad_start_time : match_of frequent (starting (codes "T2") (codes "08:30")) 0 ≡ found.NoMatch BadText
unfolding match_of by_near date_in time_in is_day date_plus next_day
bad_start_time = refl

-- whether there are trips goes before what the start_time is
never : match_of frequent (on_date (codes "T3") (codes "20251026")) 0 ≡ found.NoMatch NoTrip
unfolding match_of by_near date_in time_in is_day date_plus next_day
never = refl

never_at_a_bad_time : match_of frequent (starting (codes "T3") (codes "x")) 0 ≡ found.NoMatch NoTrip
unfolding match_of by_near date_in time_in is_day date_plus next_day
never_at_a_bad_time = refl

-- a bad start_date goes before, and one on which it does not run goes after
bad_date_of_pattern : match_of frequent (record (starting (codes "T2") (codes "x")) { start_date = Some (codes "x") }) 0 ≡ found.NoMatch BadText
unfolding match_of by_near date_in time_in is_day date_plus next_day
bad_date_of_pattern = refl

idle_pattern : match_of frequent (record (starting (codes "T2") (codes "08:30:00")) { start_date = Some (codes "20251027") }) 0 ≡ found.NoMatch NotActive
unfolding match_of by_near date_in time_in is_day date_plus next_day
idle_pattern = refl

pattern_outside : match_of frequent (record (starting (codes "T2") (codes "08:30:00")) { start_date = Some (codes "20251028") }) 0 ≡ found.NoMatch NoDay
unfolding match_of by_near date_in time_in is_day date_plus next_day
pattern_outside = refl

-- an ADDED trip may have the pattern's id
added_as_pattern : match_of frequent (record (the_trip (codes "T2")) { relation = Some Added }) 0 ≡ found.Added
unfolding match_of by_near date_in time_in is_day date_plus next_day
added_as_pattern = refl

-- the id of a derived trip is that of a trip, and a start_time says nothing of trips that are no patterns
by_derived_id : match_of frequent (on_date (codes "T2@08:30:00") (codes "20251026")) 0 ≡ the_run 3 1
unfolding match_of by_near date_in time_in is_day date_plus next_day
by_derived_id = refl

start_time_of_another : match_of frequent (starting (codes "T1") (codes "x")) 0 ≡ the_run 1 1
unfolding match_of by_near date_in time_in is_day date_plus next_day
start_time_of_another = refl
