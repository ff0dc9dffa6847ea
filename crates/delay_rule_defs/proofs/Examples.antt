-- The definitions on a trip of twenty places, and on one of the small city: each line computes.
use Rattle.std.specs.Prelude.{◌≡◌, ℕ, true, false, ◌-◌, Some, None, Option, List, [], ◌∷◌, ◌++◌, replicate, refl, ℤ, pos, negsuc, codes}
use Rattle.rt_types.specs.declared.enums.StopRelation.{StopRelation}
use Rattle.rt_types.specs.declared.enums.StopRelation.TheVariants.{Scheduled, Skipped, NoData, Unscheduled}
use Rattle.rt_types.specs.declared.trip_update.Event.{Event}
use Rattle.rt_types.specs.declared.trip_update.StopUpdate.{StopUpdate}
use Rattle.rt_types.specs.declared.trip_update.TripUpdate.{TripUpdate}
use Rattle.sched_types.specs.City.{city}
use Rattle.sched_types.specs.declared.rows.Run.{Run}
use Rattle.sched_types.specs.Timetable.{departure_at}
use Rattle.delay_rule_defs.specs.declared.state.StopState.{StopState}
use Rattle.delay_rule_defs.specs.Delays.{states, plain}
use Rattle.delay_rule_defs.specs.Line.{line}

abbrev run : Run
run = record { trip = 0; day = 0 }

-- an update of the place with that sequence
abbrev update_of : ℕ → Option Event → Option Event → Option StopRelation → StopUpdate
update_of sequence arrival departure relation = record {
  stop_sequence = Some sequence;
  arrival = arrival;
  departure = departure;
  stop_id = None;
  relation = relation;
  properties = None;
  unknown = [];
}

-- a delay, and a time
abbrev late : ℕ → Option Event
late seconds = Some (record { delay = Some (pos seconds); time = None; uncertainty = None; unknown = [] })

abbrev at : ℕ → Option Event
at instant = Some (record { delay = None; time = Some (pos instant); uncertainty = None; unknown = [] })

abbrev update : Option ℤ → List StopUpdate → TripUpdate
update delay updates = record {
  trip = record { trip_id = None; start_time = None; start_date = None; relation = None; route_id = None; direction_id = None; unknown = [] };
  stop_time_update = updates;
  vehicle = None;
  timestamp = None;
  delay = delay;
  unknown = [];
}

abbrev three : StopUpdate
three = update_of 3 None (late 300) None

abbrev five : StopUpdate
five = update_of 5 None None (Some Skipped)

abbrev eight : StopUpdate
eight = update_of 8 None (late 60) (Some Scheduled)

abbrev ten : StopUpdate
ten = update_of 10 None None (Some NoData)

abbrev late_state : ℕ → StopState
late_state seconds = plain (Some (pos seconds))

-- one place with a delay of its arrival and one of its departure
abbrev stop_state : Option ℤ → Option ℤ → StopState
stop_state arrival departure = record { skipped = false; arrival = arrival; departure = departure; stop = None }

abbrev skipped_state : Option ℤ → StopState
skipped_state carry = record { skipped = true; arrival = carry; departure = carry; stop = None }

-- a delay holds from its place on up to the next one; before the first nothing is known, and from NO_DATA on
delays_go_on : states line run (update None (three ∷ eight ∷ ten ∷ []))
    ≡ replicate 2 (plain None)
    ++ (stop_state None (Some (pos 300)) ∷ replicate 4 (late_state 300)
    ++ (stop_state (Some (pos 300)) (Some (pos 60)) ∷ late_state 60 ∷ replicate 11 (plain None)))
unfolding states
delays_go_on = refl

-- a skipped place has the delay that it passes on
skipped_passes_on : states line run (update None (three ∷ five ∷ eight ∷ ten ∷ []))
    ≡ replicate 2 (plain None)
    ++ (stop_state None (Some (pos 300)) ∷ late_state 300 ∷ skipped_state (Some (pos 300)) ∷ replicate 2 (late_state 300)
    ++ (stop_state (Some (pos 300)) (Some (pos 60)) ∷ late_state 60 ∷ replicate 11 (plain None)))
unfolding states
skipped_passes_on = refl

-- without stop updates the delay of the whole update counts, and else nothing is known
whole_delay : states line run (update (Some (negsuc 4)) []) ≡ replicate 20 (plain (Some (negsuc 4)))
unfolding states
whole_delay = refl

nothing_known : states line run (update None []) ≡ replicate 20 (plain None)
unfolding states
nothing_known = refl

-- NO_DATA and UNSCHEDULED end the delay of the whole update
unscheduled : states line run (update (Some (pos 9)) (update_of 2 None (late 5) (Some Unscheduled) ∷ [])) ≡ late_state 9 ∷ replicate 19 (plain None)
unfolding states
unscheduled = refl

-- SCHEDULED without an event that tells a delay takes its place, so that place 1 is no longer to be had
says_nothing : states line run (update (Some (pos 9)) (update_of 2 None None None ∷ update_of 1 None (late 5) None ∷ [])) ≡ replicate 20 (late_state 9)
unfolding states
says_nothing = refl

-- a time goes before a delay, if it counts: 08:01:30 for 08:01:00; the time 0 does not count
time_first : states line run (update None (update_of 2 None (Some (record { delay = Some (pos 5); time = Some (pos 1743314490); uncertainty = None; unknown = [] })) None ∷ []))
    ≡ plain None ∷ stop_state None (Some (pos 30)) ∷ replicate 18 (late_state 30)
unfolding states
time_first = refl

no_time : states line run (update None (update_of 2 None (Some (record { delay = Some (pos 5); time = Some (pos 0); uncertainty = None; unknown = [] })) None ∷ []))
    ≡ plain None ∷ stop_state None (Some (pos 5)) ∷ replicate 18 (late_state 5)
unfolding states
no_time = refl

-- the last second of the year 9999 counts as a time, and the one behind it doesn't
last_time : states line run (update None (update_of 1 None (at 253402300799) None ∷ []))
    ≡ stop_state None (Some (pos 251658986399)) ∷ replicate 19 (late_state 251658986399)
unfolding states
last_time = refl

past_time : states line run (update None (update_of 1 None (at 253402300800) None ∷ []))
    ≡ replicate 20 (plain None)
unfolding states
past_time = refl

-- an arrival's delay counts for the departure too, and is passed on; a departure's does not count for the arrival
arrival_alone : states line run (update (Some (pos 9)) (update_of 2 (at 1743314400) None None ∷ [])) ≡ late_state 9 ∷ replicate 19 (plain (Some (negsuc 59)))
unfolding states
arrival_alone = refl

-- a stop_sequence that isn't there is not looked up by the stop_id; a stop_id alone takes the first place that is left
no_sequence : states line run (update None (record (update_of 21 None (late 5) None) { stop_id = Some (codes "P") } ∷ [])) ≡ replicate 20 (plain None)
unfolding states
no_sequence = refl

by_stop : states line run (update None (record (update_of 1 None (late 5) None) { stop_sequence = None; stop_id = Some (codes "P") } ∷ record (update_of 1 None (late 7) None) { stop_sequence = None; stop_id = Some (codes "P") } ∷ []))
    ≡ stop_state None (Some (pos 5)) ∷ stop_state (Some (pos 5)) (Some (pos 7)) ∷ replicate 18 (late_state 7)
unfolding states
by_stop = refl

-- when the places of the worked trip are left, in seconds since 1970: place 2 as scheduled, place 7 300 seconds late
place_2 : departure_at line run 1 ≡ Some (pos 1743314460)
place_2 = refl

place_7 : departure_at line run 6 ≡ Some (pos (1743315060 - 300))
place_7 = refl

-- ---- assigned stops: trip T1 of the city goes by the stops S1, S3, S2 and S4, whose numbers are 0, 2, 1 and 3,
-- with the sequences 1, 2, 5 and 9

abbrev city_run : Run
city_run = record { trip = 1; day = 1 }

-- an update that names a stop besides
abbrev to_stop : List ℕ → StopUpdate → StopUpdate
to_stop id u =
    record u { properties = Some (record { assigned_stop_id = Some id; unknown = [] }) }

-- one that is about a place by its stop_id
abbrev by_stop_id : List ℕ → ℕ → StopUpdate
by_stop_id id seconds =
    record (update_of 0 None (late seconds) None) { stop_sequence = None; stop_id = Some id }

-- a state, at another stop
abbrev moved : ℕ → StopState → StopState
moved stop state = record state { stop = Some stop }

-- an assigned stop holds for its place alone, and the delay goes on
at_its_place : states city city_run (update None (to_stop (codes "S2") (update_of 1 None (late 300) None) ∷ []))
    ≡ moved 1 (stop_state None (Some (pos 300))) ∷ replicate 3 (late_state 300)
unfolding states
at_its_place = refl

-- also where the next place is told of by an update of its own
at_each_its_own : states city city_run (update None (to_stop (codes "S2") (update_of 1 None (late 300) None) ∷ update_of 2 None (late 60) None ∷ to_stop (codes "S1") (update_of 5 None None None) ∷ []))
    ≡ moved 1 (stop_state None (Some (pos 300))) ∷ stop_state (Some (pos 300)) (Some (pos 60)) ∷ moved 0 (late_state 60) ∷ late_state 60 ∷ []
unfolding states
at_each_its_own = refl

-- SCHEDULED that tells no time assigns it all the same
without_a_time : states city city_run (update (Some (pos 9)) (to_stop (codes "S2") (update_of 1 None None (Some Scheduled)) ∷ []))
    ≡ moved 1 (late_state 9) ∷ replicate 3 (late_state 9)
unfolding states
without_a_time = refl

-- the other relations assign none
not_under_skipped : states city city_run (update None (to_stop (codes "S2") (update_of 1 None (late 300) (Some Skipped)) ∷ []))
    ≡ skipped_state None ∷ replicate 3 (plain None)
unfolding states
not_under_skipped = refl

not_under_no_data : states city city_run (update (Some (pos 9)) (to_stop (codes "S2") (update_of 1 None (late 300) (Some NoData)) ∷ []))
    ≡ replicate 4 (plain None)
unfolding states
not_under_no_data = refl

not_under_unscheduled : states city city_run (update (Some (pos 9)) (to_stop (codes "S2") (update_of 1 None (late 300) (Some Unscheduled)) ∷ []))
    ≡ replicate 4 (plain None)
unfolding states
not_under_unscheduled = refl

-- a stop that isn't there is none
no_such_stop : states city city_run (update None (to_stop (codes "S9") (update_of 1 None (late 300) None) ∷ []))
    ≡ stop_state None (Some (pos 300)) ∷ replicate 3 (late_state 300)
unfolding states
no_such_stop = refl

-- an update finds its place by the timetable's stop: neither by the stop that it names itself, nor by one that was
-- assigned
by_the_timetable : states city city_run (update None (to_stop (codes "S2") (by_stop_id (codes "S1") 300) ∷ by_stop_id (codes "S2") 60 ∷ []))
    ≡ moved 1 (stop_state None (Some (pos 300))) ∷ late_state 300 ∷ stop_state (Some (pos 300)) (Some (pos 60)) ∷ late_state 60 ∷ []
unfolding states
by_the_timetable = refl

-- an update of a stop_id that the trip doesn't have finds none, whatever stop it names
no_place : states city city_run (update None (to_stop (codes "S1") (by_stop_id (codes "ST") 300) ∷ []))
    ≡ replicate 4 (plain None)
unfolding states
no_place = refl
