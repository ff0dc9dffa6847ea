-- Alerts and unmatched trips of the small city: each line computes.
use Rattle.std.specs.Prelude.{◌≡◌, ℕ, Some, None, Option, List, [], ◌∷◌, Bool, true, false, refl, pos, codes}
use Rattle.std.specs.Fmt.{digits}
use Rattle.rt_types.specs.declared.alert.Alert.{Alert}
use Rattle.rt_types.specs.declared.alert.Period.{Period}
use Rattle.rt_types.specs.declared.alert.Selector.{Selector}
use Rattle.rt_types.specs.declared.alert.Translation.{Translation}
use Rattle.rt_types.specs.declared.message.Entity.{Entity}
use Rattle.rt_types.specs.declared.descriptor.TripRef.{TripRef}
use Rattle.rt_types.specs.declared.enums.TripRelation.{TripRelation}
use Rattle.rt_types.specs.declared.enums.TripRelation.TheVariants.{Added, Deleted}
use Rattle.text_defs.specs.Dates.{is_day, date_plus, next_day, date_in}
use Rattle.feed_defs.specs.declared.history.Entry.{Entry}
use Rattle.feed_defs.specs.History.{messages_of, since_full, changes_by_id, entities_of}
use Rattle.sched_types.specs.City.{city}
use Rattle.sched_types.specs.Schedules.{Schedules}
use Rattle.trip_match_defs.specs.Matching.{match_of, by_near}
use Rattle.trip_match_defs.specs.declared.found.Why.TheVariants as why
use Rattle.delay_rule_defs.specs.Delays.{states}
use Rattle.order.specs.Order.{inserted, ordered}
use Rattle.board_defs.specs.Choice.{chosen, added_updates}
use Rattle.board_defs.specs.Fold.{fold_of}
use Rattle.sched_types.specs.Runs.{all_runs}
use Rattle.board_defs.specs.Rows.{run_rows, board_at, board}
use Rattle.board_defs.specs.Rows.Subject.{RunOf, AddedTrip}
use Rattle.alert_defs.specs.declared.rows.AlertRow.{AlertRow}
use Rattle.alert_defs.specs.Touching.{touches}
use Rattle.alert_defs.specs.Touching.Touched.{StopItself, RowAt}
use Rattle.alert_defs.specs.Alerts.{is_active, concerns, text_among, alerts}
use Rattle.alert_defs.specs.Unmatched.{unmatched}

-- the city with the feeds a and b
abbrev schedules : Schedules
schedules = record {
  plans = record { name = codes "city"; prefix = []; plan = city } ∷ [];
  feeds = record { name = codes "a"; plan = 0; max_age = 0 } ∷ record { name = codes "b"; plan = 0; max_age = 0 } ∷ [];
}

abbrev nothing : Selector
nothing = record {
  agency_id = None;
  route_id = None;
  route_type = None;
  trip = None;
  stop_id = None;
  direction_id = None;
  unknown = [];
}

abbrev of_stop : List ℕ → Selector
of_stop id = record nothing { stop_id = Some id }

abbrev period : Option ℕ → Option ℕ → Period
period start end = record { start = start; end = end; unknown = [] }

abbrev text_in : List ℕ → Option (List ℕ) → Translation
text_in text language = record { text = text; language = language; unknown = [] }

-- an alert that the lift is out
abbrev lift_out : List Period → List Selector → Alert
lift_out periods selectors = record {
  active_period = periods;
  informed_entity = selectors;
  cause = None;
  effect = None;
  header_text = Some (record { translation = text_in (codes "Lift out") None ∷ []; unknown = [] });
  description_text = None;
  unknown = [];
}

-- ---- when it is active

always : is_active (lift_out [] []) 5 ≡ true
unfolding is_active
always = refl

from_its_start : is_active (lift_out (period (Some 10) (Some 20) ∷ []) []) 10 ≡ true
unfolding is_active
from_its_start = refl

not_at_its_end : is_active (lift_out (period (Some 10) (Some 20) ∷ []) []) 20 ≡ false
unfolding is_active
not_at_its_end = refl

open_start : is_active (lift_out (period None (Some 20) ∷ []) []) 0 ≡ true
unfolding is_active
open_start = refl

a_later_period : is_active (lift_out (period (Some 10) (Some 20) ∷ period (Some 30) None ∷ []) []) 99 ≡ true
unfolding is_active
a_later_period = refl

-- ---- what a selector touches

abbrev at_stop : Selector → ℕ → Bool
at_stop selector stop = touches city selector 1743314000 (StopItself stop)

-- T1 on 30 March 2025, at a stop
abbrev at_row : Selector → ℕ → Bool
at_row selector stop =
    touches city selector 1743314000 (RowAt (RunOf (record { trip = 1; day = 1 })) stop)

no_field : at_stop nothing 0 ≡ false
unfolding touches
no_field = refl

no_field_of_a_row : at_row nothing 0 ≡ false
unfolding touches match_of by_near date_in is_day
no_field_of_a_row = refl

the_stop : at_stop (of_stop (codes "S1")) 0 ≡ true
unfolding touches
the_stop = refl

its_parent : at_stop (of_stop (codes "ST")) 0 ≡ true
unfolding touches
its_parent = refl

its_child : at_stop (of_stop (codes "S1")) 4 ≡ true
unfolding touches
its_child = refl

no_sibling : at_stop (of_stop (codes "S2")) 0 ≡ false
unfolding touches
no_sibling = refl

no_stop : at_stop (of_stop (codes "S9")) 0 ≡ false
unfolding touches
no_stop = refl

with_a_route_no_stop : at_stop (record (of_stop (codes "S1")) { route_id = Some (codes "R7") }) 0 ≡ false
unfolding touches
with_a_route_no_stop = refl

with_a_route_its_row : at_row (record (of_stop (codes "S1")) { route_id = Some (codes "R7") }) 0 ≡ true
unfolding touches match_of by_near date_in is_day
with_a_route_its_row = refl

row_of_the_parent : at_row (of_stop (codes "ST")) 0 ≡ true
unfolding touches match_of by_near date_in is_day
row_of_the_parent = refl

no_row_of_a_child : at_row (of_stop (codes "S1")) 4 ≡ false
unfolding touches match_of by_near date_in is_day
no_row_of_a_child = refl

all_must_hold : at_row (record (of_stop (codes "S1")) { route_id = Some (codes "R8") }) 0 ≡ false
unfolding touches match_of by_near date_in is_day
all_must_hold = refl

its_agency : at_row (record nothing { agency_id = Some (codes "A") }) 0 ≡ true
unfolding touches match_of by_near date_in is_day
its_agency = refl

its_kind : at_row (record nothing { route_type = Some (pos 3) }) 0 ≡ true
unfolding touches match_of by_near date_in is_day
its_kind = refl

another_direction : at_row (record nothing { direction_id = Some 1 }) 0 ≡ false
unfolding touches match_of by_near date_in is_day
another_direction = refl

-- a descriptor with a trip_id
abbrev named : List ℕ → Option (List ℕ) → Option TripRelation → TripRef
named id date relation = record {
  trip_id = Some id;
  start_time = None;
  start_date = date;
  relation = relation;
  route_id = None;
  direction_id = None;
  unknown = [];
}

its_trip : at_row (record nothing { trip = Some (named (codes "T1") (Some (codes "20250330")) None) }) 0 ≡ true
unfolding touches match_of by_near date_in is_day date_plus next_day
its_trip = refl

another_day : at_row (record nothing { trip = Some (named (codes "T1") (Some (codes "20250331")) None) }) 0 ≡ false
unfolding touches match_of by_near date_in is_day date_plus next_day
another_day = refl

-- an added trip has no direction, and only the route that it names
abbrev at_added : Selector → Option ℕ → Bool
at_added selector route =
    touches city selector 1743314000 (RowAt (AddedTrip (codes "X9") [] route) 2)

added_by_trip : at_added (record nothing { trip = Some (named (codes "X9") None (Some Added)) }) None ≡ true
unfolding touches match_of by_near date_in is_day
added_by_trip = refl

added_on_another_day : at_added (record nothing { trip = Some (named (codes "X9") (Some (codes "20250330")) (Some Added)) }) None ≡ false
unfolding touches match_of by_near date_in is_day date_plus next_day
added_on_another_day = refl

added_by_route : at_added (record nothing { route_id = Some (codes "R7") }) (Some 0) ≡ true
unfolding touches match_of by_near date_in is_day
added_by_route = refl

added_without_route : at_added (record nothing { route_id = Some (codes "R7") }) None ≡ false
unfolding touches match_of by_near date_in is_day
added_without_route = refl

-- ---- headings

without_language_first : text_among (text_in (codes "Aufzug") (Some (codes "de")) ∷ text_in (codes "Lift") None ∷ []) ≡ codes "Lift"
without_language_first = refl

else_the_first : text_among (text_in (codes "Aufzug") (Some (codes "de")) ∷ text_in (codes "Lift") (Some (codes "en")) ∷ []) ≡ codes "Aufzug"
else_the_first = refl

-- ---- whole lists

abbrev bare : List ℕ → Entity
bare id = record { id = id; is_deleted = None; trip_update = None; vehicle = None; alert = None; unknown = [] }

-- feed a sends these entities at the stamp 5
abbrev sent : List Entity → List Entry
sent entities = record {
  feed = 0;
  message = record {
    header = record { version = codes "2.0"; incrementality = None; timestamp = Some 5; unknown = [] };
    entity = entities;
    unknown = [];
  };
} ∷ []

abbrev lift_alert : List Selector → List Entry
lift_alert selectors =
    sent (record (bare (codes "w")) { alert = Some (lift_out (period (Some 1743314000) (Some 1743315000) ∷ []) selectors) } ∷ [])

abbrev listed_at : List Entry → ℕ → Option (List AlertRow)
listed_at history at =
    alerts schedules (fold_of 2 history) (record { plan = 0; stop = codes "S3"; at = at; span = 3600; limit = 50 })

at_its_last_second : listed_at (lift_alert (of_stop (codes "S3") ∷ [])) 1743314999
    ≡ Some (record { feed = 0; id = codes "w"; cause = None; effect = None; header = codes "Lift out" } ∷ [])
unfolding alerts is_active concerns touches fold_of messages_of since_full changes_by_id entities_of chosen added_updates match_of by_near date_in is_day date_plus next_day states all_runs run_rows board_at board inserted ordered digits
at_its_last_second = refl

a_second_later : listed_at (lift_alert (of_stop (codes "S3") ∷ [])) 1743315000 ≡ Some []
unfolding alerts is_active concerns touches fold_of messages_of since_full changes_by_id entities_of chosen added_updates match_of by_near date_in is_day date_plus next_day states all_runs run_rows board_at board inserted ordered digits
a_second_later = refl

without_selectors : listed_at (lift_alert []) 1743314500 ≡ Some []
unfolding alerts is_active concerns touches fold_of messages_of since_full changes_by_id entities_of chosen added_updates match_of by_near date_in is_day date_plus next_day states all_runs run_rows board_at board inserted ordered digits
without_selectors = refl

-- the departure of T1 at the harbour is one of the route
where_a_row_is : listed_at (lift_alert (record (of_stop (codes "S3")) { route_id = Some (codes "R7") } ∷ [])) 1743314500
    ≡ Some (record { feed = 0; id = codes "w"; cause = None; effect = None; header = codes "Lift out" } ∷ [])
unfolding alerts is_active concerns touches fold_of messages_of since_full changes_by_id entities_of chosen added_updates match_of by_near date_in is_day date_plus next_day states all_runs run_rows board_at board inserted ordered digits
where_a_row_is = refl

-- an alert for the departures of the route at a platform, and T1, whose first place is at another stop, if one is told
abbrev at_platform : List ℕ → Option (List ℕ) → List Entry
at_platform platform stop =
    sent (record (bare (codes "w")) { alert = Some (lift_out [] (record (of_stop platform) { route_id = Some (codes "R7") } ∷ [])) } ∷ record (bare (codes "u")) {
      trip_update = Some (record {
        trip = named (codes "T1") (Some (codes "20250330")) None;
        stop_time_update = record {
          stop_sequence = Some 1;
          arrival = None;
          departure = None;
          stop_id = None;
          relation = None;
          properties = Some (record { assigned_stop_id = stop; unknown = [] });
          unknown = [];
        } ∷ [];
        vehicle = None;
        timestamp = None;
        delay = None;
        unknown = [];
      });
    } ∷ [])

-- next to a board of the market on which T1 is the only departure
abbrev next_to_first : List Entry → Option (List AlertRow)
next_to_first history =
    alerts schedules (fold_of 2 history) (record { plan = 0; stop = codes "ST"; at = 1743314400; span = 60; limit = 50 })

abbrev lift_row : AlertRow
lift_row = record { feed = 0; id = codes "w"; cause = None; effect = None; header = codes "Lift out" }

-- an alert touches a departure by the platform at which it leaves
by_its_platform :
    (next_to_first (at_platform (codes "S1") None) ≡ Some (lift_row ∷ []))
    × (next_to_first (at_platform (codes "S2") None) ≡ Some [])
unfolding alerts is_active concerns touches fold_of messages_of since_full changes_by_id entities_of chosen added_updates match_of by_near date_in is_day date_plus next_day states all_runs run_rows board_at board inserted ordered digits
by_its_platform = (refl, refl)

-- and no more by that of the timetable
by_its_new_platform :
    (next_to_first (at_platform (codes "S1") (Some (codes "S2"))) ≡ Some [])
    × (next_to_first (at_platform (codes "S2") (Some (codes "S2"))) ≡ Some (lift_row ∷ []))
unfolding alerts is_active concerns touches fold_of messages_of since_full changes_by_id entities_of chosen added_updates match_of by_near date_in is_day date_plus next_day states all_runs run_rows board_at board inserted ordered digits
by_its_new_platform = (refl, refl)

-- an alert counts up to its feed's max_age after the stamp of its message, which is 5
abbrev listed_with : ℕ → ℕ → Option (List AlertRow)
listed_with max_age at =
    alerts (record schedules { feeds = record { name = codes "a"; plan = 0; max_age = max_age } ∷ [] }) (fold_of 1 (lift_alert (of_stop (codes "S3") ∷ [])))
    (record { plan = 0; stop = codes "S3"; at = at; span = 3600; limit = 50 })

at_the_end_of_its_age : listed_with 1743314495 1743314500
    ≡ Some (record { feed = 0; id = codes "w"; cause = None; effect = None; header = codes "Lift out" } ∷ [])
unfolding alerts is_active concerns touches fold_of messages_of since_full changes_by_id entities_of chosen added_updates match_of by_near date_in is_day date_plus next_day states all_runs run_rows board_at board inserted ordered digits
at_the_end_of_its_age = refl

too_old : listed_with 1743314495 1743314501 ≡ Some []
unfolding alerts is_active concerns touches fold_of messages_of since_full changes_by_id entities_of chosen added_updates match_of by_near date_in is_day date_plus next_day states all_runs run_rows board_at board inserted ordered digits
too_old = refl

-- a trip update and a vehicle of a trip that isn't there, and a deleted one that is
abbrev about_no_run : List Entry
about_no_run = sent (record (bare (codes "u")) {
  trip_update = Some (record {
    trip = named (codes "T8") None None;
    stop_time_update = [];
    vehicle = None;
    timestamp = None;
    delay = None;
    unknown = [];
  });
  vehicle = Some (record {
    trip = Some (named (codes "T1") (Some (codes "20250401")) None);
    position = None;
    current_stop_sequence = None;
    current_status = None;
    timestamp = None;
    stop_id = None;
    vehicle = None;
    unknown = [];
  });
} ∷ record (bare (codes "v")) {
  trip_update = Some (record {
    trip = named (codes "T1") (Some (codes "20250330")) (Some Deleted);
    stop_time_update = [];
    vehicle = None;
    timestamp = None;
    delay = None;
    unknown = [];
  });
} ∷ [])

unmatched_listed : unmatched schedules (fold_of 2 about_no_run) 0
    ≡ record { feed = 0; id = codes "u"; vehicle = false; why = why.NoTrip }
    ∷ record { feed = 0; id = codes "u"; vehicle = true; why = why.NoDay } ∷ []
unfolding unmatched fold_of messages_of since_full changes_by_id entities_of match_of by_near date_in is_day date_plus next_day
unmatched_listed = refl
