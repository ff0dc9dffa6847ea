-- Boards of the small city with a trip that was added: each line computes.
use Rattle.std.specs.Prelude.{◌≡◌, ℕ, Some, None, Option, List, [], ◌∷◌, refl, pos, codes}
use Rattle.std.specs.Fmt.{digits}
use Rattle.rt_types.specs.declared.descriptor.TripRef.{TripRef}
use Rattle.rt_types.specs.declared.enums.StopRelation.{StopRelation}
use Rattle.rt_types.specs.declared.enums.StopRelation.TheVariants.{NoData}
use Rattle.rt_types.specs.declared.enums.TripRelation.TheVariants.{Added}
use Rattle.rt_types.specs.declared.trip_update.Event.{Event}
use Rattle.rt_types.specs.declared.trip_update.StopUpdate.{StopUpdate}
use Rattle.text_defs.specs.Dates.{is_day, date_plus, next_day, date_in}
use Rattle.feed_defs.specs.declared.history.Entry.{Entry}
use Rattle.feed_defs.specs.History.{messages_of, since_full, changes_by_id, entities_of}
use Rattle.sched_types.specs.City.{city}
use Rattle.sched_types.specs.Schedules.{Schedules}
use Rattle.trip_match_defs.specs.Matching.{match_of, by_near}
use Rattle.delay_rule_defs.specs.Delays.{states}
use Rattle.order.specs.Order.{inserted, ordered}
use Rattle.board_defs.specs.declared.row.Row.{Row}
use Rattle.board_defs.specs.declared.row.RowState.TheVariants as state
use Rattle.board_defs.specs.Choice.{chosen, added_updates}
use Rattle.board_defs.specs.Fold.{fold_of}
use Rattle.sched_types.specs.Runs.{all_runs}
use Rattle.board_defs.specs.Rows.{run_rows, added_trip_rows, board_at, board, rows}
use Rattle.board_defs.proofs.Parts.{stop_update, trip_on, trip_update, entity_of, message_at, entry_of, hill_row}

-- the city with the feeds a and b
abbrev schedules : Schedules
schedules = record {
  plans = record { name = codes "city"; prefix = []; plan = city } ∷ [];
  feeds = record { name = codes "a"; plan = 0; max_age = 0 } ∷ record { name = codes "b"; plan = 0; max_age = 0 } ∷ [];
}

-- a stop, for an hour from 07:53:20 on
abbrev board_after : List Entry → List ℕ → Option (List Row)
board_after history stop =
    rows schedules (fold_of 2 history) (record { plan = 0; stop = stop; at = 1743314000; span = 3600; limit = 50 })

-- trip X9 of the line 7, without a date
abbrev added_trip : TripRef
added_trip = record (trip_on (codes "X9") [] (Some Added)) { start_date = None; route_id = Some (codes "R7") }

abbrev at : ℕ → Option Event
at time = Some (record { delay = None; time = Some (pos time); uncertainty = None; unknown = [] })

-- what is told of a stop: when it is left, and the relation
abbrev stop_at : List ℕ → Option Event → Option StopRelation → StopUpdate
stop_at stop departure relation = record (stop_update 0 departure relation) { stop_sequence = None; stop_id = Some stop }

-- a message of a feed with one update of X9, which goes from the harbour to the hill
abbrev added_by : ℕ → StopUpdate → Entry
added_by feed first =
    entry_of feed
    (message_at 1743314000
    (entity_of (codes "u") (trip_update added_trip (first ∷ stop_at (codes "S4") (at 1743314800) None ∷ [])) ∷ []))

abbrev from_harbour : ℕ → Entry
from_harbour time = added_by 0 (stop_at (codes "S3") (at time) None)

abbrev row_at : ℕ → Row
row_at time = record {
  expected = pos time;
  scheduled = None;
  delay = None;
  state = state.Added;
  route = codes "7";
  headsign = [];
  trip = codes "X9";
  date = [];
  platform = codes "S3";
}

-- the departure of the timetable at the harbour
abbrev first_row : Row
first_row = hill_row 1743315000 1743315000 None state.Scheduled (codes "T1") (codes "S3")

-- it leaves the harbour as it is told, among the runs of the timetable
shown : board_after (from_harbour 1743314500 ∷ []) (codes "S3") ≡ Some (row_at 1743314500 ∷ first_row ∷ [])
unfolding fold_of messages_of since_full changes_by_id entities_of chosen added_updates match_of by_near date_in is_day date_plus next_day states all_runs run_rows added_trip_rows board_at board inserted ordered digits
shown = refl

-- and behind one that leaves earlier
shown_later : board_after (from_harbour 1743315060 ∷ []) (codes "S3") ≡ Some (first_row ∷ row_at 1743315060 ∷ [])
unfolding fold_of messages_of since_full changes_by_id entities_of chosen added_updates match_of by_near date_in is_day date_plus next_day states all_runs run_rows added_trip_rows board_at board inserted ordered digits
shown_later = refl

-- nobody boards at its last stop
not_at_the_last : board_after (from_harbour 1743314500 ∷ []) (codes "S4") ≡ Some []
unfolding fold_of messages_of since_full changes_by_id entities_of chosen added_updates match_of by_near date_in is_day date_plus next_day states all_runs run_rows added_trip_rows board_at board inserted ordered digits
not_at_the_last = refl

-- of a stop without data nothing is shown
no_data : board_after (added_by 0 (stop_at (codes "S3") (at 1743314500) (Some NoData)) ∷ []) (codes "S3") ≡ Some (first_row ∷ [])
unfolding fold_of messages_of since_full changes_by_id entities_of chosen added_updates match_of by_near date_in is_day date_plus next_day states all_runs run_rows added_trip_rows board_at board inserted ordered digits
no_data = refl

-- a departure that is no moment leaves the arrival's time
by_arrival : board_after (added_by 0 (record (stop_at (codes "S3") (at 0) None) { arrival = at 1743314400 }) ∷ []) (codes "S3")
    ≡ Some (row_at 1743314400 ∷ first_row ∷ [])
unfolding fold_of messages_of since_full changes_by_id entities_of chosen added_updates match_of by_near date_in is_day date_plus next_day states all_runs run_rows added_trip_rows board_at board inserted ordered digits
by_arrival = refl

-- of two feeds with one stamp that of the lower number counts, and the trip is shown once
once : board_after (from_harbour 1743314500 ∷ added_by 1 (stop_at (codes "S3") (at 1743314560) None) ∷ []) (codes "S3")
    ≡ Some (row_at 1743314500 ∷ first_row ∷ [])
unfolding fold_of messages_of since_full changes_by_id entities_of chosen added_updates match_of by_near date_in is_day date_plus next_day states all_runs run_rows added_trip_rows board_at board inserted ordered digits
once = refl

-- two feeds tell of it at 1743314000; a has a max_age of a minute, b none
abbrev told_by : List Entry → ℕ → Option (List Row)
told_by history at =
    rows
    (record schedules { feeds = record { name = codes "a"; plan = 0; max_age = 60 } ∷ record { name = codes "b"; plan = 0; max_age = 0 } ∷ [] })
    (fold_of 2 history) (record { plan = 0; stop = codes "S3"; at = at; span = 3600; limit = 50 })

-- what a tells is shown up to its max_age after its stamp
aged :
    (told_by (from_harbour 1743314500 ∷ []) 1743314060 ≡ Some (row_at 1743314500 ∷ first_row ∷ []))
    × (told_by (from_harbour 1743314500 ∷ []) 1743314061 ≡ Some (first_row ∷ []))
unfolding fold_of messages_of since_full changes_by_id entities_of chosen added_updates match_of by_near date_in is_day date_plus next_day states all_runs run_rows added_trip_rows board_at board inserted ordered digits
aged = (refl, refl)

-- and what b tells after that
other_feed_follows :
    told_by (from_harbour 1743314500 ∷ added_by 1 (stop_at (codes "S3") (at 1743314560) None) ∷ []) 1743314061
    ≡ Some (row_at 1743314560 ∷ first_row ∷ [])
unfolding fold_of messages_of since_full changes_by_id entities_of chosen added_updates match_of by_near date_in is_day date_plus next_day states all_runs run_rows added_trip_rows board_at board inserted ordered digits
other_feed_follows = refl
