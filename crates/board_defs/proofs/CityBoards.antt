-- Boards of the small city: each line computes.
use Rattle.std.specs.Prelude.{◌≡◌, ℕ, ◌+◌, Some, None, Option, List, [], ◌∷◌, length, refl, pos, codes}
use Rattle.std.specs.Fmt.{digits}
use Rattle.rt_types.specs.declared.enums.StopRelation.TheVariants.{Skipped}
use Rattle.rt_types.specs.declared.enums.TripRelation.{TripRelation}
use Rattle.rt_types.specs.declared.trip_update.StopUpdate.{StopUpdate}
use Rattle.rt_types.specs.declared.enums.TripRelation.TheVariants.{Canceled, Deleted}
use Rattle.text_defs.specs.Dates.{is_day, date_plus, next_day, date_in}
use Rattle.feed_defs.specs.declared.history.Entry.{Entry}
use Rattle.feed_defs.specs.History.{messages_of, since_full, changes_by_id, entities_of}
use Rattle.sched_types.specs.City.{city}
use Rattle.sched_types.specs.Schedules.{Schedules}
use Rattle.sched_types.specs.declared.plans.NamedFeed.{NamedFeed}
use Rattle.trip_match_defs.specs.Matching.{match_of, by_near}
use Rattle.delay_rule_defs.specs.Delays.{states}
use Rattle.order.specs.Order.{inserted, ordered}
use Rattle.board_defs.specs.declared.query.BoardQuery.{BoardQuery}
use Rattle.board_defs.specs.declared.row.Row.{Row}
use Rattle.board_defs.specs.declared.row.RowState.TheVariants as state
use Rattle.board_defs.specs.Choice.{chosen, added_updates}
use Rattle.board_defs.specs.Fold.{fold_of}
use Rattle.sched_types.specs.Runs.{all_runs}
use Rattle.board_defs.specs.Rows.{run_rows, board_at, board, rows}
use Rattle.board_defs.proofs.Parts.{late, stop_update, trip_update, entity_of, message_at, entry_of, first_trip, hill_row}

-- the city with the feeds a and b
abbrev schedules : Schedules
schedules = record {
  plans = record { name = codes "city"; prefix = []; plan = city } ∷ [];
  feeds = record { name = codes "a"; plan = 0; max_age = 0 } ∷ record { name = codes "b"; plan = 0; max_age = 0 } ∷ [];
}

-- the market, for an hour from 07:53:20 on
abbrev query : ℕ → BoardQuery
query limit = record { plan = 0; stop = codes "ST"; at = 1743314000; span = 3600; limit = limit }

abbrev board_after : List Entry → ℕ → Option (List Row)
board_after history limit = rows schedules (fold_of 2 history) (query limit)

abbrev departure_of : ℕ → List ℕ → List ℕ → Row
departure_of scheduled trip platform = hill_row scheduled scheduled None state.Scheduled trip platform

-- a message of a feed with one update of trip T1
abbrev updated : ℕ → List ℕ → Option TripRelation → List StopUpdate → Entry
updated feed id relation updates =
    entry_of feed (message_at 1743314000 (entity_of id (trip_update (first_trip relation) updates) ∷ []))

-- so late from its first place on
abbrev late_from_first : ℕ → List StopUpdate
late_from_first seconds = stop_update 1 (late seconds) None ∷ []

abbrev late_row : ℕ → ℕ → List ℕ → Row
late_row scheduled seconds platform = hill_row (scheduled + seconds) scheduled (Some (pos seconds)) state.Live (codes "T1") platform

-- T1 goes before T2 at one instant; the third departure is beyond the limit
as_scheduled : board_after [] 2
    ≡ Some (departure_of 1743314400 (codes "T1") (codes "S1") ∷ departure_of 1743315660 (codes "T1") (codes "S2") ∷ [])
unfolding fold_of messages_of since_full changes_by_id entities_of chosen added_updates match_of by_near date_in is_day date_plus next_day states all_runs run_rows board_at board inserted ordered digits
as_scheduled = refl

-- a board of one row
first_alone : board_after [] 1
    ≡ Some (departure_of 1743314400 (codes "T1") (codes "S1") ∷ [])
unfolding fold_of messages_of since_full changes_by_id entities_of chosen added_updates match_of by_near date_in is_day date_plus next_day states all_runs run_rows board_at board inserted ordered digits
first_alone = refl

-- a delay of 300 seconds from the first place on moves both departures of T1
delayed : board_after (updated 0 (codes "u") None (late_from_first 300) ∷ []) 50
    ≡ Some (late_row 1743314400 300 (codes "S1")
    ∷ departure_of 1743315660 (codes "T2") (codes "S2") ∷ late_row 1743315660 300 (codes "S2") ∷ [])
unfolding fold_of messages_of since_full changes_by_id entities_of chosen added_updates match_of by_near date_in is_day date_plus next_day states all_runs run_rows board_at board inserted ordered digits
delayed = refl

-- of two updates with one stamp that of the lower feed number counts
lower_feed : board_after (updated 0 (codes "u") None (late_from_first 60)
    ∷ updated 1 (codes "u") None (late_from_first 120) ∷ []) 1
    ≡ Some (late_row 1743314400 60 (codes "S1") ∷ [])
unfolding fold_of messages_of since_full changes_by_id entities_of chosen added_updates match_of by_near date_in is_day date_plus next_day states all_runs run_rows board_at board inserted ordered digits
lower_feed = refl

-- a place that is skipped keeps its time, and passes on what is known
skipped_first : board_after (updated 0 (codes "u") None (stop_update 1 None (Some Skipped) ∷ []) ∷ []) 1
    ≡ Some (hill_row 1743314400 1743314400 None state.Skipped (codes "T1") (codes "S1") ∷ [])
unfolding fold_of messages_of since_full changes_by_id entities_of chosen added_updates match_of by_near date_in is_day date_plus next_day states all_runs run_rows board_at board inserted ordered digits
skipped_first = refl

-- a run that is canceled is shown at its times
canceled : board_after (updated 0 (codes "u") (Some Canceled) (late_from_first 300) ∷ []) 2
    ≡ Some (hill_row 1743314400 1743314400 None state.Canceled (codes "T1") (codes "S1")
    ∷ hill_row 1743315660 1743315660 None state.Canceled (codes "T1") (codes "S2") ∷ [])
unfolding fold_of messages_of since_full changes_by_id entities_of chosen added_updates match_of by_near date_in is_day date_plus next_day states all_runs run_rows board_at board inserted ordered digits
canceled = refl

-- one that is deleted isn't shown
deleted : board_after (updated 0 (codes "u") (Some Deleted) [] ∷ []) 50
    ≡ Some (departure_of 1743315660 (codes "T2") (codes "S2") ∷ [])
unfolding fold_of messages_of since_full changes_by_id entities_of chosen added_updates match_of by_near date_in is_day date_plus next_day states all_runs run_rows board_at board inserted ordered digits
deleted = refl

-- no row of stops.txt has that id
no_stop : rows schedules (fold_of 2 []) (record (query 50) { stop = codes "NO" })
    ≡ None
unfolding fold_of messages_of since_full changes_by_id entities_of chosen added_updates match_of by_near date_in is_day date_plus next_day states all_runs run_rows board_at board inserted ordered digits
no_stop = refl

-- ---- assigned stops

-- T1 is told to be late by 300 seconds, and its first place to be at another stop
abbrev moved_to : List ℕ → Option TripRelation → List Entry
moved_to id relation =
    updated 0 (codes "u") relation
    (record (stop_update 1 (late 300) None) { properties = Some (record { assigned_stop_id = Some id; unknown = [] }) } ∷ []) ∷ []

-- the departures at a stop
abbrev leaving : List ℕ → List Entry → Option (List Row)
leaving stop history = rows schedules (fold_of 2 history) (record (query 50) { stop = stop })

-- the first departure is shown at the other platform, and all else is as it was
other_platform : board_after (moved_to (codes "S2") None) 50
    ≡ Some (late_row 1743314400 300 (codes "S2")
    ∷ departure_of 1743315660 (codes "T2") (codes "S2") ∷ late_row 1743315660 300 (codes "S2") ∷ [])
unfolding fold_of messages_of since_full changes_by_id entities_of chosen added_updates match_of by_near date_in is_day date_plus next_day states all_runs run_rows board_at board inserted ordered digits
other_platform = refl

-- the other platform has it, and its own has it no more
at_one_platform :
    (leaving (codes "S2") (moved_to (codes "S2") None) ≡ board_after (moved_to (codes "S2") None) 50)
    × (leaving (codes "S1") (moved_to (codes "S2") None) ≡ Some [])
unfolding fold_of messages_of since_full changes_by_id entities_of chosen added_updates match_of by_near date_in is_day date_plus next_day states all_runs run_rows board_at board inserted ordered digits
at_one_platform = (refl, refl)

-- out of the station it is shown at its new stop alone
out_of_the_station :
    (board_after (moved_to (codes "S4") None) 50 ≡ Some (departure_of 1743315660 (codes "T2") (codes "S2") ∷ late_row 1743315660 300 (codes "S2") ∷ []))
    × (leaving (codes "S4") (moved_to (codes "S4") None) ≡ Some (late_row 1743314400 300 (codes "S4") ∷ []))
unfolding fold_of messages_of since_full changes_by_id entities_of chosen added_updates match_of by_near date_in is_day date_plus next_day states all_runs run_rows board_at board inserted ordered digits
out_of_the_station = (refl, refl)

-- a stop that isn't there changes nothing
no_such_stop : board_after (moved_to (codes "S9") None) 50
    ≡ Some (late_row 1743314400 300 (codes "S1")
    ∷ departure_of 1743315660 (codes "T2") (codes "S2") ∷ late_row 1743315660 300 (codes "S2") ∷ [])
unfolding fold_of messages_of since_full changes_by_id entities_of chosen added_updates match_of by_near date_in is_day date_plus next_day states all_runs run_rows board_at board inserted ordered digits
no_such_stop = refl

-- a run that is canceled is shown at its own platforms
canceled_at_its_own : board_after (moved_to (codes "S2") (Some Canceled)) 2
    ≡ Some (hill_row 1743314400 1743314400 None state.Canceled (codes "T1") (codes "S1")
    ∷ hill_row 1743315660 1743315660 None state.Canceled (codes "T1") (codes "S2") ∷ [])
unfolding fold_of messages_of since_full changes_by_id entities_of chosen added_updates match_of by_near date_in is_day date_plus next_day states all_runs run_rows board_at board inserted ordered digits
canceled_at_its_own = refl

-- ---- ageing

-- the first departure that is shown at a moment, of feeds of those ages
abbrev first_at : List NamedFeed → List Entry → ℕ → Option (List Row)
first_at feeds history at =
    rows (record schedules { feeds = feeds }) (fold_of (length feeds) history) (record (query 1) { at = at })

abbrev of_age : List ℕ → ℕ → NamedFeed
of_age name max_age = record { name = name; plan = 0; max_age = max_age }

-- T1 is told to be late by 300 seconds at 1743314000, by a feed of that max_age
abbrev told_with : ℕ → ℕ → Option (List Row)
told_with max_age at = first_at (of_age (codes "a") max_age ∷ []) (updated 0 (codes "u") None (late_from_first 300) ∷ []) at

-- an update without a stamp of its own counts up to its feed's max_age after its message's
at_its_last_second : told_with 60 1743314060 ≡ Some (late_row 1743314400 300 (codes "S1") ∷ [])
unfolding fold_of messages_of since_full changes_by_id entities_of chosen added_updates match_of by_near date_in is_day date_plus next_day states all_runs run_rows board_at board inserted ordered digits
at_its_last_second = refl

-- a second later the run is as scheduled
too_old : told_with 60 1743314061 ≡ Some (departure_of 1743314400 (codes "T1") (codes "S1") ∷ [])
unfolding fold_of messages_of since_full changes_by_id entities_of chosen added_updates match_of by_near date_in is_day date_plus next_day states all_runs run_rows board_at board inserted ordered digits
too_old = refl

-- 0 is no end
never_too_old : told_with 0 1743314061 ≡ Some (late_row 1743314400 300 (codes "S1") ∷ [])
unfolding fold_of messages_of since_full changes_by_id entities_of chosen added_updates match_of by_near date_in is_day date_plus next_day states all_runs run_rows board_at board inserted ordered digits
never_too_old = refl

-- the same by an update with a stamp of its own, in a message of that stamp, by a feed whose max_age is a minute
abbrev stamped : ℕ → ℕ → ℕ → Option (List Row)
stamped message own at =
    first_at (of_age (codes "a") 60 ∷ [])
    (entry_of 0 (message_at message (entity_of (codes "u") (record (trip_update (first_trip None) (late_from_first 300)) { timestamp = Some own }) ∷ [])) ∷ [])
    at

-- its own stamp counts, whether its message's is later
older_than_its_message :
    (stamped 1743314030 1743314000 1743314060 ≡ Some (late_row 1743314400 300 (codes "S1") ∷ []))
    × (stamped 1743314030 1743314000 1743314061 ≡ Some (departure_of 1743314400 (codes "T1") (codes "S1") ∷ []))
unfolding fold_of messages_of since_full changes_by_id entities_of chosen added_updates match_of by_near date_in is_day date_plus next_day states all_runs run_rows board_at board inserted ordered digits
older_than_its_message = (refl, refl)

-- or earlier
later_than_its_message :
    (stamped 1743313000 1743314000 1743314060 ≡ Some (late_row 1743314400 300 (codes "S1") ∷ []))
    × (stamped 1743313000 1743314000 1743314061 ≡ Some (departure_of 1743314400 (codes "T1") (codes "S1") ∷ []))
unfolding fold_of messages_of since_full changes_by_id entities_of chosen added_updates match_of by_near date_in is_day date_plus next_day states all_runs run_rows board_at board inserted ordered digits
later_than_its_message = (refl, refl)

-- one that is no moment doesn't
no_moment_of_its_own :
    (stamped 1743314000 0 1743314060 ≡ Some (late_row 1743314400 300 (codes "S1") ∷ []))
    × (stamped 1743314000 0 1743314061 ≡ Some (departure_of 1743314400 (codes "T1") (codes "S1") ∷ []))
unfolding fold_of messages_of since_full changes_by_id entities_of chosen added_updates match_of by_near date_in is_day date_plus next_day states all_runs run_rows board_at board inserted ordered digits
no_moment_of_its_own = (refl, refl)

-- two feeds tell other delays with one stamp; a has a max_age of a minute, b none
abbrev of_two : ℕ → Option (List Row)
of_two at =
    first_at (of_age (codes "a") 60 ∷ of_age (codes "b") 0 ∷ [])
    (updated 0 (codes "u") None (late_from_first 60) ∷ updated 1 (codes "u") None (late_from_first 120) ∷ []) at

-- the update of b counts once that of a is too old
other_feed_follows :
    (of_two 1743314060 ≡ Some (late_row 1743314400 60 (codes "S1") ∷ []))
    × (of_two 1743314061 ≡ Some (late_row 1743314400 120 (codes "S1") ∷ []))
unfolding fold_of messages_of since_full changes_by_id entities_of chosen added_updates match_of by_near date_in is_day date_plus next_day states all_runs run_rows board_at board inserted ordered digits
other_feed_follows = (refl, refl)
