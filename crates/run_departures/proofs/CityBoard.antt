-- Boards of the small city's market, which has two platforms: each line computes.
use Rattle.std.specs.Prelude.{◌≡◌, ℕ, Some, None, Option, List, [], ◌∷◌, map, refl, pos, codes}
use Rattle.rt_types.specs.declared.enums.TripRelation.{TripRelation}
use Rattle.rt_types.specs.declared.enums.TripRelation.TheVariants.{Deleted}
use Rattle.text_defs.specs.Dates.{is_day, date_plus, next_day, date_in}
use Rattle.sched_types.specs.City.{city}
use Rattle.sched_types.specs.Runs.{all_runs}
use Rattle.stop_index.specs.Slots.{slots_between}
use Rattle.trip_match_defs.specs.Matching.{match_of, by_near}
use Rattle.delay_rule_defs.specs.Delays.{states}
use Rattle.order.specs.Order.{inserted, ordered}
use Rattle.keyed_lists.specs.Keyed.{by_key}
use Rattle.board_defs.specs.declared.row.RowState.TheVariants as state
use Rattle.board_defs.specs.Choice.{chosen}
use Rattle.board_defs.specs.Feeds.{HubFeed}
use Rattle.board_defs.proofs.Parts.{late, stop_update, trip_update, entity_of, first_trip}
use Rattle.run_overlay.specs.Kept.{live_of, mentions_of, overlay_of}
use Rattle.run_overlay.specs.Live.{live_rows}
use Rattle.run_overlay.specs.Updates.{updates_of}
use Rattle.run_departures.specs.declared.asked.Asked.{Asked}
use Rattle.run_departures.specs.declared.departure.Departure.{Departure}
use Rattle.run_departures.specs.Bids.{live_feed, winner}
use Rattle.run_departures.specs.Board.{departures_of_board}

-- a feed with one update of trip T1 on 30 March, so late from its first place on, in a message of that stamp
abbrev feed_with : ℕ → ℕ → ℕ → Option TripRelation → ℕ → HubFeed
feed_with number max_age stamp relation seconds = record {
  number = number;
  feed = record { name = []; plan = 0; max_age = max_age };
  fold = record {
    count = 1;
    stamp = stamp;
    entities = (codes "u", record { entity = entity_of (codes "u") (trip_update (first_trip relation) (stop_update 1 (late seconds) None ∷ [])); stamp = stamp }) ∷ [];
  };
}

-- the hour from 07:53:20 on at a stop
abbrev hour_at : ℕ → Asked
hour_at stop = record { stop = stop; at = 1743314000; span = 3600 }

abbrev leaving : List HubFeed → ℕ → List Departure
leaving feeds stop = departures_of_board city (map (live_feed city) feeds) (hour_at stop)

-- a departure of 30 March from a place of a trip at a stop
abbrev timely : ℕ → ℕ → ℕ → ℕ → Departure
timely at trip place stop = record {
  expected = pos at;
  run = record { trip = trip; day = 1 };
  place = place;
  stop = stop;
  scheduled = pos at;
  delay = None;
  state = state.Scheduled;
}

-- one that is so late
abbrev delayed : ℕ → ℕ → ℕ → ℕ → ℕ → ℕ → Departure
delayed expected scheduled seconds trip place stop = record {
  expected = pos expected;
  run = record { trip = trip; day = 1 };
  place = place;
  stop = stop;
  scheduled = pos scheduled;
  delay = Some (pos seconds);
  state = state.Live;
}

-- without feeds: T1 from platform A, and T1 and T2 from platform B at one instant
by_timetable : leaving [] 4 ≡ timely 1743314400 1 0 0 ∷ timely 1743315660 1 2 1 ∷ timely 1743315660 2 0 1 ∷ []
unfolding departures_of_board winner slots_between all_runs ordered inserted
by_timetable = refl

-- with an update of T1 it leaves later, and T2 from platform B before it
by_one_feed : leaving (feed_with 7 0 1743314000 None 300 ∷ []) 4 ≡ delayed 1743314700 1743314400 300 1 0 0 ∷ timely 1743315660 2 0 1 ∷ delayed 1743315960 1743315660 300 1 2 1 ∷ []
unfolding departures_of_board winner slots_between overlay_of live_of mentions_of by_key live_rows updates_of all_runs chosen match_of by_near date_in is_day date_plus next_day states ordered inserted
by_one_feed = refl

-- of two feeds that speak of it at one moment that of the lower number counts
lower_number : leaving (feed_with 3 0 1743314000 None 60 ∷ feed_with 7 0 1743314000 None 300 ∷ []) 0 ≡ delayed 1743314460 1743314400 60 1 0 0 ∷ []
unfolding departures_of_board winner slots_between overlay_of live_of mentions_of by_key live_rows updates_of all_runs chosen match_of by_near date_in is_day date_plus next_day states ordered inserted
lower_number = refl

-- and else that of the later stamp, though it deletes the run
later_stamp : leaving (feed_with 3 0 1743313000 None 60 ∷ feed_with 7 0 1743314000 (Some Deleted) 300 ∷ []) 0 ≡ []
unfolding departures_of_board winner slots_between overlay_of live_of mentions_of by_key live_rows updates_of all_runs chosen match_of by_near date_in is_day date_plus next_day states ordered inserted
later_stamp = refl

-- an update that is older than the feed's max_age does not count
too_old : leaving (feed_with 7 999 1743313000 None 300 ∷ []) 0 ≡ timely 1743314400 1 0 0 ∷ []
unfolding departures_of_board winner slots_between overlay_of live_of mentions_of by_key live_rows updates_of all_runs chosen match_of by_near date_in is_day date_plus next_day states ordered inserted
too_old = refl

just_in_time : leaving (feed_with 7 1000 1743313000 None 300 ∷ []) 0 ≡ delayed 1743314700 1743314400 300 1 0 0 ∷ []
unfolding departures_of_board winner slots_between overlay_of live_of mentions_of by_key live_rows updates_of all_runs chosen match_of by_near date_in is_day date_plus next_day states ordered inserted
just_in_time = refl
