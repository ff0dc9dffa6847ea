-- The departures of the small city by updates of one feed: each line computes.
use Rattle.std.specs.Prelude.{◌≡◌, ℕ, Some, None, Option, List, [], ◌∷◌, refl, ℤ, pos, codes}
use Rattle.std.specs.Option.{option_map}
use Rattle.rt_types.specs.declared.enums.TripRelation.{TripRelation}
use Rattle.rt_types.specs.declared.enums.TripRelation.TheVariants.{Canceled, Deleted}
use Rattle.rt_types.specs.declared.trip_update.StopUpdate.{StopUpdate}
use Rattle.text_defs.specs.Dates.{is_day, date_plus, next_day, date_in}
use Rattle.feed_defs.specs.History.{Change}
use Rattle.sched_types.specs.City.{city}
use Rattle.trip_match_defs.specs.Matching.{match_of, by_near}
use Rattle.delay_rule_defs.specs.Delays.{states}
use Rattle.order.specs.Order.{inserted, ordered}
use Rattle.board_defs.specs.Choice.{chosen}
use Rattle.sched_types.specs.Runs.{all_runs}
use Rattle.board_defs.proofs.Parts.{late, stop_update, trip_update, entity_of, first_trip}
use Rattle.run_overlay.specs.declared.slot.LiveSlot.{LiveSlot}
use Rattle.run_overlay.specs.declared.slot.SlotState.{SlotState}
use Rattle.run_overlay.specs.declared.slot.SlotState.TheVariants as state
use Rattle.run_overlay.specs.Kept.{told_update}
use Rattle.run_overlay.specs.Live.{live_between, live_rows}
use Rattle.run_overlay.specs.Updates.{updates_of}

-- an update of trip T1 under an id, in a message of that stamp
abbrev held : List ℕ → ℕ → Option TripRelation → List StopUpdate → Change
held id stamp relation updates =
    (id, record { entity = entity_of id (trip_update (first_trip relation) updates); stamp = stamp })

-- so late from its first place on
abbrev late_by : ℕ → List StopUpdate
late_by seconds = stop_update 1 (late seconds) None ∷ []

-- the departures at a stop in the hour from 07:53:20 on
abbrev leaving : List Change → ℕ → List LiveSlot
leaving entities stop = live_between city (updates_of entities) stop (pos 1743314000) (pos 1743317600)

-- T1 of 30 March, from a place
abbrev departure : ℕ → ℕ → SlotState → Option ℤ → LiveSlot
departure at place known delay =
    record { at = pos at; run = record { trip = 1; day = 1 }; place = place; state = known; delay = delay }

-- a run without an update has no departures here
without_updates : leaving [] 0 ≡ []
unfolding updates_of live_between live_rows all_runs chosen ordered inserted
without_updates = refl

-- late by 300 seconds from its first place on, and so at the third, which is at platform B
delayed : leaving (held (codes "u") 1743314000 None (late_by 300) ∷ []) 0 ≡ departure 1743314700 0 state.Live (Some (pos 300)) ∷ []
unfolding updates_of live_between live_rows all_runs chosen match_of by_near date_in is_day date_plus next_day states ordered inserted
delayed = refl

delayed_later : leaving (held (codes "u") 1743314000 None (late_by 300) ∷ []) 1 ≡ departure 1743315960 2 state.Live (Some (pos 300)) ∷ []
unfolding updates_of live_between live_rows all_runs chosen match_of by_near date_in is_day date_plus next_day states ordered inserted
delayed_later = refl

-- of two updates the later one counts, whatever their ids
later_counts : leaving (held (codes "u") 1743314000 None (late_by 60) ∷ held (codes "v") 1743313000 None (late_by 120) ∷ []) 0 ≡ departure 1743314460 0 state.Live (Some (pos 60)) ∷ []
unfolding updates_of live_between live_rows all_runs chosen match_of by_near date_in is_day date_plus next_day states ordered inserted
later_counts = refl

-- and of two of one stamp that with the greater id
greater_id : option_map told_update (chosen city (updates_of (held (codes "u") 1743314000 None (late_by 60) ∷ held (codes "v") 1743314000 None (late_by 120) ∷ [])) (record { trip = 1; day = 1 })) ≡ Some (codes "v", 1743314000)
unfolding updates_of chosen match_of by_near date_in is_day date_plus next_day
greater_id = refl

-- a canceled run keeps its times
canceled : leaving (held (codes "u") 1743314000 (Some Canceled) (late_by 300) ∷ []) 0 ≡ departure 1743314400 0 state.Canceled None ∷ []
unfolding updates_of live_between live_rows all_runs chosen match_of by_near date_in is_day date_plus next_day states ordered inserted
canceled = refl

-- a deleted one has no departures, though its update counts
deleted : leaving (held (codes "u") 1743314000 (Some Deleted) [] ∷ []) 0 ≡ []
unfolding updates_of live_between live_rows all_runs chosen match_of by_near date_in is_day date_plus next_day states ordered inserted
deleted = refl

-- its first place is moved to platform B: it is there, and no more at platform A
abbrev moved : List Change
moved =
    held (codes "u") 1743314000 None
    (record (stop_update 1 (late 300) None) { properties = Some (record { assigned_stop_id = Some (codes "S2"); unknown = [] }) } ∷ []) ∷ []

moved_here : leaving moved 1 ≡ departure 1743314700 0 state.Live (Some (pos 300)) ∷ departure 1743315960 2 state.Live (Some (pos 300)) ∷ []
unfolding updates_of live_between live_rows all_runs chosen match_of by_near date_in is_day date_plus next_day states ordered inserted
moved_here = refl

moved_away : leaving moved 0 ≡ []
unfolding updates_of live_between live_rows all_runs chosen match_of by_near date_in is_day date_plus next_day states ordered inserted
moved_away = refl
