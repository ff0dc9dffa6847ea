-- The stop of each state is one that an update names, or none.
use Rattle.std.proofs.Common.{ℕ, ◌+◌, ◌==◌, get_or, true, false, Bool, cond, Option, Some, None, List, [], ◌∷◌, length, IfSome, ℤ}
use Rattle.std.specs.List.{All, find, range_with_len}
use Rattle.std.proofs.lemmas.List.Elements.{All-nil, All-cons, All-head, All-tail, All-map}
use Rattle.rt_types.specs.declared.enums.StopRelation.{StopRelation}
use Rattle.rt_types.specs.declared.enums.StopRelation.TheVariants.{Scheduled, Skipped, NoData, Unscheduled}
use Rattle.rt_types.specs.declared.trip_update.StopUpdate.{StopUpdate}
use Rattle.rt_types.specs.declared.trip_update.TripUpdate.{TripUpdate}
use Rattle.sched_types.specs.declared.rows.Run.{Run}
use Rattle.sched_types.specs.Timetable.{Timetable, places_of}
use Rattle.delay_rule_defs.specs.Delays.{EventDelays, place_for, taken, placements_of, event_delays_at, assigned_stop, relation_of, carry_at, state_by, state_with, state_at, states}

module _ (t : Timetable) (P : Option ℕ → Type 0) (none : P None) where
  abbrev NamesWell : StopUpdate → Type 0
  NamesWell update = P (assigned_stop t update)

  abbrev PlacedWell : ℕ × StopUpdate → Type 0
  PlacedWell pair = NamesWell pair.1

  placed : (trip : ℕ) (updates : List StopUpdate) (from : ℕ) → All NamesWell updates → All PlacedWell (placements_of t trip updates from)
  placed trip [] from all = All-nil PlacedWell
  placed trip (update ∷ updates) from all =
      by_place (place_for t trip from update) (λ next. placed trip updates next (All-tail NamesWell update updates all))
    where
      by_place : (o : Option ℕ) → ((next : ℕ) → All PlacedWell (placements_of t trip updates next)) → All PlacedWell (taken o update (λ next. placements_of t trip updates next) from)
      by_place None rest = rest from
      by_place (Some i) rest =
          All-cons PlacedWell (i, update) (placements_of t trip updates (i + 1)) (All-head NamesWell update updates all) (rest (i + 1))

  found : (i : ℕ) (pairs : List (ℕ × StopUpdate)) → All PlacedWell pairs → IfSome (find (λ pair. pair.0 == i) pairs) PlacedWell
  found i [] all = tt
  found i (pair ∷ pairs) all = by_test (pair.0 == i) (found i pairs (All-tail PlacedWell pair pairs all)) where
    by_test : (b : Bool) → IfSome (find (λ pair. pair.0 == i) pairs) PlacedWell → IfSome (cond b (Some pair) (find (λ pair. pair.0 == i) pairs)) PlacedWell
    by_test true rest = All-head PlacedWell pair pairs all
    by_test false rest = rest

  by_relation : (relation : StopRelation) (told : EventDelays) (stop : Option ℕ) (carry : Option ℤ) → P stop → P (state_by relation told stop carry).stop
  by_relation Scheduled told stop carry p = p
  by_relation Skipped told stop carry p = none
  by_relation NoData told stop carry p = none
  by_relation Unscheduled told stop carry p = none

  by_update : (run : Run) (pair : Option (ℕ × StopUpdate)) (carry : Option ℤ) → IfSome pair PlacedWell → P (state_with t run pair carry).stop
  by_update run None carry p = none
  by_update run (Some pair) carry p =
      by_relation (relation_of pair.1) (event_delays_at t run pair.0 pair.1) (assigned_stop t pair.1) carry p

  at_place : (run : Run) (pairs : List (ℕ × StopUpdate)) (delay : Option ℤ) → All PlacedWell pairs → (i : ℕ) → P (state_at t run pairs delay i).stop
  at_place run pairs delay all i =
      by_update run (find (λ pair. pair.0 == i) pairs) (carry_at t run pairs delay i) (found i pairs all)

  -- what is true of no stop, and of each stop that an update names, is true of the stops of all states
  pub stops_of_states : (run : Run) (update : TripUpdate) → All NamesWell update.stop_time_update → All (λ s. P s.stop) (states t run update)
  unfolding states
  stops_of_states run update all =
      let pairs = placements_of t run.trip update.stop_time_update 0 in
      let places = range_with_len 0 (length (places_of t run.trip)) in
      All-map (λ s. P s.stop) (state_at t run pairs update.delay) places
      (λ k d lt. at_place run pairs update.delay (placed run.trip update.stop_time_update 0 all) (get_or places k d))
