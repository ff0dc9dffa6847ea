-- The departures of a run by the update that counts for it, and what each source of a stop has of them.
use Rattle.std.proofs.lemmas.Bool.Decides.{nat_tests}
use Rattle.std.proofs.Common.{◌≡◌, ℕ, ◌-◌, Bool, true, false, ◌&&◌, nat_eq, Option, Some, None, List, [], length, map, filter, ℤ, pos, ◌+ℤ◌, int_le, int_lt, refl, sym, ap, ◌∙◌, arith}
use Rattle.std.specs.Prelude.{if◌then◌else◌, IfSome, slice_get, unwrap_or}
use Rattle.std.specs.List.{AllByRecursion, filter_map}
use Rattle.std.specs.Option.{option_and_then, option_map}
use Rattle.std.proofs.lemmas.Bool.{eqb-true}
use Rattle.std.proofs.lemmas.Int.{ints}
use Rattle.rt_types.specs.declared.enums.TripRelation.{TripRelation}
use Rattle.sched_types.specs.declared.rows.Place.{Place}
use Rattle.sched_types.specs.declared.rows.Run.{Run}
use Rattle.sched_types.specs.Runs.{departures_of}
use Rattle.sched_types.specs.Timetable.{Timetable, places_of}
use Rattle.delay_rule_defs.specs.declared.state.StopState.{StopState}
use Rattle.delay_rule_defs.specs.Delays.{states}
use Rattle.trip_match_defs.specs.Matching.{relation_of}
use Rattle.stop_index.specs.declared.slot.Slot.{Slot}
use Rattle.stop_index.specs.Slots as times
use Rattle.board_defs.specs.declared.row.RowState.TheVariants as state
use Rattle.board_defs.specs.Choice.{Update}
use Rattle.board_defs.specs.Rows.{Shown, as_scheduled, by_delay, by_relation, by_state, may_board, scheduled_at, shown_at, stands_at}
use Rattle.run_overlay.specs.declared.slot.LiveSlot.{LiveSlot}
use Rattle.run_overlay.specs.Live as live
use Rattle.run_overlay.specs.Live.{live_place, live_row, rows_by, sign_of, slot_state}
use Rattle.run_departures.specs.declared.departure.Departure.{Departure}
use Rattle.run_departures.specs.Bids.{LiveFeed, winning}
use Rattle.run_departures.specs.Sources.{by_timetable, by_update, if_told_by, live_departure, row_state, scheduled_departure}
use Rattle.run_departures.proofs.Fusion.{given_of_map, given_of_filter, given_of_given, filter_of_given, none_given, given_same_on, numbered_there}
use Rattle.run_departures.proofs.Greatests.{passing}

-- ---- what there is

-- a place of a run as it is shown
abbrev pub placed : Timetable → Run → ℕ × Place → Shown → Departure
placed t run numbered shown = record {
  expected = scheduled_at t run numbered.1 +ℤ unwrap_or shown.delay (pos 0);
  run = run;
  place = numbered.0;
  stop = stands_at numbered.1 shown;
  scheduled = scheduled_at t run numbered.1;
  delay = shown.delay;
  state = shown.state;
}

-- where passengers may board, and the run is shown
abbrev pub place_departure : Timetable → Run → Option Update → ℕ × Place → Option Departure
place_departure t run best numbered =
    if may_board numbered.1 then option_map (placed t run numbered) (shown_at t run best numbered.0) else None

-- the departures of a run at whatever stop
abbrev pub departures_by : Timetable → Option Update → Run → List Departure
departures_by t best run = filter_map (place_departure t run best) (departures_of t run.trip)

-- expected from one instant on and before another
abbrev pub in_window : ℤ → ℤ → Departure → Bool
in_window start end d = int_le start d.expected && int_lt d.expected end

abbrev pub at_stop : ℕ → Departure → Bool
at_stop stop d = nat_eq d.stop stop

-- those in a window at a stop
abbrev pub there_by : Timetable → Option Update → Run → ℤ → ℤ → ℕ → List Departure
there_by t best run start end stop = filter (at_stop stop) (filter (in_window start end) (departures_by t best run))

-- a numbered place is that of the run
abbrev IsNumbered : Timetable → Run → ℕ × Place → Type 0
IsNumbered t run numbered = slice_get (places_of t run.trip) numbered.0 ≡ Some numbered.1

all_numbered : (t : Timetable) (run : Run) → AllByRecursion (IsNumbered t run) (departures_of t run.trip)
all_numbered t run = let places = places_of t run.trip in numbered_there (length places - 1) places

there_fused : (t : Timetable) (best : Option Update) (run : Run) (start end : ℤ) (stop : ℕ)
    → there_by t best run start end stop ≡ filter_map (λ numbered. passing (at_stop stop) (passing (in_window start end) (place_departure t run best numbered))) (departures_of t run.trip)
there_fused t best run start end stop = grind (arith, filter_of_given, passing)

none_both : {X : Type 0} (x : X) (a b : Bool) → (if a then (if b then x else x) else x) ≡ x
none_both x a b = grind arith

plus_nothing : (z : ℤ) → z +ℤ pos 0 ≡ z
plus_nothing z = omega (arith, ints)

-- ---- by the timetable

module _ (t : Timetable) (feeds : List LiveFeed) (at : ℕ) (start end : ℤ) (stop : ℕ) (run : Run) where
  -- what the source of a stop has of the run
  abbrev pub scheduled_of_run : List Departure
  scheduled_of_run = filter_map (scheduled_departure t feeds at stop) (filter (times.is_between start end) (times.run_slots t stop run))

  abbrev from_slot : Slot → Option Departure
  from_slot slot = if times.is_between start end slot then scheduled_departure t feeds at stop slot else None

  abbrev from_place : ℕ × Place → Option Departure
  from_place numbered = if times.is_at stop numbered then from_slot (times.slot_of t run numbered) else None

  scheduled_fused : scheduled_of_run ≡ filter_map from_place (departures_of t run.trip)
  scheduled_fused = grind (arith, given_of_filter, given_of_map)

  module _ (numbered : ℕ × Place) where
    abbrev slot : Slot
    slot = times.slot_of t run numbered

    abbrev timely : Departure
    timely = by_timetable numbered.1.stop slot

    as_timely : placed t run numbered as_scheduled ≡ timely
    as_timely = grind (arith, plus_nothing)

    by_both : (a b : Bool) → nat_eq numbered.1.stop stop ≡ a → (if a then (if b then Some (by_timetable stop slot) else None) else None) ≡ passing (at_stop stop) (if b then Some timely else None)
    by_both a b e = grind (arith, eqb-true, nat_tests)

    by_boarding : (m : Bool) → (if nat_eq numbered.1.stop stop then (if times.is_between start end slot then (if m then Some (by_timetable stop slot) else None) else None) else None)
        ≡ passing (at_stop stop) (passing (in_window start end) (if m then Some (placed t run numbered as_scheduled) else None))
    by_boarding m = grind (arith, as_timely, by_both, none_both, passing, nat_tests)

    untold_place : winning at feeds run ≡ None → IsNumbered t run numbered → from_place numbered ≡ passing (at_stop stop) (passing (in_window start end) (place_departure t run None numbered))
    untold_place untold there = grind (arith, by_boarding, nat_tests)

    told_place : (number : ℕ) → winning at feeds run ≡ Some number → from_place numbered ≡ None
    told_place number told = grind (arith, none_both, nat_tests)

  -- where no update counts it has what there is
  pub scheduled_untold : winning at feeds run ≡ None → scheduled_of_run ≡ there_by t None run start end stop
  scheduled_untold untold =
      scheduled_fused
      ∙ given_same_on (IsNumbered t run) from_place (λ numbered. passing (at_stop stop) (passing (in_window start end) (place_departure t run None numbered))) (λ numbered there. untold_place numbered untold there) (departures_of t run.trip) (all_numbered t run)
      ∙ sym (there_fused t None run start end stop)

  -- and else nothing
  pub scheduled_told : (number : ℕ) → winning at feeds run ≡ Some number → scheduled_of_run ≡ []
  scheduled_told number told = scheduled_fused ∙ none_given from_place (λ numbered. told_place numbered number told) (departures_of t run.trip)

-- ---- by an update

-- a place of a run is never shown as one of an added trip
abbrev IsKept : Shown → Type 0
IsKept shown = row_state (slot_state shown.state) ≡ shown.state

kept_delay : (delay : Option ℤ) (stop : Option ℕ) → IsKept (by_delay delay stop)
kept_delay delay stop = grind arith

kept_state : (s : Option StopState) → IsKept (by_state s)
kept_state s = grind (arith, kept_delay)

kept_relation : (kind : TripRelation) (s : Option StopState) → IfSome (by_relation kind s) IsKept
kept_relation kind s = grind (arith, kept_state)

module _ (t : Timetable) (feeds : List LiveFeed) (at : ℕ) (start end : ℤ) (stop : ℕ) (run : Run) (number : ℕ) where
  -- what the source of a feed has of the run, where its update is that one
  abbrev pub live_by : Option Update → List Departure
  live_by best = filter_map (live_departure t feeds at number stop) (filter (live.is_between start end) (map (λ row. row.slot) (filter (live.is_at stop) (rows_by t run best))))

  abbrev from_live : LiveSlot → Option Departure
  from_live slot = if live.is_between start end slot then live_departure t feeds at number stop slot else None

  -- what comes of a row, if it is there
  abbrev from_rows : {R : Type 0} → (R → Bool) → (R → LiveSlot) → Option R → Option Departure
  from_rows there slot given = option_and_then (λ row. if there row then from_live (slot row) else None) given

  rows_fused : {R : Type 0} (there : R → Bool) (slot : R → LiveSlot) (place_row : ℕ × Place → Option R) (places : List (ℕ × Place))
      → filter_map (live_departure t feeds at number stop) (filter (live.is_between start end) (map slot (filter there (filter_map place_row places))))
      ≡ filter_map (λ numbered. from_rows there slot (place_row numbered)) places
  rows_fused there slot place_row places = grind (arith, given_of_filter, given_of_given, given_of_map)

  abbrev from_update : Update → ℕ × Place → Option Departure
  from_update u numbered = from_rows (live.is_at stop) (λ row. row.slot) (live_place t run u numbered)

  live_fused : (u : Update) → live_by (Some u) ≡ filter_map (from_update u) (departures_of t run.trip)
  live_fused u = rows_fused (live.is_at stop) (λ row. row.slot) (live_place t run u) (departures_of t run.trip)

  module _ (numbered : ℕ × Place) where
    -- what comes of it as it is shown, by who wins, and by the place
    module _ (shown : Shown) where
      abbrev shown_slot : LiveSlot
      shown_slot = (live_row t run numbered (sign_of shown)).slot

      abbrev with_winner : Option ℕ → Option Place → Option Departure
      with_winner won place =
          if nat_eq (stands_at numbered.1 shown) stop
          then (if live.is_between start end shown_slot then if_told_by number won (by_update t stop shown_slot place) else None)
          else None

      abbrev moved_here : Departure
      moved_here = record {
        expected = shown_slot.at;
        run = run;
        place = numbered.0;
        stop = stop;
        scheduled = scheduled_at t run numbered.1;
        delay = shown.delay;
        state = row_state (slot_state shown.state);
      }

      here_is : stands_at numbered.1 shown ≡ stop → IsKept shown → moved_here ≡ placed t run numbered shown
      here_is at_it kept =
          λ i. record {
            expected = shown_slot.at;
            run = run;
            place = numbered.0;
            stop = sym at_it i;
            scheduled = scheduled_at t run numbered.1;
            delay = shown.delay;
            state = kept i;
          }

      shown_both : (a b : Bool) → nat_eq (stands_at numbered.1 shown) stop ≡ a → IsKept shown
          → (if a then (if b then Some moved_here else None) else None) ≡ passing (at_stop stop) (if b then Some (placed t run numbered shown) else None)
      shown_both a b e kept = grind (arith, eqb-true, here_is, nat_tests)

      won_shown : (won : ℕ) → winning at feeds run ≡ Some won → nat_eq number won ≡ true → IsNumbered t run numbered → IsKept shown
          → with_winner (winning at feeds run) (slice_get (places_of t run.trip) numbered.0) ≡ passing (at_stop stop) (passing (in_window start end) (Some (placed t run numbered shown)))
      won_shown won wins own there kept = grind (arith, shown_both, nat_tests)

      lost_shown : (won : Option ℕ) → winning at feeds run ≡ won → ((given : Option Departure) → if_told_by number won given ≡ None) → with_winner (winning at feeds run) (slice_get (places_of t run.trip) numbered.0) ≡ None
      lost_shown won wins other = grind (arith, none_both, nat_tests)

    won_option : (won : ℕ) → winning at feeds run ≡ Some won → nat_eq number won ≡ true → IsNumbered t run numbered → (shown : Option Shown) → IfSome shown IsKept
        → from_rows (live.is_at stop) (λ row. row.slot) (option_map (λ s. live_row t run numbered (sign_of s)) shown) ≡ passing (at_stop stop) (passing (in_window start end) (option_map (placed t run numbered) shown))
    won_option won wins own there shown kept = grind (arith, won_shown, nat_tests)

    won_place : (won : ℕ) (u : Update) → winning at feeds run ≡ Some won → nat_eq number won ≡ true → IsNumbered t run numbered
        → from_update u numbered ≡ passing (at_stop stop) (passing (in_window start end) (place_departure t run (Some u) numbered))
    won_place won u wins own there = by_test (may_board numbered.1) where
      by_test : (m : Bool) → from_rows (live.is_at stop) (λ row. row.slot) (if m then option_map (λ s. live_row t run numbered (sign_of s)) (shown_at t run (Some u) numbered.0) else None)
          ≡ passing (at_stop stop) (passing (in_window start end) (if m then option_map (placed t run numbered) (shown_at t run (Some u) numbered.0) else None))
      by_test true =
          won_option won wins own there (shown_at t run (Some u) numbered.0)
          (kept_relation (relation_of u.update.trip) (slice_get (states t run u.update) numbered.0))
      by_test false = refl

    lost_option : (won : Option ℕ) → winning at feeds run ≡ won → ((given : Option Departure) → if_told_by number won given ≡ None) → (shown : Option Shown)
        → from_rows (live.is_at stop) (λ row. row.slot) (option_map (λ s. live_row t run numbered (sign_of s)) shown) ≡ None
    lost_option won wins other shown = grind (arith, lost_shown)

    lost_place : (won : Option ℕ) (u : Update) → winning at feeds run ≡ won → ((given : Option Departure) → if_told_by number won given ≡ None) → from_update u numbered ≡ None
    lost_place won u wins other = grind (arith, lost_option)

  -- where that feed's update counts it has what there is
  pub live_won : (won : ℕ) (u : Update) → winning at feeds run ≡ Some won → nat_eq number won ≡ true → live_by (Some u) ≡ there_by t (Some u) run start end stop
  live_won won u wins own =
      live_fused u
      ∙ given_same_on (IsNumbered t run) (from_update u) (λ numbered. passing (at_stop stop) (passing (in_window start end) (place_departure t run (Some u) numbered)))
      (λ numbered there. won_place numbered won u wins own there) (departures_of t run.trip) (all_numbered t run)
      ∙ sym (there_fused t (Some u) run start end stop)

  -- and else nothing
  live_lost : (won : Option ℕ) (best : Option Update) → winning at feeds run ≡ won → ((given : Option Departure) → if_told_by number won given ≡ None) → live_by best ≡ []
  live_lost won best wins other = grind (arith, live_fused, lost_place, none_given)

  pub live_untold : (best : Option Update) → winning at feeds run ≡ None → live_by best ≡ []
  live_untold best untold = live_lost None best untold (λ given. refl)

  pub live_other : (won : ℕ) (best : Option Update) → winning at feeds run ≡ Some won → nat_eq number won ≡ false → live_by best ≡ []
  live_other won best wins other = live_lost (Some won) best wins (λ given. ap (λ c. if c then given else None) other)
