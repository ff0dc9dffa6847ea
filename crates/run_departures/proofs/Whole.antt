-- The departures of a board are those of all runs that are asked for, in order, and their rows are the defined ones.
use Rattle.std.proofs.lemmas.Bool.Decides.{nat_tests}
use Rattle.std.proofs.Common.{◌≡◌, ℕ, ◌+◌, ◌-◌, ◌<◌, ◌≤◌, Bool, true, false, ◌&&◌, nat_eq, Option, Some, None, List, [], ◌∷◌, ◌++◌, length, map, filter, take, count_by, ℤ, pos, refl, sym, ap, subst, ◌∙◌, arith}
use Rattle.std.specs.Prelude.{if◌then◌else◌}
use Rattle.std.specs.FinMap.{nat_cmp-IsAntisymmetric}
use Rattle.std.specs.List.{All, AllByRecursion, filter_map, flat_map}
use Rattle.std.specs.Option.{option_and_then, option_map}
use Rattle.std.specs.Ordering.{is_eq, nat_cmp}
use Rattle.std.proofs.lemmas.Bool.{and_from, and_parts, eq-eqb, eqb-true}
use Rattle.std.proofs.lemmas.List.Concat.{flat_map-append}
use Rattle.std.proofs.lemmas.List.Elements.{All-from_recursion}
use Rattle.std.proofs.lemmas.List.Folds.{flat_map-map}
use Rattle.sched_types.specs.declared.plans.NamedFeed.{NamedFeed}
use Rattle.sched_types.specs.declared.rows.Place.{Place}
use Rattle.sched_types.specs.declared.rows.Run.{Run}
use Rattle.sched_types.specs.Runs.{all_runs, departures_of}
use Rattle.sched_types.specs.Timetable.{IsTimetable, Timetable, is_run, places_of}
use Rattle.sched_types.proofs.TimetableLaws.{run_has, run_trip}
use Rattle.order.specs.Order.{ordered}
use Rattle.order.proofs.Counts.{count-filter, count_fewer, count_never, numbered, numbers_once, once_flat, SameItems, same_are, same_back, same_flat, same_on}
use Rattle.order.proofs.Lists.{equal_then, filter_map_same}
use Rattle.order.proofs.Ordered.{is_equal}
use Rattle.order.proofs.OrderedMap.{each_ordered, map_ordered}
use Rattle.board_defs.specs.Choice.{Update, updates_at}
use Rattle.board_defs.specs.Feeds.{HubFeed, schedule_feeds}
use Rattle.board_defs.specs.Fold.{FeedFold}
use Rattle.board_defs.specs.Rows.{BoardRow, Shown, is_asked, is_within, may_board, place_row, row_cmp, run_rows, shown_at, shown_row, stands_at}
use Rattle.run_overlay.specs.Live.{live_between}
use Rattle.run_overlay.specs.Updates.{updates_of}
use Rattle.run_overlay.proofs.AllRuns.{is_this, run_once}
use Rattle.run_overlay.proofs.Slots.{slots_are}
use Rattle.run_departures.specs.declared.asked.Asked.{Asked}
use Rattle.run_departures.specs.declared.departure.Departure.{Departure}
use Rattle.run_departures.specs.Bids.{LiveFeed, live_feed}
use Rattle.run_departures.specs.Board.{AreLive, departures_of_board, sources, stops_of}
use Rattle.run_departures.specs.Departures.{IsThere, as_row, departure_cmp}
use Rattle.run_departures.specs.Merge.{joined}
use Rattle.run_departures.specs.Orders.{departure_total}
use Rattle.run_departures.specs.Sources.{live_departure, scheduled_there, sources_at}
use Rattle.run_departures.proofs.Alike.{departures_alike}
use Rattle.run_departures.proofs.Apart.{AreApart}
use Rattle.run_departures.proofs.Fusion.{all_filter, all_flat, all_given, all_passing, filter_flat, filter_of_given, flat_same, map_flat, map_of_given}
use Rattle.run_departures.proofs.Greatests.{passing}
use Rattle.run_departures.proofs.Merging.{all_weaker}
use Rattle.run_departures.proofs.Placed.{at_stop, departures_by, in_window, place_departure, placed}
use Rattle.run_departures.proofs.RowOrder.{rows_order}
use Rattle.run_departures.proofs.Split.{all_in_window, best, here_is, window_of}
use Rattle.run_departures.proofs.Spread.{count-given, once_ordered, passes, spread}
use Rattle.run_departures.proofs.Stops.{named_within, stops_once}
use Rattle.run_departures.proofs.Winners.{feeds_apart, number_of_feed}

-- ---- lists

joined_flat : {A X : Type 0} (g : A → List (List X)) (items : List A) → joined (flat_map g items) ≡ flat_map (λ a. joined (g a)) items
joined_flat g [] = refl
joined_flat g (a ∷ items) = flat_map-append (λ xs. xs) (g a) (flat_map g items) ∙ ap (λ xs. joined (g a) ++ xs) (joined_flat g items)

joined_map : {A X : Type 0} (g : A → List X) (items : List A) → joined (map g items) ≡ flat_map g items
joined_map g [] = refl
joined_map g (a ∷ items) = ap (λ xs. g a ++ xs) (joined_map g items)

all_of : {X : Type 0} (P : X → Type 0) → ((x : X) → P x) → (xs : List X) → AllByRecursion P xs
all_of P h [] = tt
all_of P h (x ∷ xs) = (h x, all_of P h xs)

all_filtered : {X : Type 0} (P : X → Type 0) (p : X → Bool) (xs : List X) → AllByRecursion P xs → AllByRecursion (λ x. P x × (p x ≡ true)) (filter p xs)
all_filtered P p [] all = tt
all_filtered P p (x ∷ xs) all = grind (arith, all_filtered P p xs all.1)

-- ---- departures that tie

record AreOne (z y : Departure) : Type 0 where
  trip : nat_eq y.run.trip z.run.trip ≡ true
  day : nat_eq y.run.day z.run.day ≡ true
  place : nat_eq y.place z.place ≡ true

abbrev tied : Departure → Departure → Bool
tied z y = is_eq (departure_cmp z y)

same_number : (a b : ℕ) → is_eq (nat_cmp a b) ≡ true → nat_eq b a ≡ true
same_number a b e = eq-eqb b a (sym (nat_cmp-IsAntisymmetric a b (is_equal (nat_cmp a b) e)))

tied_are_one : (z y : Departure) → tied z y ≡ true → AreOne z y
tied_are_one z y e = grind (arith, and_parts, equal_then, same_number)

-- ---- the departures of a run

module _ (t : Timetable) (most : Option Update) (run : Run) where
  -- whatever holds of each place as it is shown holds of what comes of it
  module _ (P : Option Departure → Type 0) (numbered : ℕ × Place) (none : P None) (some : (shown : Shown) → P (Some (placed t run numbered shown))) where
    by_shown : (shown : Option Shown) → P (option_map (placed t run numbered) shown)
    by_shown shown = grind arith

    by_boarding : (m : Bool) (shown : Option Shown) → P (if m then option_map (placed t run numbered) shown else None)
    by_boarding m shown = grind (arith, by_shown)

    of_place : P (place_departure t run most numbered)
    of_place = by_boarding (may_board numbered.1) (shown_at t run most numbered.0)

  -- one with another run ties with none
  other_run : (z : Departure) → is_this t z.run run ≡ false → count_by (tied z) (departures_by t most run) ≡ 0
  other_run z other =
      count-given (tied z) (place_departure t run most) (departures_of t run.trip)
      ∙ count_never (λ numbered. passes (tied z) (place_departure t run most numbered)) (departures_of t run.trip)
      (λ numbered. of_place (λ o. passes (tied z) o ≡ false) numbered refl (λ shown. by_test (placed t run numbered shown) refl (tied z (placed t run numbered shown)) refl))
    where
      by_test : (d : Departure) → d.run ≡ run → (b : Bool) → tied z d ≡ b → b ≡ false
      by_test d own true e =
          let one = tied_are_one z d e in
          let this : is_this t z.run d.run ≡ true = and_from (nat_eq d.run.trip z.run.trip) (nat_eq d.run.day z.run.day) one.trip one.day in
          let clash : false ≡ true = sym other ∙ ap (is_this t z.run) (sym own) ∙ this in
          cc
      by_test d own false e = refl

  -- and of one run one at most
  one_of_run : (z : Departure) → count_by (tied z) (departures_by t most run) ≤ 1
  one_of_run z =
      omega (
        arith,
        count-given (tied z) (place_departure t run most) (departures_of t run.trip),
        count_fewer (numbered z.place) (λ item. passes (tied z) (place_departure t run most item))
            (λ item. of_place (λ o. passes (tied z) o ≡ true → numbered z.place item ≡ true) item (λ e. cc) (λ shown e. (tied_are_one z (placed t run item shown) e).place))
            (departures_of t run.trip),
        numbers_once z.place 0 (take (length (places_of t run.trip) - 1) (places_of t run.trip)),
      )

  -- each is of the run
  abbrev IsOf : Departure → Type 0
  IsOf d = d.run ≡ run

  each_of_run : (item : ℕ × Place) (d : Departure) → place_departure t run most item ≡ Some d → IsOf d
  each_of_run item = grind (arith, of_place, placed)

  all_of_run : AllByRecursion IsOf (departures_by t most run)
  all_of_run = grind (arith, all_given, all_of, each_of_run, place_departure)

-- ---- the rows of a run

module _ (t : Timetable) (asked : Asked) (most : Option Update) (run : Run) where
  abbrev is_wanted : Departure → Bool
  is_wanted d = is_asked t asked.stop d.stop

  abbrev within : Departure → Bool
  within d = in_window (pos asked.at) (pos (asked.at + asked.span)) d

  abbrev row_within : BoardRow → Bool
  row_within row = is_within asked.at asked.span row

  by_tests : (numbered : ℕ × Place) (shown : Shown) (a b : Bool) → is_asked t asked.stop (stands_at numbered.1 shown) ≡ a → within (placed t run numbered shown) ≡ b
      → option_map (as_row t) (passing is_wanted (if b then Some (placed t run numbered shown) else None)) ≡ passing row_within (if a then Some (as_row t (placed t run numbered shown)) else None)
  by_tests numbered shown a b here now = grind (arith, numbered, placed)

  by_option : (numbered : ℕ × Place) (shown : Option Shown) → option_map (as_row t) (passing is_wanted (passing within (option_map (placed t run numbered) shown)))
      ≡ passing row_within (option_and_then (shown_row t asked.stop run numbered) shown)
  by_option numbered shown = grind (arith, by_tests, numbered, placed)

  row_of_place : (numbered : ℕ × Place) → option_map (as_row t) (passing is_wanted (passing within (place_departure t run most numbered))) ≡ passing row_within (place_row t asked.stop run most numbered)
  row_of_place numbered = grind (arith, by_boarding, by_option, numbered, passing, placed)

  pub rows_of_run : map (as_row t) (filter is_wanted (filter within (departures_by t most run))) ≡ filter row_within (filter_map (place_row t asked.stop run most) (departures_of t run.trip))
  rows_of_run =
      let places = departures_of t run.trip in
      ap (λ ds. map (as_row t) (filter is_wanted ds)) (filter_of_given within (place_departure t run most) places)
      ∙ ap (map (as_row t)) (filter_of_given is_wanted (λ item. passing within (place_departure t run most item)) places)
      ∙ map_of_given (as_row t) (λ item. passing is_wanted (passing within (place_departure t run most item))) places
      ∙ filter_map_same (λ item. option_map (as_row t) (passing is_wanted (passing within (place_departure t run most item)))) (λ item. passing row_within (place_row t asked.stop run most item)) places row_of_place
      ∙ sym (filter_of_given row_within (place_row t asked.stop run most) places)

-- ---- the board

module _ (t : Timetable) (p : ℕ) (named : List NamedFeed) (folds : List FeedFold) (asked : Asked) where
  abbrev fs : List HubFeed
  fs = schedule_feeds p named folds

  abbrev feeds : List LiveFeed
  feeds = map (live_feed t) fs

  abbrev start : ℤ
  start = pos asked.at

  abbrev end : ℤ
  end = pos (asked.at + asked.span)

  abbrev apart : AreApart number_of_feed fs
  apart = feeds_apart p named folds

  abbrev wanted : Departure → Bool
  wanted d = is_asked t asked.stop d.stop

  -- those of all runs
  abbrev all : List Departure
  all = all_in_window t fs apart asked.at start end

  abbrev all_wanted : List Departure
  all_wanted = filter wanted all

  at_one_stop : (stop : ℕ) → joined (sources_at t feeds asked stop) ≡ scheduled_there t feeds asked stop ++ flat_map (λ one. filter_map (live_departure t feeds asked.at one.number stop) (live_between t (updates_of one.fold.entities) stop start end)) fs
  at_one_stop stop = grind (arith, flat_map-map, flat_same, joined_map, slots_are)

  whole_is : SameItems (joined (sources t feeds asked)) all_wanted
  whole_is =
      let stops = stops_of t asked.stop in
      let by_stop = λ (stop : ℕ). joined (sources_at t feeds asked stop) in
      let of_stop = λ (stop : ℕ). filter (at_stop stop) all in
      same_on (joined (sources t feeds asked)) (flat_map by_stop stops) all_wanted
      (same_are (joined (sources t feeds asked)) (flat_map by_stop stops) (joined_flat (sources_at t feeds asked) stops))
      (same_on (flat_map by_stop stops) (flat_map of_stop stops) all_wanted
      (same_flat by_stop of_stop stops
      (λ stop.
      let parts = scheduled_there t feeds asked stop ++ flat_map (λ (one : HubFeed). filter_map (live_departure t feeds asked.at one.number stop) (live_between t (updates_of one.fold.entities) stop start end)) fs in
      same_on (by_stop stop) parts (of_stop stop) (same_are (by_stop stop) parts (at_one_stop stop)) (here_is t fs apart asked.at start end stop)))
      (spread (λ (d : Departure). d.stop) (is_asked t asked.stop) stops (stops_once t asked.stop) all))

  -- no two of them tie
  once : (z : Departure) → count_by (tied z) all_wanted ≤ 1
  once z =
      let of_run = window_of t fs apart asked.at start end in
      omega (
        arith,
        count-filter wanted (tied z) all,
        count_fewer (tied z) (λ d. wanted d && tied z d) (λ d e. (and_parts (wanted d) (tied z d) e).1) all,
        once_flat (tied z) (is_this t z.run) of_run (λ run other. none_of run other) (λ run. one_of run) (all_runs t) (run_once t z.run),
      )
    where
      few_window : (run : Run) → count_by (tied z) (filter (in_window (pos asked.at) (pos (asked.at + asked.span))) (departures_by t (best t (schedule_feeds p named folds) (feeds_apart p named folds) asked.at (pos asked.at) (pos (asked.at + asked.span)) run) run))
          ≤ count_by (tied z) (departures_by t (best t (schedule_feeds p named folds) (feeds_apart p named folds) asked.at (pos asked.at) (pos (asked.at + asked.span)) run) run)
      few_window run =
          let ds = departures_by t (best t (schedule_feeds p named folds) (feeds_apart p named folds) asked.at (pos asked.at) (pos (asked.at + asked.span)) run) run in
          let in_it = in_window (pos asked.at) (pos (asked.at + asked.span)) in
          omega (arith, count-filter in_it (tied z) ds, count_fewer (tied z) (λ d. in_it d && tied z d) (λ d e. (and_parts (in_it d) (tied z d) e).1) ds)

      none_of : (run : Run) → is_this t z.run run ≡ false → count_by (tied z) (window_of t (schedule_feeds p named folds) (feeds_apart p named folds) asked.at (pos asked.at) (pos (asked.at + asked.span)) run) ≡ 0
      none_of run other =
          omega (arith, few_window run, other_run t (best t (schedule_feeds p named folds) (feeds_apart p named folds) asked.at (pos asked.at) (pos (asked.at + asked.span)) run) run z other)

      one_of : (run : Run) → count_by (tied z) (window_of t (schedule_feeds p named folds) (feeds_apart p named folds) asked.at (pos asked.at) (pos (asked.at + asked.span)) run) ≤ 1
      one_of run =
          omega (arith, few_window run, one_of_run t (best t (schedule_feeds p named folds) (feeds_apart p named folds) asked.at (pos asked.at) (pos (asked.at + asked.span)) run) run z)

  board_is : departures_of_board t feeds asked ≡ ordered departure_cmp all_wanted
  unfolding departures_of_board
  board_is =
      sym
      (once_ordered departures_alike.same departures_alike.self departures_alike.exact departure_total all_wanted (joined (sources t feeds asked))
      (same_back (joined (sources t feeds asked)) all_wanted whole_is) once)

  -- ---- of the timetable

  abbrev OfRun : Departure → Type 0
  OfRun d = (d.run.trip < length t.trips) × (d.run.day < length t.bases)

  are_runs : AllByRecursion (λ run. is_run t run ≡ true) (all_runs t)
  unfolding all_runs
  are_runs = all_passing (is_run t) _

  run_there : (run : Run) → is_run t run ≡ true → (d : Departure) → d.run ≡ run → OfRun d
  run_there run runs d own = (subst (λ (r : Run). r.trip < length t.trips) (sym own) (run_trip t run runs), subst (λ (r : Run). r.day < length t.bases) (sym own) (run_has t run runs).day)

  all_of_runs : AllByRecursion OfRun all
  all_of_runs =
      let of_run = window_of t fs apart asked.at start end in
      all_flat (λ run. is_run t run ≡ true) OfRun of_run
      (λ run runs.
      let most = best t fs apart asked.at start end run in
      all_filter OfRun (in_window start end) (departures_by t most run)
      (all_weaker (λ (d : Departure). d.run ≡ run) OfRun (run_there run runs) (departures_by t most run) (all_of_run t most run)))
      (all_runs t) are_runs

  stop_within : asked.stop < length t.stops → (stop : ℕ) → is_asked t asked.stop stop ≡ true → stop < length t.stops
  stop_within within stop is = grind (arith, eqb-true, named_within, nat_tests)

  all_there : asked.stop < length t.stops → AllByRecursion (IsThere t) all_wanted
  all_there within = grind (arith, all_filtered, all_of_runs, all_weaker, stop_within)

  -- ---- rows

  abbrev updates : List Update
  updates = updates_at p asked.at named folds

  rows_are : map (as_row t) all_wanted ≡ filter (is_within asked.at asked.span) (flat_map (run_rows t asked.stop updates) (all_runs t))
  unfolding run_rows
  rows_are =
      let of_run = window_of t fs apart asked.at start end in
      ap (map (as_row t)) (filter_flat wanted of_run (all_runs t))
      ∙ map_flat (as_row t) (λ run. filter wanted (of_run run)) (all_runs t)
      ∙ flat_same (λ run. map (as_row t) (filter wanted (of_run run))) (λ run. filter (is_within asked.at asked.span) (run_rows t asked.stop updates run))
      (λ run. rows_of_run t asked (best t fs apart asked.at start end run) run) (all_runs t)
      ∙ sym (filter_flat (is_within asked.at asked.span) (run_rows t asked.stop updates) (all_runs t))

  module _ (sound : IsTimetable t) (within : asked.stop < length t.stops) where
    board_rows : map (as_row t) (departures_of_board t feeds asked) ≡ ordered row_cmp (filter (is_within asked.at asked.span) (flat_map (run_rows t asked.stop updates) (all_runs t)))
    board_rows = grind (arith, all_there, board_is, map_ordered, rows_are, rows_order)

    board_there : All (IsThere t) (departures_of_board t feeds asked)
    board_there =
        let P : List Departure → Type 0 = λ ds. All (IsThere t) ds in
        subst P (sym board_is)
        (All-from_recursion (IsThere t) (ordered departure_cmp all_wanted) (each_ordered (as_row t) departure_cmp row_cmp (IsThere t) all_wanted (all_there within)))

-- ---- what the call says

-- the rows of the departures are those that are defined
pub rows_said : (t : Timetable) → IsTimetable t → (feeds : List LiveFeed) (asked : Asked) → asked.stop < length t.stops → (p : ℕ) (named : List NamedFeed) (folds : List FeedFold) → feeds ≡ map (live_feed t) (schedule_feeds p named folds)
    → map (as_row t) (departures_of_board t feeds asked) ≡ ordered row_cmp (filter (is_within asked.at asked.span) (flat_map (run_rows t asked.stop (updates_at p asked.at named folds)) (all_runs t)))
rows_said t sound given asked within p named folds are = grind (arith, board_rows)

-- and they are of the timetable
pub all_said : (t : Timetable) → IsTimetable t → (feeds : List LiveFeed) (asked : Asked) → asked.stop < length t.stops → AreLive t feeds → All (IsThere t) (departures_of_board t feeds asked)
all_said t sound given asked within live = grind (arith, board_there)
