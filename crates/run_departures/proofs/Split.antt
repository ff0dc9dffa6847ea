-- All that the sources of the asked stops have, run by run.
use Rattle.std.proofs.lemmas.Bool.Decides.{nat_tests}
use Rattle.std.proofs.Common.{◌≡◌, ℕ, true, cond, nat_eq, Option, Some, None, List, [], ◌++◌, map, filter, ℤ, refl, sym, ap, ◌∙◌, append-nil, arith}
use Rattle.std.specs.Prelude.{IfSome}
use Rattle.std.specs.List.{AllByRecursion, filter_map, flat_map}
use Rattle.std.specs.Option.{option_map}
use Rattle.sched_types.specs.declared.rows.Run.{Run}
use Rattle.sched_types.specs.Runs.{all_runs}
use Rattle.sched_types.specs.Timetable.{Timetable}
use Rattle.order.specs.Order.{greatest, ordered}
use Rattle.order.proofs.Counts.{one, SameItems, same_are, same_on, same_flat}
use Rattle.order.proofs.Ordered.{ordered_items}
use Rattle.order.proofs.OrderedMap.{each_greatest}
use Rattle.stop_index.specs.Slots as times
use Rattle.stop_index.specs.Slots.{slots_between}
use Rattle.stop_index.proofs.Instants.{slot_total}
use Rattle.std.specs.Cmp.{IsTotalOrder}
use Rattle.std.proofs.lemmas.Cmp.{on_total, then_total, int_cmp_total, nat_cmp_total}
use Rattle.run_overlay.specs.declared.slot.LiveSlot.{LiveSlot}
use Rattle.board_defs.specs.Choice.{Update, choice_cmp, chosen, update_at}
use Rattle.board_defs.specs.Feeds.{HubFeed, held_in}
use Rattle.run_overlay.specs.Live as live
use Rattle.run_overlay.specs.Live.{live_between, live_rows}
use Rattle.run_overlay.specs.Updates.{updates_of}
use Rattle.run_departures.specs.declared.departure.Departure.{Departure}
use Rattle.run_departures.specs.Bids.{Bid, LiveFeed, live_feed, winning}
use Rattle.run_departures.specs.Sources.{live_departure, scheduled_departure}
use Rattle.run_departures.proofs.Apart.{AreApart, of_number, one_speaks}
use Rattle.run_departures.proofs.Fusion.{given_flat, filter_flat, map_flat, flat_same, nothing_flat}
use Rattle.run_departures.proofs.Greatests.{passing}
use Rattle.run_departures.proofs.Placed.{at_stop, departures_by, in_window, live_by, live_other, live_untold, live_won, scheduled_of_run, scheduled_told, scheduled_untold, there_by}
use Rattle.run_departures.proofs.Spread.{gathered, same_append, same_given}
use Rattle.run_departures.proofs.Winners.{bid_from, best_of, best_of_all, counting, number_of_feed, own_number, renumbered, winner_is}

pub live_total : IsTotalOrder live.slot_cmp
live_total =
    then_total (on_total (λ (slot : LiveSlot). slot.at) int_cmp_total)
    (then_total (on_total (λ (slot : LiveSlot). slot.run.trip) nat_cmp_total)
    (then_total (on_total (λ (slot : LiveSlot). slot.run.day) nat_cmp_total) (on_total (λ (slot : LiveSlot). slot.place) nat_cmp_total)))

-- ---- the departures of a run are those of its sources

module _ (t : Timetable) (fs : List HubFeed) (apart : AreApart number_of_feed fs) (at : ℕ) (start end : ℤ) where
  abbrev feeds : List LiveFeed
  feeds = map (live_feed t) fs

  -- the update that counts for a run
  abbrev pub best : Run → Option Update
  best run = chosen t (filter_map (update_at at) (held_in fs)) run

  module _ (stop : ℕ) (run : Run) where
    abbrev timely : List Departure
    timely = scheduled_of_run t feeds at start end stop run

    abbrev moved : HubFeed → List Departure
    moved one = live_by t feeds at start end stop run one.number (chosen t (updates_of one.fold.entities) run)

    -- what an update tells, if there is one
    abbrev told_by : Option Update → List Departure
    told_by None = []
    told_by (Some u) = there_by t (Some u) run start end stop

    abbrev rows_of : HubFeed → List Departure
    rows_of one = told_by (chosen t (updates_of one.fold.entities) run)

    won_by : (one : HubFeed) (won : ℕ) (given : Option Update) → winning at feeds run ≡ Some won → nat_eq one.number won ≡ true → live_by t feeds at start end stop run one.number given ≡ told_by given
    won_by one won given wins own = grind (arith, live_won, one, nat_tests)

    moved_is : (won : ℕ) → winning at feeds run ≡ Some won → (one : HubFeed) → moved one ≡ cond (nat_eq one.number won) (rows_of one) []
    moved_is won wins one = grind (arith, live_by, live_other, one, won_by, nat_tests)

    -- what a feed says that has the update
    tells_of : (one : HubFeed) (given : Option Update) (u : Update) → passing (counting t at run one) (option_map (renumbered one.number) given) ≡ Some u → told_by given ≡ told_by (Some u)
    tells_of one given u is = grind (arith, counting, one, renumbered)

    tells : (one : HubFeed) (u : Update) → best_of t at run one ≡ Some u → rows_of one ≡ told_by (Some u)
    tells one u is = tells_of one (chosen t (updates_of one.fold.entities) run) u is

    -- the feed whose update counts has all, and no other has any
    abbrev Says : Update → Type 0
    Says u = flat_map (of_number number_of_feed rows_of u.feed) fs ≡ told_by (Some u)

    all_say : AllByRecursion Says (filter_map (best_of t at run) fs)
    all_say = one_speaks number_of_feed (λ (u : Update). u.feed) (best_of t at run) (own_number t at run) rows_of (λ u. told_by (Some u)) tells fs apart

    says_most : (most : Option Update) (u : Update) → most ≡ Some u → IfSome most Says → Says u
    says_most most u is each = grind arith

    of_winner : (u : Update) → best run ≡ Some u → Says u
    of_winner u is =
        says_most (greatest choice_cmp (filter_map (best_of t at run) fs)) u (sym (best_of_all t at run fs) ∙ is)
        (each_greatest choice_cmp Says (filter_map (best_of t at run) fs) all_say)

    -- ---- together

    abbrev pub of_sources : List Departure
    of_sources = timely ++ flat_map moved fs

    wins_by : (most : Option Update) → best run ≡ most → winning at feeds run ≡ option_map (λ bid. bid.number) (option_map (bid_from t at run) most)
    wins_by most is = ap (option_map (λ (bid : Bid). bid.number)) (winner_is t at run fs ∙ ap (option_map (bid_from t at run)) is)

    by_best : (most : Option Update) → best run ≡ most → of_sources ≡ there_by t most run start end stop
    by_best None is =
        let untold : winning at feeds run ≡ None = wins_by None is in
        ap (λ ds. timely ++ ds) (nothing_flat moved (λ one. live_untold t feeds at start end stop run one.number (chosen t (updates_of one.fold.entities) run) untold) fs)
        ∙ append-nil timely
        ∙ scheduled_untold t feeds at start end stop run untold
    by_best (Some u) is =
        let wins : winning at feeds run ≡ Some u.feed = wins_by (Some u) is in
        ap (λ ds. ds ++ flat_map moved fs) (scheduled_told t feeds at start end stop run u.feed wins)
        ∙ flat_same moved (of_number number_of_feed rows_of u.feed) (moved_is u.feed wins) fs
        ∙ of_winner u is

    pub sources_of_run : of_sources ≡ there_by t (best run) run start end stop
    sources_of_run = by_best (best run) refl

  -- ---- a stop

  abbrev pub window_of : Run → List Departure
  window_of run = filter (in_window start end) (departures_by t (best run) run)

  abbrev pub all_in_window : List Departure
  all_in_window = flat_map window_of (all_runs t)

  module _ (stop : ℕ) where
    abbrev scheduled_here : List Departure
    scheduled_here = filter_map (scheduled_departure t feeds at stop) (slots_between t stop start end)

    scheduled_runs : SameItems scheduled_here (flat_map (timely stop) (all_runs t))
    unfolding slots_between
    scheduled_runs =
        let wanted = filter (times.is_between start end) (times.slots_at t stop) in
        same_on scheduled_here (filter_map (scheduled_departure t feeds at stop) wanted) (flat_map (timely stop) (all_runs t))
        (same_given (scheduled_departure t feeds at stop) (ordered times.slot_cmp wanted) wanted (ordered_items slot_total wanted))
        (same_are (filter_map (scheduled_departure t feeds at stop) wanted) (flat_map (timely stop) (all_runs t))
        (ap (filter_map (scheduled_departure t feeds at stop)) (filter_flat (times.is_between start end) (times.run_slots t stop) (all_runs t))
        ∙ given_flat (scheduled_departure t feeds at stop) (λ run. filter (times.is_between start end) (times.run_slots t stop run)) (all_runs t)))

    abbrev live_here : HubFeed → List Departure
    live_here one = filter_map (live_departure t feeds at one.number stop) (live_between t (updates_of one.fold.entities) stop start end)

    live_rows_flat : (one : HubFeed) → filter_map (live_departure t feeds at one.number stop) (filter (live.is_between start end) (live.slots_at t (updates_of one.fold.entities) stop)) ≡ flat_map (λ run. moved stop run one) (all_runs t)
    unfolding live_rows
    live_rows_flat one = grind (arith, filter_flat, given_flat, map_flat, one)

    live_runs : (one : HubFeed) → SameItems (live_here one) (flat_map (λ run. moved stop run one) (all_runs t))
    unfolding live_between
    live_runs one = grind (arith, live_rows_flat, live_total, one, ordered_items, same_are, same_given, same_on)

    pub here_is : SameItems (scheduled_here ++ flat_map live_here fs) (filter (at_stop stop) all_in_window)
    here_is =
        let by_sources = flat_map (timely stop) (all_runs t) ++ flat_map (λ one. flat_map (λ run. moved stop run one) (all_runs t)) fs in
        same_on (scheduled_here ++ flat_map live_here fs) by_sources (filter (at_stop stop) all_in_window)
        (same_append scheduled_here (flat_map (timely stop) (all_runs t)) (flat_map live_here fs) (flat_map (λ one. flat_map (λ run. moved stop run one) (all_runs t)) fs)
        scheduled_runs (same_flat live_here (λ one. flat_map (λ run. moved stop run one) (all_runs t)) fs live_runs))
        (same_on by_sources (flat_map (of_sources stop) (all_runs t)) (filter (at_stop stop) all_in_window)
        (gathered (timely stop) (λ one run. moved stop run one) fs (all_runs t))
        (same_are (flat_map (of_sources stop) (all_runs t)) (filter (at_stop stop) all_in_window)
        (flat_same (of_sources stop) (λ run. filter (at_stop stop) (window_of run)) (sources_of_run stop) (all_runs t)
        ∙ sym (filter_flat (at_stop stop) window_of (all_runs t)))))
