-- What the queues of a board come to.
use Rattle.std.proofs.Common.{◌≡◌, ℕ, ◌<◌, List, length, map, filter, ap, subst, sym, ◌∙◌}
use Rattle.std.specs.List.{All, flat_map}
use Rattle.sched_types.specs.declared.plans.NamedFeed.{NamedFeed}
use Rattle.sched_types.specs.Runs.{all_runs}
use Rattle.sched_types.specs.Timetable.{IsTimetable, Timetable}
use Rattle.order.specs.Order.{ordered}
use Rattle.board_defs.specs.Choice.{updates_at}
use Rattle.board_defs.specs.Feeds.{schedule_feeds}
use Rattle.board_defs.specs.Fold.{FeedFold}
use Rattle.board_defs.specs.Rows.{is_within, row_cmp, run_rows}
use Rattle.run_departures.specs.declared.asked.Asked.{Asked}
use Rattle.run_departures.specs.declared.departure.Departure.{Departure}
use Rattle.run_departures.specs.Bids.{LiveFeed, live_feed}
use Rattle.run_departures.specs.Board.{AreLive, departures_of_board, sources}
use Rattle.run_departures.specs.Departures.{IsThere, as_row, departure_cmp}
use Rattle.run_departures.specs.Merge.{joined}
use Rattle.run_departures.specs.Queued.{AreRising}
use Rattle.run_departures.proofs.Rising.{sources_rise}
use Rattle.run_departures.proofs.Whole.{all_said, rows_said}

module _ (t : Timetable) (sound : IsTimetable t) (feeds : List LiveFeed) (asked : Asked) (within : asked.stop < length t.stops) (live : AreLive t feeds) (queues : List (List Departure)) (are : queues ≡ sources t feeds asked) where
  pub queues_rise : AreRising queues
  queues_rise = subst AreRising (sym are) (sources_rise t feeds asked live)

  pub list_is : ordered departure_cmp (joined queues) ≡ departures_of_board t feeds asked
  unfolding departures_of_board
  list_is = ap (λ qs. ordered departure_cmp (joined qs)) are

  pub rows_are : (p : ℕ) (named : List NamedFeed) (folds : List FeedFold) → feeds ≡ map (live_feed t) (schedule_feeds p named folds)
      → map (as_row t) (ordered departure_cmp (joined queues)) ≡ ordered row_cmp (filter (is_within asked.at asked.span) (flat_map (run_rows t asked.stop (updates_at p asked.at named folds)) (all_runs t)))
  rows_are p named folds of_hub = ap (map (as_row t)) list_is ∙ rows_said t sound feeds asked within p named folds of_hub

  pub all_there : All (IsThere t) (ordered departure_cmp (joined queues))
  all_there = let P : List Departure → Type 0 = λ ds. All (IsThere t) ds in subst P (sym list_is) (all_said t sound feeds asked within live)
