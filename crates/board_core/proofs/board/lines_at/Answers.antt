-- The departures of runs and the rows of added trips give the lines of the board.
use Rattle.std.proofs.Common.{List, filter, map, ap, sym, subst, ◌∙◌}
use Rattle.std.specs.List.{All, filter_map, flat_map}
use Rattle.std.specs.Option.{option_map}
use Rattle.stop_index.specs.Index.{index_of}
use Rattle.sched_types.specs.Runs.{all_runs}
use Rattle.board_defs.specs.Choice.{is_added_update, update_at, updates_at}
use Rattle.board_defs.specs.Feeds.{held_in}
use Rattle.board_defs.specs.Rows.{is_within, run_rows}
use Rattle.board_defs.specs.Views.{folds_of}
use Rattle.feed_view.specs.Kept.{IsOver}
use Rattle.board_parts.proofs.Appended.{become_same}
use Rattle.board_added.specs.Added as others
use Rattle.board_core.specs.declared.feeds.ScheduleFeed.{ScheduleFeed}
use Rattle.board_core.specs.FeedsOfSchedule.{hub_feed_of}
use Rattle.board_core.proofs.FirstRows.{rows_same, board_is}
use Rattle.board_core.proofs.LiveFeeds.{live_slice, some_same}
use Rattle.board_core.proofs.board.lines_at.Goals as goal

pub added_updates-requires : goal.added_updates-requires
added_updates-requires c =
    let P : List ScheduleFeed → Type 0 = λ feeds. All (λ (one : ScheduleFeed). IsOver c.args.plan.now one.view.now) feeds in
    record { over = subst P (sym c.as_slice-2.ensures.value) (c.in_ok-feeds.ensures.over c.args.plan.now c.requires.plan) }

pub departures-requires-clause-index : goal.departures-requires-clause-index
departures-requires-clause-index c = some_same (sym c.index-index.ensures ∙ ap (option_map index_of) c.requires.plan)

pub departures-requires-clause-live : goal.departures-requires-clause-live
departures-requires-clause-live c = record {
  plan = c.args.query.now.plan;
  named = c.args.view.now.plans.feeds;
  folds = folds_of c.args.view.now;
  are =
      live_slice c.args.plan.now c.in_ok-feeds.feeds.items c.as_slice.result.now c.in_ok-live.live.items c.as_slice-4.result.now _ c.as_slice-4.ensures.value c.in_ok-live.ensures c.as_slice.ensures.value
      (c.in_ok-feeds.ensures.over c.args.plan.now c.requires.plan) c.in_ok-feeds.ensures.list;
}

pub first_of_both-requires-clause-added : goal.first_of_both-requires-clause-added
first_of_both-requires-clause-added c =
    let plan = c.args.plan.now in
    (become_same (others.as_row plan) (others.IsThere plan) c.as_slice-5.result.now c.in_ok-added.added.items _ c.as_slice-5.ensures.value c.in_ok-added.ensures).there

pub returns : goal.returns
returns c =
    let plan = c.args.plan.now in
    let query = c.args.query.now in
    let updates = updates_at query.plan query.at c.args.view.now.plans.feeds (folds_of c.args.view.now) in
    rows_same c.first_of_both.result (λ lines. lines.items) plan c.in_ok-runs.runs
    (filter (is_within query.at query.span) (flat_map (run_rows plan c.args.stop updates) (all_runs plan))) _ (map (others.as_row plan) c.as_slice-5.result.now) query.limit
    (c.in_ok-runs.ensures.said query.plan c.args.view.now.plans.feeds (folds_of c.args.view.now)
    (live_slice plan c.in_ok-feeds.feeds.items c.as_slice.result.now c.in_ok-live.live.items c.as_slice-4.result.now _ c.as_slice-4.ensures.value c.in_ok-live.ensures c.as_slice.ensures.value
    (c.in_ok-feeds.ensures.over plan c.requires.plan) c.in_ok-feeds.ensures.list))
    (board_is plan c.args.stop query updates c.as_slice-3.result.now c.as_slice-5.result.now
    (c.as_slice-3.ensures.value
    ∙ c.in_ok-updates.ensures
    ∙ ap (λ feeds. filter (is_added_update plan) (filter_map (update_at query.at) (held_in feeds))) (ap (map hub_feed_of) c.as_slice-2.ensures.value ∙ c.in_ok-feeds.ensures.list))
    (ap (map (others.as_row plan)) c.as_slice-5.ensures.value ∙ c.in_ok-added.ensures.become))
    c.first_of_both.ensures
