-- What an overlay keeps of a feed's updates.
use Rattle.std.specs.Prelude.{◌≡◌, ℕ, ◌&&◌, Option, Some, None, List, [], map, filter, ℤ, T}
use Rattle.std.specs.List.{filter_map, flat_map}
use Rattle.std.specs.Option.{option_map}
use Rattle.std.specs.FinMap.{find, is_sorted}
use Rattle.feed_defs.specs.declared.history.Stored.{Stored}
use Rattle.feed_defs.specs.History.{Change}
use Rattle.sched_types.specs.declared.rows.Run.{Run}
use Rattle.sched_types.specs.Timetable.{Timetable}
use Rattle.board_defs.specs.Choice.{Update, chosen}
use Rattle.sched_types.specs.Runs.{all_runs}
use Rattle.run_overlay.specs.declared.candidate.Candidate.{Candidate}
use Rattle.run_overlay.specs.declared.link.Link.{Link}
use Rattle.run_overlay.specs.declared.live_run.LiveRun.{LiveRun}
use Rattle.run_overlay.specs.declared.mention.About.{About}
use Rattle.run_overlay.specs.declared.mention.About.TheVariants as about
use Rattle.run_overlay.specs.declared.row.LiveRow.{LiveRow}
use Rattle.run_overlay.specs.declared.row.RowKey.{RowKey}
use Rattle.run_overlay.specs.declared.slot.LiveSlot.{LiveSlot}
use Rattle.keyed_lists.specs.Keyed.{by_key}
use Rattle.run_overlay.specs.Keys.{CandidateKey, id_cmp, link_key, stored_key, candidate_key, candidate_cmp, run_cmp, live_run_key, row_key, row_cmp}
use Rattle.run_overlay.specs.Live.{is_at, is_between, live_rows, rows_by}
use Rattle.run_overlay.specs.Updates.{about_stored, mention_in, updates_of}

-- ---- what updates are about

-- each update about a run, with the id of its entity
abbrev pub link_of : Timetable → Change → Option Link
link_of t change =
    option_map (λ mention. record { id = change.0; mention = mention })
    (mention_in (about_stored t change.1))

abbrev pub candidate_of : Timetable → Change → Option Candidate
candidate_of t change =
    option_map (λ mention. record { mention = mention; id = change.0 })
    (mention_in (about_stored t change.1))

-- an entity whose update is about an added trip
abbrev pub if_added : About → Stored → Option Stored
if_added (about.Run mention) stored = None
if_added about.Added stored = Some stored
if_added about.Nothing stored = None

abbrev pub added_of : Timetable → Change → Option Stored
added_of t change = if_added (about_stored t change.1) change.1

-- updates about runs by their ids; the same by their runs, those of one run as they count, the one
-- that counts first; and the entities with updates of added trips, by their ids
pub record Mentions : Type 0 where
  pub links : List (List ℕ × Link)
  pub candidates : List (CandidateKey × Candidate)
  pub added : List Change

unfoldable pub mentions_of : Timetable → List Change → Mentions
mentions_of t entities = record {
  links = by_key id_cmp link_key (filter_map (link_of t) entities);
  candidates = by_key candidate_cmp candidate_key (filter_map (candidate_of t) entities);
  added = by_key id_cmp stored_key (filter_map (added_of t) entities);
}

-- ---- what they come to

-- a run with the update that counts for it, by the id of its entity and its stamp, and its
-- departures
abbrev pub run_by : Timetable → Run → Update → LiveRun
run_by t run u =
    record { run = run; id = u.id; stamp = u.stamp; rows = rows_by t run (Some u) }

abbrev pub live_run : Timetable → List Update → Run → Option LiveRun
live_run t updates run = option_map (run_by t run) (chosen t updates run)

-- the runs with such an update, and all their departures, by stops
pub record LiveKept : Type 0 where
  pub runs : List (Run × LiveRun)
  pub rows : List (RowKey × LiveRow)

unfoldable pub live_of : Timetable → List Update → LiveKept
live_of t updates = record {
  runs = by_key run_cmp live_run_key (filter_map (live_run t updates) (all_runs t));
  rows = by_key row_cmp row_key (flat_map (live_rows t updates) (all_runs t));
}

-- ---- the overlay

pub record FeedOverlay : Type 0 where
  pub mentions : Mentions
  pub live : LiveKept

-- the overlay of all that a feed holds
unfoldable pub overlay_of : Timetable → List Change → FeedOverlay
overlay_of t entities =
    record { mentions = mentions_of t entities; live = live_of t (updates_of entities) }

-- that of a feed that holds nothing
abbrev pub no_mentions : Mentions
no_mentions = record { links = []; candidates = []; added = [] }

abbrev pub nothing_live : LiveKept
nothing_live = record { runs = []; rows = [] }

abbrev pub no_overlay : FeedOverlay
no_overlay = record { mentions = no_mentions; live = nothing_live }

-- ---- what is read in it

-- the update that counts for a run: the id of its entity, and its stamp
abbrev pub told_run : LiveRun → List ℕ × ℕ
told_run live = (live.id, live.stamp)

abbrev pub told_update : Update → List ℕ × ℕ
told_update u = (u.id, u.stamp)

abbrev pub chosen_in : FeedOverlay → Run → Option (List ℕ × ℕ)
chosen_in overlay run =
    option_map told_run (find run_cmp run overlay.live.runs)

-- the departures at a stop that are expected from one instant on and before another
abbrev pub slots_in : FeedOverlay → ℕ → ℤ → ℤ → List LiveSlot
slots_in overlay stop start end =
    map (λ entry. entry.1.slot)
    (filter (λ entry. is_at stop entry.1 && is_between start end entry.1.slot) overlay.live.rows)

-- ---- tables

-- entities by their own ids, which rise, so that each is held once
pub record IsTable (entities : List Change) : Type 0 where
  pub rising : T (is_sorted id_cmp entities)
  pub keyed : map (λ stored. (stored.entity.id, stored)) (map (λ change. change.1) entities)
      ≡ entities
