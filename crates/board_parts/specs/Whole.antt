-- What is kept of a hub next to what it shows: the indexes of its timetables, and what its feeds'
-- updates come to.
use Rattle.std.specs.Prelude.{◌≡◌, ℕ, Option, Some, List, map, slice_get, slice_index_or}
use Rattle.std.specs.Option.{option_and_then}
use Rattle.sched_types.specs.Schedules.{Schedules}
use Rattle.sched_types.specs.Timetable.{Timetable}
use Rattle.stop_index.specs.Index.{Index, index_of}
use Rattle.board_defs.specs.Rows.{timetable_in}
use Rattle.board_defs.specs.Views.{HubKept, IsHub}
use Rattle.feed_view.specs.Kept.{FeedSeen, IsOver, nothing_seen}

-- one index for each timetable
abbrev pub indexes_of : Schedules → List Index
indexes_of schedules = map (λ named. index_of named.plan) schedules.plans

-- the timetable of the feed of a number, if there is one
abbrev pub timetable_of : Schedules → ℕ → Option Timetable
timetable_of schedules feed =
    option_and_then (λ named. timetable_in schedules named.plan) (slice_get schedules.feeds feed)

-- what the updates of each feed come to is kept for the feed's timetable
pub record AreOver (schedules : Schedules) (seen : List FeedSeen) : Type 0 where
  pub over : (feed : ℕ) (t : Timetable) → timetable_of schedules feed ≡ Some t
      → IsOver t (slice_index_or seen feed nothing_seen)

-- what is true of all that is kept of a hub
pub record IsWhole (indexes : List Index) (seen : List FeedSeen) (kept : HubKept) : Type 0 where
  pub hub : IsHub kept
  pub indexed : indexes ≡ indexes_of kept.plans
  pub over : AreOver kept.plans seen
