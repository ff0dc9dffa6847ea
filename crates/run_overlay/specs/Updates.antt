-- What the trip updates of one feed are about.
use Rattle.std.specs.Prelude.{ℕ, Option, Some, None, List, []}
use Rattle.std.specs.List.{filter_map}
use Rattle.feed_defs.specs.declared.history.Stored.{Stored}
use Rattle.feed_defs.specs.History.{Change}
use Rattle.sched_types.specs.declared.plans.NamedFeed.{NamedFeed}
use Rattle.sched_types.specs.Timetable.{Timetable}
use Rattle.trip_match_defs.specs.declared.found.Found.{Found}
use Rattle.trip_match_defs.specs.declared.found.Found.TheVariants as found
use Rattle.trip_match_defs.specs.Matching.{match_of}
use Rattle.board_defs.specs.Choice.{Update, update_in}
use Rattle.board_defs.specs.Feeds.{HeldEntity}
use Rattle.run_overlay.specs.declared.mention.About.{About}
use Rattle.run_overlay.specs.declared.mention.About.TheVariants as about
use Rattle.run_overlay.specs.declared.mention.Mention.{Mention}

-- ---- the updates of a feed by itself, whatever their age

-- a feed as the only one of a hub, in which no update is too old
abbrev pub feed_alone : NamedFeed
feed_alone = record { name = []; plan = 0; max_age = 0 }

abbrev pub held_alone : Stored → HeldEntity
held_alone stored = record { number = 0; feed = feed_alone; stored = stored }

-- the trip update of an entity, if it has one (GTFS Realtime, FeedEntity, trip_update)
abbrev pub update_alone : Stored → Option Update
update_alone stored = update_in (held_alone stored)

-- those of all that a feed holds, by the ids of their entities
unfoldable pub updates_of : List Change → List Update
updates_of entities = filter_map (λ change. update_alone change.1) entities

-- ---- what one is about (GTFS Realtime, TripDescriptor)

-- a run, at the stamp of the update; an added trip; or nothing that is known
abbrev pub about_found : ℕ → Found → About
about_found stamp (found.Run run) = about.Run (record { run = run; stamp = stamp })
about_found stamp found.Added = about.Added
about_found stamp (found.NoMatch why) = about.Nothing

abbrev pub about_update : Timetable → Option Update → About
about_update t None = about.Nothing
about_update t (Some u) = about_found u.stamp (match_of t u.update.trip u.stamp)

-- what an entity's trip update is about, if it has one
abbrev pub about_stored : Timetable → Stored → About
about_stored t stored = about_update t (update_alone stored)

-- the same of what is held under an id, if anything is
abbrev pub about_held : Timetable → Option Stored → About
about_held t None = about.Nothing
about_held t (Some stored) = about_stored t stored

-- the run with the stamp, if it is about a run
abbrev pub mention_in : About → Option Mention
mention_in (about.Run mention) = Some mention
mention_in about.Added = None
mention_in about.Nothing = None
