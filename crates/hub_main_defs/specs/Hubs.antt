-- The hub that a configuration describes.
use Rattle.std.specs.Prelude.{ℕ, List, [], ◌∷◌, map, Result, Ok}
use Rattle.hub_outside.specs.Files.{file_at}
use Rattle.sched_types.specs.declared.plans.NamedFeed.{NamedFeed}
use Rattle.sched_types.specs.declared.plans.NamedPlan.{NamedPlan}
use Rattle.sched_types.specs.Schedules.{Schedules}
use Rattle.sched_types.specs.Timetable.{Timetable}
use Rattle.hub_config_defs.specs.declared.conf.FeedConf.{FeedConf}
use Rattle.hub_config_defs.specs.declared.conf.HubConf.{HubConf}
use Rattle.hub_config_defs.specs.declared.conf.ScheduleConf.{ScheduleConf}
use Rattle.answer_defs.specs.Steps.{◌>>=◌}
use Rattle.hub_main_defs.specs.Checks.{conf_in, timetables}

-- the timetables of schedules, under their names and prefixes
abbrev pub named_plans : List ScheduleConf → List Timetable → List NamedPlan
named_plans (schedule ∷ schedules) (t ∷ ts) =
    record { name = schedule.name; prefix = schedule.prefix; plan = t } ∷ named_plans schedules ts
named_plans [] ts = []
named_plans (schedule ∷ schedules) [] = []

-- a feed, of the schedule of its number
abbrev pub named_feed : FeedConf → NamedFeed
named_feed feed = record { name = feed.name; plan = feed.schedule; max_age = feed.max_age }

-- the schedules and feeds of a configuration, in its order
abbrev pub schedules_of : HubConf → List Timetable → Schedules
schedules_of conf ts = record {
  plans = named_plans conf.schedules ts;
  feeds = map named_feed conf.feeds;
}

-- those of the configuration at a path, or the line of the first fault: the configuration counts
-- first, and then its timetables in order
unfoldable pub schedules_at : List (List ℕ × List ℕ) → List ℕ → Result Schedules (List ℕ)
schedules_at files path = do
  conf ← conf_in (file_at files path)
  ts ← timetables files conf.schedules
  Ok (schedules_of conf ts)

-- the same, and the configuration beside them
unfoldable pub configured_at : List (List ℕ × List ℕ) → List ℕ
    → Result (HubConf × Schedules) (List ℕ)
configured_at files path = do
  conf ← conf_in (file_at files path)
  ts ← timetables files conf.schedules
  Ok (conf, schedules_of conf ts)
