-- The timetables and the feeds of one hub.
use Rattle.std.specs.Prelude.{◌≡◌, ℕ, ◌<◌, ◌≤◌, Some, List, length, slice_get, IsTrue}
use Rattle.text_defs.specs.Names.{is_name}
use Rattle.sched_types.specs.declared.plans.NamedPlan.{NamedPlan}
use Rattle.sched_types.specs.declared.plans.NamedFeed.{NamedFeed}

-- the timetables and the feeds, which are numbered by their places in these lists
pub record Schedules : Type 0 where
  pub plans : List NamedPlan
  pub feeds : List NamedFeed

-- up to 8 timetables and up to 64 feeds of these, with names of that form, no two of which are one
pub record AreSchedules (s : Schedules) : Type 0 where
  pub few_plans : length s.plans ≤ 8
  pub few_feeds : length s.feeds ≤ 64
  pub plan_named : (i : ℕ) (plan : NamedPlan) → slice_get s.plans i ≡ Some plan
      → IsTrue (is_name plan.name)
  pub feed_named : (i : ℕ) (feed : NamedFeed) → slice_get s.feeds i ≡ Some feed
      → IsTrue (is_name feed.name)
  pub plans_apart : (i j : ℕ) (p q : NamedPlan) → slice_get s.plans i ≡ Some p → slice_get s.plans j
      ≡ Some q → p.name ≡ q.name → i ≡ j
  pub feeds_apart : (i j : ℕ) (p q : NamedFeed) → slice_get s.feeds i ≡ Some p → slice_get s.feeds j
      ≡ Some q → p.name ≡ q.name → i ≡ j
  pub plan_is : (i : ℕ) (feed : NamedFeed) → slice_get s.feeds i ≡ Some feed
      → feed.plan < length s.plans
