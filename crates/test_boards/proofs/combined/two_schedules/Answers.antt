-- The names of the timetables and of their feeds pass the tests.
use Rattle.std.proofs.Common.{refl}
use Rattle.text_defs.specs.Names.{is_name}
use Rattle.sched_types.proofs.Checks.{all_pairs}
use Rattle.sched_types.proofs.CheckedSchedules.{checked_schedules}
use Rattle.test_boards.proofs.combined.two_schedules.Goals as goal

pub new-requires : goal.new-requires
unfolding is_name all_pairs
new-requires c =
    rw (c.in_ok-plans.ensures.items, c.in_ok-feeds.ensures.items, c.in_ok-plan.ensures.name, c.in_ok-plan-2.ensures.name, c.in_ok-feed.ensures, c.in_ok-feed-2.ensures)
    (checked_schedules _ _ refl refl)
