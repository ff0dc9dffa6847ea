-- The names of the timetable and of its feeds pass the tests.
use Rattle.std.proofs.Common.{refl}
use Rattle.text_defs.specs.Names.{is_name}
use Rattle.sched_types.proofs.Checks.{all_pairs}
use Rattle.sched_types.proofs.CheckedSchedules.{checked_schedules}
use Rattle.test_boards.proofs.ageing.ageing_feeds.Goals as goal

pub new-requires : goal.new-requires
unfolding is_name all_pairs
new-requires c =
    rw (c.in_ok-plans.ensures.items, c.in_ok-feeds.ensures.items, c.in_ok-named_city.ensures, c.in_ok-feed.ensures, c.in_ok-feed-2.ensures)
    (checked_schedules _ _ refl refl)
