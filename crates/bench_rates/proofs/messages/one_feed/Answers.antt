-- The names of the timetable and of its feed pass the tests.
use Rattle.std.proofs.Common.{refl}
use Rattle.text_defs.specs.Names.{is_name}
use Rattle.sched_types.proofs.Checks.{all_pairs}
use Rattle.sched_types.proofs.CheckedSchedules.{checked_schedules}
use Rattle.bench_rates.proofs.messages.one_feed.Goals as goal

pub new-requires-3 : goal.new-requires-3
unfolding is_name all_pairs
new-requires-3 c =
    rw (c.in_ok-plans.ensures.items, c.in_ok-feeds.ensures.items, c.in_ok-new.ensures, c.in_ok-feed.ensures)
    (checked_schedules _ _ refl refl)
