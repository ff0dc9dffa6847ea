use Rattle.sched_types.proofs.Days.{window_none, window_more, window_day}
use Rattle.sched_types.proofs.dates.dates_from.Goals as goal

pub day_after-date-requires-clause-valid : goal.day_after-date-requires-clause-valid
day_after-date-requires-clause-valid c = (window_day c.args.first c.loop.counter c.args.count c.loop.date c.requires.valid c.requires.in_time c.loop-test.true c.loop.invariant.date_is).0

pub day_after-date-requires-clause-not_last : goal.day_after-date-requires-clause-not_last
day_after-date-requires-clause-not_last c = (window_day c.args.first c.loop.counter c.args.count c.loop.date c.requires.valid c.requires.in_time c.loop-test.true c.loop.invariant.date_is).1

pub loop-init : goal.loop-init
loop-init c = window_none c.args.first c.new-dates.result.items c.new-dates.ensures.items

pub loop-preserved : goal.loop-preserved
loop-preserved c = window_more c.args.first c.loop.counter c.loop.dates.items c.push.new.self.items c.loop.date c.day_after-date.result c.loop.invariant c.in_ok-push.ensures.items c.day_after-date.ensures.value
