-- The queues are those of the board.
use Rattle.run_departures.proofs.Told.{queues_rise, list_is, rows_are, all_there}
use Rattle.run_departures.proofs.merged.departures.Goals as goal

pub invariant_of-result : goal.invariant_of-result
invariant_of-result c = queues_rise c.args.plan.now c.sound.ensures c.args.feeds.now c.args.asked c.requires.stop c.requires.live c.in_ok-queues.queues.items c.in_ok-queues.ensures

pub returns-clause-list : goal.returns-clause-list
returns-clause-list c = list_is c.args.plan.now c.sound.ensures c.args.feeds.now c.args.asked c.requires.stop c.requires.live c.in_ok-queues.queues.items c.in_ok-queues.ensures

pub returns-clause-said : goal.returns-clause-said
returns-clause-said c = rows_are c.args.plan.now c.sound.ensures c.args.feeds.now c.args.asked c.requires.stop c.requires.live c.in_ok-queues.queues.items c.in_ok-queues.ensures

pub returns-clause-there : goal.returns-clause-there
returns-clause-there c = all_there c.args.plan.now c.sound.ensures c.args.feeds.now c.args.asked c.requires.stop c.requires.live c.in_ok-queues.queues.items c.in_ok-queues.ensures
