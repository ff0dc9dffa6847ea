use Rattle.sched_load.proofs.ArrangeLemmas.{arranged}
use Rattle.sched_load.proofs.visits.sort.Goals as goal

pub returns : goal.returns
returns c =
    arranged c.args.is_rising c.args.visits.now.items c.sort_unless.new.visits.items c.by_trip.new.visits.items c.requires.rising c.requires.apart c.in_ok-sort_unless.ensures c.in_ok-by_trip.ensures
