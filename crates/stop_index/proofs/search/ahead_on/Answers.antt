-- Those that were passed are the first.
use Rattle.std.proofs.Common.{not, rules}
use Rattle.std.proofs.lemmas.List.Sorted.{IsPartitionPoint-from_clause}
use Rattle.stop_index.proofs.DaySlots.{ahead, passed_first, ahead_are}
use Rattle.stop_index.proofs.search.ahead_on.Goals as goal

pub returns : goal.returns
returns c =
    let departures = c.args.departures.now in
    let passed = ahead c.args.reached.now c.args.base c.args.day in
    let point = IsPartitionPoint-from_clause (λ d. not (passed d)) departures c.partition_point-first.result c.partition_point-first.ensures.partitioned
    (passed_first c.args.reached.now c.args.base c.args.day departures c.requires.sorted) (λ a r f called. search rules) in
    ahead_are c.args.reached.now c.args.base c.args.day departures c.partition_point-first.result c.partition_point-first.ensures.bound point
