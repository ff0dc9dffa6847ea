-- All departures, each list in order.
use Rattle.std.proofs.Common.{map}
use Rattle.stop_index.proofs.GatherLemmas.{built}
use Rattle.stop_index.proofs.index.StopIndex.build.Goals as goal

pub returns : goal.returns
returns c = built c.args.plan.now (map (λ v. v.items) c.in_ok-lists.lists.items) c.in_ok-flattened.field-0 c.days_rise.result c.in_ok-lists.ensures c.in_ok-flattened.ensures c.days_rise.ensures
