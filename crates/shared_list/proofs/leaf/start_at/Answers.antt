-- Items from the place that was found are those from the key on.
use Rattle.shared_list.proofs.Places.{from_at, from_gap}
use Rattle.shared_list.proofs.leaf.start_at.Goals as goal

pub returns-in-Ok-clause-start : goal.returns-in-Ok-clause-start
returns-in-Ok-clause-start g c = from_at g.met.T.Keyed.total g.T.Keyed.key_of c.args.items.now (g.K.KeyFor.sought c.args.key) c.in-Ok.at c.in-Ok.ensures

pub returns-in-Err-clause-start : goal.returns-in-Err-clause-start
returns-in-Err-clause-start g c = from_gap g.met.T.Keyed.total g.T.Keyed.key_of c.args.items.now (g.K.KeyFor.sought c.args.key) c.in-Err.at c.in-Err.ensures
