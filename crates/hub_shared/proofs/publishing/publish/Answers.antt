-- The history has the named message at its end.
use Rattle.hub_shared.proofs.Dealt.{published}
use Rattle.hub_shared.proofs.publishing.publish.Goals as goal

pub returns-clause-history : goal.returns-clause-history
returns-clause-history g c = published c.put.result c.args.publisher.now.line g.entry _ c.put.ensures.receipt c.requires.1.0
