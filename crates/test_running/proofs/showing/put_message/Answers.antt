-- The history has the named message at its end.
use Rattle.test_running.proofs.Numbered.{published}
use Rattle.test_running.proofs.showing.put_message.Goals as goal

pub returns-clause-history : goal.returns-clause-history
returns-clause-history g c = published c.put.result c.args.publisher.now.line g.entry _ c.put.ensures.receipt c.requires.1.0
