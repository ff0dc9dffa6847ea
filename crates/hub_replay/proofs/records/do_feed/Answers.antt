use Rattle.hub_replay.proofs.Doing.{feed_declared}
use Rattle.hub_replay.proofs.records.do_feed.Goals as goal

pub returns-in-Ok-true : goal.returns-in-Ok-true
returns-in-Ok-true c =
    let declared = rw c.in-Ok-true.field-0-test at c.in-Ok-true.ensures in
    feed_declared c.args.hub.now c.declare.new.self c.args.name.now c.args.behind c.args.bytes.now c.args.said.now.items c.requires declared.0 declared.1
