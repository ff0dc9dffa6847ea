use Rattle.std.proofs.Common.{rules, append_assoc}
use Rattle.hub_replay.proofs.connections.connection_line.Goals as goal

pub returns : goal.returns
returns c = search (rules, append_assoc)
