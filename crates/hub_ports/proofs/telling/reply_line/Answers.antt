-- The line is put together.
use Rattle.std.proofs.Common.{rules, append_assoc}
use Rattle.hub_ports.proofs.telling.reply_line.Goals as goal

pub returns : goal.returns
returns c = search (rules, append_assoc)
