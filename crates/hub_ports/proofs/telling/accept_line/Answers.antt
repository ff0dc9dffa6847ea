-- The line is put together.
use Rattle.std.proofs.Common.{rules}
use Rattle.hub_ports.proofs.telling.accept_line.Goals as goal

pub returns : goal.returns
returns c = search rules
