use Rattle.std.proofs.Common.{rules, append_assoc}
use Rattle.script_lines.proofs.replies.stale_line.Goals as goal

pub returns : goal.returns
returns c = search (rules, append_assoc)
