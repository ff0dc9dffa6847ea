-- The text is what the holes of the format say.
use Rattle.std.proofs.Common.{rules, append_assoc}
use Rattle.hub_gen.proofs.running.boards_text.Goals as goal

pub returns : goal.returns
returns c = search (rules, append_assoc)
