use Rattle.std.proofs.Common.{rules, append_assoc}
use Rattle.hub_load.proofs.words.cell_words.Goals as goal

pub returns : goal.returns
returns c = search (rules, append_assoc)
