-- The number has two groups.
use Rattle.pb_wire.proofs.Spelt.{two}
use Rattle.pb_wire.proofs.writing.two_groups.Goals as goal

pub returns : goal.returns
returns c = two c.args.value c.args.last c.requires.last c.requires.some c.requires.below
