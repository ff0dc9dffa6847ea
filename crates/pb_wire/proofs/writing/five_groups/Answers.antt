-- The number has five groups.
use Rattle.pb_wire.proofs.Spelt.{five}
use Rattle.pb_wire.proofs.writing.five_groups.Goals as goal

pub returns : goal.returns
returns c = five c.args.value c.args.last c.requires.last c.requires.some c.requires.below
