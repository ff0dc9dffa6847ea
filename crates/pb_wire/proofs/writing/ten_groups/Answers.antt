-- The number has ten groups.
use Rattle.pb_wire.proofs.Spelt.{ten}
use Rattle.pb_wire.proofs.writing.ten_groups.Goals as goal

pub returns : goal.returns
returns c = ten c.args.value c.requires c.ranges.value.fits
