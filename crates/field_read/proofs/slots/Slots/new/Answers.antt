use Rattle.std.proofs.Common.{refl}
use Rattle.field_read.proofs.Noting.{noted_begins}
use Rattle.field_read.proofs.slots.Slots.new.Goals as goal

pub returns : goal.returns
returns c = noted_begins _ (record { count = 0; last = _ }) refl refl
