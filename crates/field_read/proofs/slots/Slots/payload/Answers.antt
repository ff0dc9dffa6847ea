use Rattle.field_read.proofs.Noting.{noted_at, noted_once}
use Rattle.field_read.proofs.slots.Slots.payload.Goals as goal

pub returns-in-1 : goal.returns-in-1
returns-in-1 c = λ fields h. noted_once c.in-Some.slot.now _ (noted_at _ fields _ _ h c.in-Some.ensures.lookup.3) c.in-1.is
