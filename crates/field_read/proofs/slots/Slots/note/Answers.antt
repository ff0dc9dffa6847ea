use Rattle.std.proofs.Common.{refl, arith}
use Rattle.pb_wire.specs.Parts.{part_seen}
use Rattle.field_read.specs.declared.slots.Slot.{Slot}
use Rattle.field_read.proofs.Noting.{noted_more, noted_still}
use Rattle.field_read.proofs.slots.Slots.note.Goals as goal

pub returns-then-number-ge-SLOTS : goal.returns-then-number-ge-SLOTS
returns-then-number-ge-SLOTS c = λ fields h. noted_still _ fields _ h (omega arith)

pub returns : goal.returns
returns c = λ fields h.
    let slot : Slot = record { count = c.saturating_add-count.result; last = c.args.part.now.payload } in
    noted_more c.args.self.now _ fields (part_seen c.args.part.now) slot _ h c.if-number-ge-SLOTS.false c.saturating_add-count.ensures refl refl
