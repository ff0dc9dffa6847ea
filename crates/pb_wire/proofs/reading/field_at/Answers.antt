use Rattle.std.proofs.Common.{arith}
use Rattle.pb_wire_defs.specs.Field.{deepest_group}
use Rattle.pb_wire_defs.specs.Reading.{group_at}
use Rattle.pb_wire_defs.proofs.Shorter.{tag_shorter, payload_shorter, group_shorter}
use Rattle.pb_wire.proofs.reading.field_at.Goals as goal

pub slice_bounds-result-count : goal.slice_bounds-result-count
slice_bounds-result-count c =
    let first = tag_shorter c.args.bytes.now _ c.in_ok-tag.ensures in
    let second = payload_shorter (group_at deepest_group) (group_shorter deepest_group) _ _ c.in_ok-tag.rest.now _ c.in_ok-payload.ensures in
    omega (arith, first, second)
