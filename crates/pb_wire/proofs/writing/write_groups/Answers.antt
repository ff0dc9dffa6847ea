-- Each group takes one byte of the room that was taken for all.
use Rattle.std.proofs.Common.{◌∙◌}
use Rattle.pb_wire.proofs.Spelt.{begins, goes_on, has_room, ends}
use Rattle.pb_wire.proofs.writing.write_groups.Goals as goal

pub groups-init : goal.groups-init
groups-init c =
    begins c.args.value c.args.out.now.items _ _ _ c.ranges.value.fits c.in_ok-reserve.ensures.items c.in_ok-reserve.ensures.ok

pub push_reserved-requires : goal.push_reserved-requires
push_reserved-requires c = has_room _ _ _ _ _ _ c.groups.invariant

pub groups-preserved : goal.groups-preserved
groups-preserved c =
    rw (c.push_reserved.ensures.items, c.push_reserved.ensures.len, c.push_reserved.ensures.capacity) (goes_on _ _ _ _ _ c.groups.rest c.groups.invariant c.groups-test.true)

pub push_reserved-requires-2 : goal.push_reserved-requires-2
push_reserved-requires-2 c = has_room _ _ _ _ _ _ c.groups.invariant

pub returns-clause-written : goal.returns-clause-written
returns-clause-written c = c.push_reserved-2.ensures.items ∙ ends _ _ _ _ _ _ c.groups.invariant c.groups-test.false
