use Rattle.pb_wire_defs.specs.Reading.{varint_at}
use Rattle.pb_wire.proofs.Varints.{begins, ends_early, too_long, last_group, next_group}
use Rattle.pb_wire.proofs.numbers.long_varint_at.Goals as goal

pub groups-init : goal.groups-init
groups-init c = begins c.args.bytes.now

pub returns-in_default : goal.returns-in_default
returns-in_default c =
    ends_early c.groups.value c.groups.scale c.groups.counter c.groups.rest.now (varint_at c.args.bytes.now) c.groups.invariant c.groups-test.true c.in_default.ensures.cases

pub returns-then-byte-lt128 : goal.returns-then-byte-lt128
returns-then-byte-lt128 c =
    last_group c.groups.value c.groups.scale c.groups.counter c.groups.rest.now (varint_at c.args.bytes.now) c.groups.invariant c.in-Some.byte.now c.from.result c.in-Some.after.now c.groups-test.true c.in-Some.ensures.cases.0 c.from.ensures c.if-byte-lt128.true

pub groups-preserved : goal.groups-preserved
groups-preserved c =
    next_group c.groups.value c.groups.scale c.groups.counter c.groups.rest.now (varint_at c.args.bytes.now) c.groups.invariant c.in-Some.byte.now c.from.result c.in-Some.after.now c.groups-test.true c.in-Some.ensures.cases.0 c.from.ensures c.if-byte-lt128.false

pub returns : goal.returns
returns c =
    too_long c.groups.value c.groups.scale c.groups.counter c.groups.rest.now (varint_at c.args.bytes.now) c.groups.invariant c.groups-test.false
