-- The run moves on by a byte for each further byte of its length.
use Rattle.std.proofs.Common.{◌-◌, ◌<◌, ◌^◌, arith, rules}
use Rattle.pb_wire.proofs.Lengths.{begins, goes_on, ends, stays}
use Rattle.pb_wire.proofs.writing.write_length.Goals as goal

pub groups-init : goal.groups-init
groups-init c =
    let small : c.len.result - c.args.place - 1 < 2 ^ 64 = search rules in
    begins c.args.place (c.len.result - c.args.place - 1) c.args.out.now.items c.requires small (omega (arith, c.len.ensures))

pub groups-preserved : goal.groups-preserved
groups-preserved c =
    rw c.in_ok-insert.ensures.items (goes_on _ _ _ c.groups.out.items c.groups.last c.groups.rest c.groups.invariant c.groups-test.true)

pub returns-clause-written : goal.returns-clause-written
returns-clause-written c = ends _ _ _ c.groups.out.items c.groups.last c.groups.rest c.groups.invariant c.groups-test.false

pub returns-clause-kept : goal.returns-clause-kept
returns-clause-kept c = stays _ _ _ c.groups.out.items c.groups.last c.groups.rest c.groups.rest c.groups.invariant
