use Rattle.std.proofs.Common.{ap, length, arith}
use Rattle.hub_outside.proofs.ReadBehind.{Consumes-grown}
use Rattle.hub_outside.proofs.adapters.files.fetch_bytes.Goals as goal

pub returns-in-Ok-eq0-clause-bytes : goal.returns-in-Ok-eq0-clause-bytes
returns-in-Ok-eq0-clause-bytes g c =
    let room = c.in-Ok.ensures.ok in (
      Consumes-grown _ _ _ _ _ _ room.bytes c.pieces.invariant.taken c.read_from.ensures.front c.read_from.ensures.bytes,
      c.in-Ok-eq0.ensures.end (omega (arith, c.in-Ok-eq0.field-0-test)) (omega (arith, room.enough, c.min.ensures, c.min-most.ensures, c.spare.ensures, c.len.ensures, c.len-in-pieces.ensures, c.pieces-test.true)),
    )

pub pieces-preserved : goal.pieces-preserved
pieces-preserved g c =
    let room = c.in-Ok.ensures.ok in
    let same = ap length room.bytes in
    let count = c.in-Ok-read_from.ensures.count in
    record {
      within = omega (arith, same, count, c.min.ensures, c.min-most.ensures, c.len-in-pieces.ensures, c.pieces.invariant.within);
      kept = omega (arith, same, room.kept, c.read_from.ensures.room, c.pieces.invariant.kept);
      taken = Consumes-grown _ _ _ _ _ _ room.bytes c.pieces.invariant.taken c.read_from.ensures.front c.read_from.ensures.bytes;
    }
