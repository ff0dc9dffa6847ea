use Rattle.std.proofs.Common.{refl, sym, arith, inr, subst, length, ◌+◌, ◌≤◌}
use Rattle.std.specs.Io.KnownBytes.{Appends}
use Rattle.std.proofs.KnownBytes.{Appends-trans}
use Rattle.std.proofs.Math.Seq.{take-append-add}
use Rattle.hub_outside.proofs.Rising.{rose_later}
use Rattle.hub_replay.proofs.ending.write_last.Goals as goal

pub returns-in-Err-write_all : goal.returns-in-Err-write_all
returns-in-Err-write_all g c =
    let wrote = c.in-Err-write_all.ensures.bytes in
    let cause = c.in-Err-write_all.ensures.cause in
    let before : g.K.Sink.faults c.args.out.now ≤ g.K.Sink.faults c.write_all.new.out = c.in-Ok.ensures.cause in (
      omega (arith, cause.0),
      inr (
        refl,
        rose_later _ _ _ before cause.1,
        (
          length c.args.said.now + wrote.0,
          subst (Appends (g.K.Sink.written c.args.out.now) (g.K.Sink.written c.write_all-in-Ok.new.out)) (sym (take-append-add c.args.said.now c.args.line.now wrote.0))
              (Appends-trans _ _ _ _ _ c.in-Ok.ensures.bytes wrote.2),
        ),
      ),
    )
