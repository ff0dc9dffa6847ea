use Rattle.std.proofs.Common.{rules, arith}
use Rattle.poll_port.proofs.HeadReading.{grown, judged, never_head, ended}
use Rattle.poll_port.proofs.heads.read_head.Goals as goal

pub returns-in-Head-clause-reads : goal.returns-in-Head-clause-reads
returns-in-Head-clause-reads g c =
    judged c.good_head.result c.heads.buf c.heads.filled _ _ c.heads.invariant.full c.heads.invariant.fits c.heads.invariant.read c.good_head.ensures

pub heads-preserved : goal.heads-preserved
heads-preserved g c = record {
  full = search rules;
  room = search rules;
  fits = omega (arith, c.in-Got.ensures.within.1);
  read = grown c.heads.buf c.read_behind.new.buf c.heads.filled c.in-Got.count _ _ _ c.heads.invariant.read c.in-Got.ensures.front c.in-Got.ensures.bytes;
  told = search rules;
  later = search rules;
}

pub returns-in-Never-clause-reads : goal.returns-in-Never-clause-reads
returns-in-Never-clause-reads g c = never_head _ _ _ c.heads.invariant.read c.in-Never.ensures

pub returns-in-End-clause-reads : goal.returns-in-End-clause-reads
returns-in-End-clause-reads g c = ended _ _ _ _ c.heads.invariant.read c.in-More.ensures.0 c.in-End.ensures.bytes.0 c.in-End.ensures.bytes.1
