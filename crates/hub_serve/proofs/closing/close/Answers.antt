-- An ending was had.
use Rattle.std.proofs.Common.{refl, Some}
use Rattle.hub_serve.proofs.closing.close.Goals as goal

pub returns-in-Ok-clause-closes : goal.returns-in-Ok-clause-closes
returns-in-Ok-clause-closes g c = record {
  ending = Some c.in-Ok.ending;
  there = refl;
  of = c.in-Ok.ensures.hub;
  legal = c.in-Ok.ensures.legal;
  ends = c.in-Ok.ensures.ended;
  begins = c.finish_all.ensures;
}
