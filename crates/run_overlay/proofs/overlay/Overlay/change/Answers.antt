-- The message names its ids, and the table is the one after it.
use Rattle.std.proofs.Common.{ap, arith}
use Rattle.run_overlay.specs.Named.{NamedIds}
use Rattle.run_overlay.proofs.overlay.Overlay.change.Goals as goal

pub change_by-requires : goal.change_by-requires
change_by-requires g c = record {
  old = c.requires.before.0;
  message = c.args.message.now;
  was = c.requires.before.1;
  kept = c.requires.before.2;
  now = c.requires.before.3;
  names = c.in_ok-ids.ensures;
}

pub returns-clause-few : goal.returns-clause-few
returns-clause-few g c = omega (arith, c.change_by.ensures.few, ap (λ (n : NamedIds). n.count) c.in_ok-ids.ensures)
