use Rattle.std.proofs.Common.{◌≡◌, ◌∷◌, ap, sym, ◌∙◌, arith, length}
use Rattle.pb_wire.specs.Parts.{part_seen}
use Rattle.field_read.specs.Occurring.{told_fields}
use Rattle.field_read.proofs.Steps.{whole_some, whole_none}
use Rattle.field_read.proofs.iter.PartsIterator.next.Goals as goal

pub invariant_of-self : goal.invariant_of-self
invariant_of-self c = (whole_some _ _ _ c.self.invariant c.in-Ok.ensures).1

pub returns-in-Ok-clause-steps : goal.returns-in-Ok-clause-steps
returns-in-Ok-clause-steps c = rw (← c.self.view_is) (whole_some _ _ _ c.self.invariant c.in-Ok.ensures).0

pub returns-in-Ok-clause-goes : goal.returns-in-Ok-clause-goes
returns-in-Ok-clause-goes c =
    let first : c.args.self.now ≡ part_seen c.in-Ok.part ∷ told_fields c.in-Ok.after.now = sym c.self.view_is ∙ (whole_some _ _ _ c.self.invariant c.in-Ok.ensures).0 in
    record {
      on = λ _. (tt, tt, omega (arith, ap length first));
      keeps = tt;
      rests = λ _. tt;
    }

pub returns-in-Err-clause-steps : goal.returns-in-Err-clause-steps
returns-in-Err-clause-steps c = let none = whole_none _ _ c.self.invariant c.in-Err.ensures in rw (← c.self.view_is) (none, none)
