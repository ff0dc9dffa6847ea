use Rattle.std.proofs.Common.{◌≡◌, ◌∷◌, ap, sym, ◌∙◌, arith, length}
use Rattle.feed_defs.specs.Rows.{occurrences_of, span_in}
use Rattle.field_read.proofs.Occurrences.{occurs_first, occurs_later, occurs_in_none}
use Rattle.field_read.proofs.iter.SpansIterator.next.Goals as goal

pub returns-in-Some-span_at-clause-steps : goal.returns-in-Some-span_at-clause-steps
returns-in-Some-span_at-clause-steps c =
    sym c.parts.invariant ∙ occurs_first span_in _ _ _ _ _ c.in-Some.ensures.steps c.in-Some-span_at.ensures

pub returns-in-Some-span_at-clause-goes : goal.returns-in-Some-span_at-clause-goes
returns-in-Some-span_at-clause-goes c =
    let first : c.args.self.now ≡ c.in-Some-span_at.bytes.now ∷ occurrences_of span_in c.parts.self-inside.number c.next.new.self = sym c.parts.invariant ∙ occurs_first span_in _ _ _ _ _ c.in-Some.ensures.steps c.in-Some-span_at.ensures in
    record {
      on = λ _. (tt, tt, omega (arith, ap length first));
      keeps = tt;
      rests = λ _. tt;
    }

pub parts-preserved : goal.parts-preserved
parts-preserved c =
    sym (occurs_later span_in _ _ _ _ c.in-Some.ensures.steps c.in_default-span_at.ensures) ∙ c.parts.invariant

pub returns-clause-steps : goal.returns-clause-steps
returns-clause-steps c =
    (sym c.parts.invariant ∙ occurs_in_none span_in _ _ c.in_default.ensures.steps.0, occurs_in_none span_in _ _ c.in_default.ensures.steps.1)
