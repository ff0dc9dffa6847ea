-- The first departure is handed out where it is ahead; where it is not, none is.
use Rattle.std.proofs.Common.{◌≡◌, List, [], Option, Some, None, cond, length, w64, SFits, sym, ap, subst, ◌∙◌, rules}
use Rattle.std.proofs.lemmas.Int.{to_z-of_z}
use Rattle.std.specs.Iterator.{MakesProgress, YieldsFirst, item_count}
use Rattle.run_overlay.specs.declared.slot.LiveSlot.{LiveSlot}
use Rattle.run_overlay.specs.Sought.{AreAhead, is_ahead, slots_ahead}
use Rattle.run_overlay.proofs.Slots.{first_gives, rest_ahead}
use Rattle.run_overlay.proofs.at_stop.AtStopIterator.next.Goals as goal

-- an iterator that shows what is left comes nearer to its end with each item
nearer : (r : Option LiveSlot) (s t : List LiveSlot) → YieldsFirst (λ left. left) s r t → MakesProgress (λ left. Unit {0}) (item_count (λ left. left)) s r t
nearer None s t steps = search rules
nearer (Some slot) s t steps = search (rules, ap length steps)

pub invariant_of-self : goal.invariant_of-self
invariant_of-self c = subst (AreAhead c.self.inside.stop) (sym c.in_err-row.ensures.steps.1) (record { rising = record { sorted = tt }; from = tt })

pub returns-in_err-row-clause-steps : goal.returns-in_err-row-clause-steps
returns-in_err-row-clause-steps c =
    let none : c.args.self.now ≡ [] = sym c.self.view_is ∙ ap (slots_ahead c.self.inside.stop c.self.inside.end) c.in_err-row.ensures.steps.0 in
    let after : slots_ahead c.self.inside.stop c.self.inside.end c.next.new.self ≡ [] = ap (slots_ahead c.self.inside.stop c.self.inside.end) c.in_err-row.ensures.steps.1 in
    rw c.from_residual.ensures (none, after)

pub invariant_of-self-2 : goal.invariant_of-self-2
invariant_of-self-2 c = rest_ahead c.self.inside.stop c.self.inside.end c.in_ok-row.row.now c.next.new.self (subst (AreAhead c.self.inside.stop) c.in_ok-row.ensures.steps c.self.invariant)

pub returns-clause-steps : goal.returns-clause-steps
returns-clause-steps c =
    let fits : SFits w64 c.self.inside.end = search rules in
    first_gives c.self.inside.stop c.self.inside.end c.in_ok-row.row.now c.self.inside.rows c.next.new.self c.args.self.now c.slot_ahead.result
    c.in_ok-row.ensures.steps c.self.invariant (sym c.self.view_is)
    (c.slot_ahead.ensures ∙ ap (λ end. cond (is_ahead c.self.inside.stop end c.in_ok-row.row.now) (Some c.in_ok-row.row.now.slot) None) (to_z-of_z w64 c.self.inside.end fits))

pub returns-clause-goes : goal.returns-clause-goes
returns-clause-goes c = nearer c.slot_ahead.result c.args.self.now (slots_ahead c.self.inside.stop c.self.inside.end c.next.new.self) (returns-clause-steps c)
