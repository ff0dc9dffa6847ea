-- Both begin what both know, and the shorter begins the longer.
use Rattle.std.proofs.Common.{◌≤◌, ap, subst, arith, length, List}
use mathlib.Core.List.{IsPrefix}
use Rattle.hub_history.specs.declared.item.LogItem.{LogItem}
use Rattle.hub_history.proofs.Fronts.{prefix_shorter}
use Rattle.hub_history.proofs.line.Line.longer.Goals as goal

pub returns-then-self-other-clause-begins : goal.returns-then-self-other-clause-begins
returns-then-self-other-clause-begins c =
    let both = c.learn.new.self.log in
    let this : IsPrefix c.self.inside.seen.log both = subst (λ (l : List LogItem). IsPrefix l both) (ap (λ s. s.log) c.again-both.ensures) c.learn.ensures.2 in
    let less : length c.self.inside.seen.log ≤ length c.other.inside.seen.log = omega (arith, c.self.invariant.items_are, c.other.invariant.items_are) in
    rw (c.again.ensures, ← c.self.view_is, ← c.other.view_is) (prefix_shorter c.self.inside.seen.log c.other.inside.seen.log both this c.learn.ensures.3 less)

pub returns-clause-other_begins : goal.returns-clause-other_begins
returns-clause-other_begins c =
    let both = c.learn.new.self.log in
    let this : IsPrefix c.self.inside.seen.log both = subst (λ (l : List LogItem). IsPrefix l both) (ap (λ s. s.log) c.again-both.ensures) c.learn.ensures.2 in
    let less : length c.other.inside.seen.log ≤ length c.self.inside.seen.log = omega (arith, c.self.invariant.items_are, c.other.invariant.items_are) in
    rw (c.again-else-self-other.ensures, ← c.self.view_is, ← c.other.view_is) (prefix_shorter c.other.inside.seen.log c.self.inside.seen.log both c.learn.ensures.3 this less)
