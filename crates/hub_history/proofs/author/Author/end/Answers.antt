-- The log is marked as ended, and the next pen is that of the first cell that is away.
use Rattle.std.proofs.Common.{◌≡◌, false, sym, ap, ◌∙◌, subst, rules, arith}
use Rattle.hub_history.specs.declared.item.LogItem.TheVariants.{Ended}
use Rattle.hub_history.specs.Log.{is_ended}
use Rattle.hub_history.specs.Told.{Told}
use Rattle.logbook.specs.Pages.{nib, may_write}
use Rattle.hub_history.proofs.Logs.{orderly_more, line_ended, author_more}
use Rattle.hub_history.proofs.author.Author.end.Goals as goal

pub add-requires-clause-orderly : goal.add-requires-clause-orderly
add-requires-clause-orderly c =
    orderly_more c.self.inside.seen.log Ended c.self.invariant.line.orderly (subst (λ (t : Told). is_ended t.log ≡ false) (sym c.self.view_is) c.requires)

pub invariant_of-self : goal.invariant_of-self
invariant_of-self c =
    let goes_on : is_ended c.self.inside.seen.log ≡ false = subst (λ (t : Told). is_ended t.log ≡ false) (sym c.self.view_is) c.requires in
    record {
      line = line_ended _ _ _ c.self.inside.seen.log _ c.self.invariant.line goes_on c.add.ensures.added;
      words = author_more _ _ _ _ c.self.inside.seen.book c.self.inside.seen.log Ended c.self.inside.items _ _ _ _ c.self.invariant.words c.self.invariant.line.items_are c.add.ensures.added c.add.ensures.book
          (c.written.ensures.book ∙ c.in-Some.ensures.book) (c.written.ensures.nib ∙ ap (λ n. nib may_write n.key 0) c.in-Some.ensures.nib);
      few = omega (arith, c.if-self-ge-MOST_ITEMS.false);
    }
