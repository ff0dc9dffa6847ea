-- The message is added, and the next pen is that of the first cell that is away.
use Rattle.std.proofs.Common.{◌≡◌, ◌++◌, ◌∷◌, [], false, sym, ap, ◌∙◌, subst, rules, arith}
use Rattle.feed_defs.specs.History.{IsLegal}
use Rattle.hub_history.specs.declared.item.LogItem.TheVariants.{Accepted}
use Rattle.hub_history.specs.Log.{entries_of, is_ended}
use Rattle.hub_history.specs.Told.{Told}
use Rattle.logbook.specs.Pages.{nib, may_write}
use Rattle.hub_history.proofs.Logs.{orderly_more, line_more, author_more, entries_few}
use Rattle.hub_history.proofs.author.Author.extend.Goals as goal

pub add-requires-clause-orderly : goal.add-requires-clause-orderly
add-requires-clause-orderly g c =
    orderly_more c.self.inside.seen.log (Accepted g.E.Naming.entry) c.self.invariant.line.orderly (subst (λ (t : Told). is_ended t.log ≡ false) (sym c.self.view_is) c.requires.goes_on)

pub overflow_add-self-2 : goal.overflow_add-self-2
overflow_add-self-2 g c =
    let few = entries_few c.self.inside.seen.log in
    omega (arith, c.self.invariant.line.entries_are, c.self.invariant.line.items_are, c.if-self-ge-MOST_ITEMS.false)

pub invariant_of-self : goal.invariant_of-self
invariant_of-self g c =
    let goes_on : is_ended c.self.inside.seen.log ≡ false = subst (λ (t : Told). is_ended t.log ≡ false) (sym c.self.view_is) c.requires.goes_on in
    let legal : IsLegal c.self.inside.feeds (entries_of c.self.inside.seen.log ++ g.E.Naming.entry ∷ []) = subst (λ (t : Told). IsLegal t.feeds (entries_of t.log ++ g.E.Naming.entry ∷ [])) (sym c.self.view_is) c.requires.legal in
    record {
      line = line_more _ _ _ c.self.inside.seen.log _ g.E.Naming.entry c.self.invariant.line goes_on legal c.add.ensures.added;
      words = author_more _ _ _ _ c.self.inside.seen.book c.self.inside.seen.log (Accepted g.E.Naming.entry) c.self.inside.items _ _ _ _ c.self.invariant.words c.self.invariant.line.items_are c.add.ensures.added c.add.ensures.book
          (c.written.ensures.book ∙ c.in-Some.ensures.book) (c.written.ensures.nib ∙ ap (λ n. nib may_write n.key 0) c.in-Some.ensures.nib);
      few = omega (arith, c.if-self-ge-MOST_ITEMS.false);
    }
