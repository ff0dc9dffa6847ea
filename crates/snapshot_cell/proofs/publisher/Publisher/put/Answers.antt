-- The history has the message at its end, and is what the copies show.
use Rattle.std.proofs.Common.{◌≡◌, ◌++◌, ◌∷◌, [], List, false, sym, ap, ◌∙◌, subst}
use Rattle.std.specs.Arc.{arc_value}
use Rattle.feed_defs.specs.declared.history.Entry.{Entry}
use Rattle.board_defs.specs.Views.{HubKept, StandsFor}
use Rattle.hub_history.specs.declared.item.LogItem.TheVariants.{Accepted}
use Rattle.hub_history.specs.Log.{is_ended}
use Rattle.hub_history.specs.Told.{Told, history_of}
use Rattle.hub_history.proofs.Logs.{entries_append, goes_on_more}
use Rattle.snapshot_cell.specs.Seen.{AtSome, Publishes, Publishing}
use Rattle.snapshot_cell.proofs.Glancing.{goes_on_of}
use Rattle.snapshot_cell.proofs.publisher.Publisher.put.Goals as goal

pub show_to_all-writer-requires-clause-stands : goal.show_to_all-writer-requires-clause-stands
show_to_all-writer-requires-clause-stands g c =
    let history : history_of c.line-line.result ≡ history_of c.args.self.now.line ++ g.entry ∷ [] =
    ap (λ (t : Told). history_of t) (c.line-line.ensures ∙ c.if-not-extend.ensures.added)
    ∙ entries_append c.self.inside.author.log (Accepted g.entry ∷ [])
    ∙ ap (λ (p : Publishing). history_of p.line ++ g.entry ∷ []) c.self.view_is in
    subst (λ (h : List Entry). StandsFor h (arc_value c.args.view)) (sym history) c.requires.1.1.1.0

pub invariant_of-self-2 : goal.invariant_of-self-2
invariant_of-self-2 g c =
    let history : history_of c.extend.new.self ≡ history_of c.args.self.now.line ++ g.entry ∷ [] =
    ap (λ (t : Told). history_of t) c.if-not-extend.ensures.added
    ∙ entries_append c.self.inside.author.log (Accepted g.entry ∷ [])
    ∙ ap (λ (p : Publishing). history_of p.line ++ g.entry ∷ []) c.self.view_is in
    let going : is_ended c.self.inside.author.log ≡ false = goes_on_of (λ w. w.desk.shown.value) c.self.inside.writer c.self.inside.author c.self.invariant in
    subst (λ o. AtSome o (λ w. Publishes w.desk.shown.value c.extend.new.self)) (sym c.replace.ensures.after)
    (record {
      same = c.show_to_all-writer.ensures.line ∙ c.line-line.ensures;
      stands = subst (λ (h : HubKept). StandsFor (history_of c.extend.new.self) h) (sym c.show_to_all-writer.ensures.view) (subst (λ (h : List Entry). StandsFor h (arc_value c.args.view)) (sym history) c.requires.1.1.1.0);
      goes_on = ap (λ (t : Told). is_ended t.log) c.if-not-extend.ensures.added ∙ goes_on_more c.self.inside.author.log g.entry going;
    })
