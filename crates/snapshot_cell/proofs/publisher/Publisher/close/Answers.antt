-- The end adds no message, and what is shown is the view that was shown.
use Rattle.std.proofs.Common.{◌≡◌, List, sym, ap, ◌∙◌, subst, rules}
use Rattle.std.specs.Arc.{arc_value}
use Rattle.feed_defs.specs.declared.history.Entry.{Entry}
use Rattle.board_defs.specs.Views.{HubKept, StandsFor}
use Rattle.hub_history.specs.Log.{is_ended}
use Rattle.hub_history.specs.Told.{Told, history_of}
use Rattle.hub_history.proofs.Logs.{entries_closed, ended_more}
use Rattle.snapshot_cell.specs.Seen.{AtSome, Publishes}
use Rattle.snapshot_cell.proofs.publisher.Publisher.close.Goals as goal

pub show_to_all-writer-requires-clause-stands : goal.show_to_all-writer-requires-clause-stands
show_to_all-writer-requires-clause-stands g c =
    let shows : Publishes c.in-Some.writer.desk.shown.value c.self.inside.author = subst (λ o. AtSome o (λ w. Publishes w.desk.shown.value c.self.inside.author)) c.in-Some.is c.self.invariant in
    let history : history_of c.line-line.result ≡ history_of c.self.inside.author =
    ap (λ (t : Told). history_of t) (c.line-line.ensures ∙ c.if-not-end.ensures.added) ∙ entries_closed c.self.inside.author.log in
    let seen : arc_value c.in-Ok.view ≡ arc_value c.in-Some.writer.desk.shown.value.view = search rules in
    subst (λ (h : List Entry). StandsFor h (arc_value c.in-Ok.view)) (sym history)
    (subst (λ (h : HubKept). StandsFor (history_of c.self.inside.author) h) (sym seen) shows.stands)

pub invariant_of-result : goal.invariant_of-result
invariant_of-result g c = ap (λ (t : Told). is_ended t.log) (c.line-line.ensures ∙ c.if-not-end.ensures.added) ∙ ended_more c.self.inside.author.log
