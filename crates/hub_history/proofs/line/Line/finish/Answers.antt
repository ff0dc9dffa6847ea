-- Nothing stands behind an end, so what both know is the ended log.
use Rattle.std.proofs.Common.{◌≡◌, true, List, [], ◌++◌, sym, ap, ◌∙◌, subst, append-nil}
use mathlib.Core.List.{IsPrefix}
use Rattle.hub_history.specs.declared.item.LogItem.{LogItem}
use Rattle.hub_history.specs.Log.{is_ended, is_orderly}
use Rattle.hub_history.specs.Told.{Told}
use Rattle.hub_history.proofs.Logs.{ended_whole}
use Rattle.hub_history.proofs.line.Line.finish.Goals as goal

pub returns-clause-begins : goal.returns-clause-begins
returns-clause-begins c =
    let whole : List LogItem = c.ended.inside.seen.log in
    let both : List LogItem = c.learn.new.self.log in
    let mine : IsPrefix c.self.inside.seen.log both = subst (λ (l : List LogItem). IsPrefix l both) (ap (λ s. s.log) c.again-both.ensures) c.learn.ensures.2 in
    let theirs : IsPrefix whole both = c.learn.ensures.3 in
    let ended : is_ended whole ≡ true = subst (λ (t : Told). is_ended t.log ≡ true) (sym c.ended.view_is) c.requires.ended in
    let none : theirs.0 ≡ [] = ended_whole whole theirs.0 ended (ap (λ (l : List LogItem). is_orderly l) theirs.1 ∙ c.learn.ensures.4.1.orderly) in
    let same : both ≡ whole = sym theirs.1 ∙ ap (λ (l : List LogItem). whole ++ l) none ∙ append-nil whole in
    subst (λ (t : Told). IsPrefix t.log c.args.ended.now.log) c.self.view_is
    (subst (λ (t : Told). IsPrefix c.self.inside.seen.log t.log) c.ended.view_is
    (subst (λ (l : List LogItem). IsPrefix c.self.inside.seen.log l) same mine))
