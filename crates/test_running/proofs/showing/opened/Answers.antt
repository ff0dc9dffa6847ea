-- The first view stands for nothing.
use Rattle.std.proofs.Common.{◌≡◌, [], List, length, rules, sym, ap, ◌∙◌, subst}
use Rattle.std.specs.Arc.{arc_value}
use Rattle.feed_defs.specs.declared.history.Entry.{Entry}
use Rattle.feed_defs.specs.History.{IsLegal}
use Rattle.feed_defs.proofs.Legal.{empty_legal}
use Rattle.board_defs.specs.Views.{HubKept, StandsFor}
use Rattle.hub_history.specs.Log.{entries_of}
use Rattle.hub_history.specs.Told.{history_of}
use Rattle.test_running.proofs.showing.opened.Goals as goal

pub snapshots-requires-clause-stands : goal.snapshots-requires-clause-stands
snapshots-requires-clause-stands g c =
    let shown : arc_value c.in_ok-view.view ≡ c.in_ok-core.core = search rules in
    subst (λ (k : HubKept). StandsFor [] k) (sym shown) c.in_ok-core.ensures.stands

pub invariant_of-shower : goal.invariant_of-shower
invariant_of-shower g c =
    let core : HubKept = c.in_ok-core.core in
    let line = c.in_ok-publisher.field-0.publisher.line in
    let shown : arc_value c.in_ok-view.view ≡ core = search rules in
    let none : history_of line ≡ [] = ap entries_of c.in_ok-publisher.ensures.log in
    let one : length core.plans.feeds ≡ 1 = ap (λ (k : HubKept). length k.plans.feeds) c.in_ok-core.ensures.first ∙ c.in_ok-one_feed.ensures.count in (
      subst (λ (h : List Entry). StandsFor h core) (sym none) c.in_ok-core.ensures.stands,
      c.in_ok-publisher.ensures.plans ∙ ap (λ (k : HubKept). k.plans) shown,
      c.in_ok-publisher.ensures.feeds ∙ ap (λ (k : HubKept). length k.plans.feeds) shown ∙ one,
      one,
      subst (λ (h : List Entry). IsLegal line.feeds h) (sym none) (empty_legal line.feeds),
    )
