-- The next message follows the last one.
use Rattle.std.proofs.Common.{◌≡◌, ◌<◌, List, length, rules, arith, refl, sym, ap, ◌∙◌}
use Rattle.std.specs.Arc.{arc_value}
use Rattle.feed_defs.specs.declared.history.Entry.{Entry}
use Rattle.feed_defs.specs.History.{IsLegal}
use Rattle.feed_defs.proofs.Legal.{grown}
use Rattle.board_defs.specs.Views.{HubKept, StandsFor}
use Rattle.text_defs.specs.Moments.{last_moment}
use Rattle.hub_history.specs.Told.{Told, history_of}
use Rattle.test_running.proofs.Numbered.{may_follow, stands_as, legal_as}
use Rattle.test_running.proofs.showing.Shower.show_next.Goals as goal

pub put_message-requires : goal.put_message-requires
put_message-requires g c κs within =
    let p = c.self.inside.publisher in
    let inv = c.self.invariant in
    let few : c.stamp_of_first-stamp.result < last_moment = omega (arith, c.if-stamp-ge-LAST_MOMENT.false) in
    let shared : arc_value c.in_ok-shared.shared ≡ arc_value c.in_ok-next.next = search rules in
    let plans : (arc_value c.in_ok-next.next).plans ≡ c.self.inside.core.plans = ap (λ (k : HubKept). k.plans) c.in_ok-next.ensures.after in (
      search rules,
      (
        refl,
        (
          may_follow p.line c.self.inside.core c.in_ok-message.message c.stamp_of_first-stamp.result inv.4 inv.0 inv.2 inv.3 (search rules) few c.in_ok-message.ensures.stamp c.in_ok-message.ensures.version,
          (
            stands_as (history_of p.line) _ c.in_ok-copy.field-0 c.in_ok-message.message (arc_value c.in_ok-next.next) (arc_value c.in_ok-shared.shared) c.in_ok-copy.ensures refl shared (c.in_ok-next.ensures.stands (history_of p.line) inv.0),
            ap (λ (k : HubKept). k.plans) shared ∙ plans ∙ sym inv.1,
          ),
        ),
      ),
    )

pub invariant_of-self-2 : goal.invariant_of-self-2
invariant_of-self-2 g c =
    let p = c.self.inside.publisher in
    let inv = c.self.invariant in
    let few : c.stamp_of_first-stamp.result < last_moment = omega (arith, c.if-stamp-ge-LAST_MOMENT.false) in
    let history : history_of c.put_message.new.publisher.line ≡ grown (history_of p.line) 0 c.in_ok-message.message =
    ap (λ (t : Told). history_of t) c.in_ok-receipt.ensures.published ∙ c.in_ok-receipt.ensures.history in
    let feeds : c.put_message.new.publisher.line.feeds ≡ p.line.feeds = ap (λ (t : Told). t.feeds) c.in_ok-receipt.ensures.published ∙ c.in_ok-receipt.ensures.hub.feeds in
    let plans : c.commit.new.self.plans ≡ c.self.inside.core.plans = ap (λ (k : HubKept). k.plans) c.commit.ensures ∙ ap (λ (k : HubKept). k.plans) c.in_ok-next.ensures.after in
    let legal : IsLegal p.line.feeds (grown (history_of p.line) 0 c.in_ok-message.message) =
    may_follow p.line c.self.inside.core c.in_ok-message.message c.stamp_of_first-stamp.result inv.4 inv.0 inv.2 inv.3 (search rules) few c.in_ok-message.ensures.stamp c.in_ok-message.ensures.version in (
      stands_as (history_of p.line) _ c.in_ok-copy.field-0 c.in_ok-message.message (arc_value c.in_ok-next.next) _ c.in_ok-copy.ensures history c.commit.ensures (c.in_ok-next.ensures.stands (history_of p.line) inv.0),
      c.in_ok-receipt.ensures.plans ∙ inv.1 ∙ sym plans,
      feeds ∙ inv.2,
      ap (λ s. length s.feeds) plans ∙ inv.3,
      legal_as (history_of p.line) _ c.in_ok-message.message _ _ feeds history legal,
    )
