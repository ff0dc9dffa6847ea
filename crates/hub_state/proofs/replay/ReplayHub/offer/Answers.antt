-- What is offered is judged against the stamp of the feed's last message, and keeps what is kept of the history.
use Rattle.std.proofs.Common.{◌≡◌, length, ap, ◌∙◌, rules, arith}
use Rattle.board_defs.specs.Views.{feed_at, hub_after}
use Rattle.hub_core.specs.Answers.{cause_of}
use Rattle.hub_state.proofs.Offered.{refused, passed_on, is_moment, kept_more, accepted}
use Rattle.hub_state.proofs.replay.ReplayHub.offer.Goals as goal

pub returns-in_err-message-clause-offered : goal.returns-in_err-message-clause-offered
returns-in_err-message-clause-offered c =
    let hub = c.self.inside in
    let last : c.last_stamp-last.result ≡ (feed_at hub.core c.args.feed).fold.stamp =
    c.last_stamp-last.ensures ∙ ap (λ kept. (feed_at kept c.args.feed).fold.stamp) (c.deref.ensures ∙ c.view.ensures) in
    rw (← c.self.view_is)
    (passed_on c.args.feed c.args.bytes.now (record { history = hub.history.items; shown = hub.core; reads = hub.looks }) c.from_residual.result _ c.from_residual.ensures.1
    (refused hub.history.items hub.core c.args.feed c.last_stamp-last.result c.args.bytes.now c.self.invariant (rw (← c.self.view_is) at c.requires) last _ c.in_err-message.ensures))

pub prepare-requires-clause-moment : goal.prepare-requires-clause-moment
prepare-requires-clause-moment c =
    let hub = c.self.inside in
    let last : c.last_stamp-last.result ≡ (feed_at hub.core c.args.feed).fold.stamp =
    c.last_stamp-last.ensures ∙ ap (λ kept. (feed_at kept c.args.feed).fold.stamp) (c.deref.ensures ∙ c.view.ensures) in
    rw c.in_ok-copy.ensures
    (is_moment hub.history.items hub.core c.args.feed c.last_stamp-last.result c.args.bytes.now c.self.invariant (rw (← c.self.view_is) at c.requires) last c.in_ok-message.message c.in_ok-message.ensures)

pub invariant_of-self-2 : goal.invariant_of-self-2
invariant_of-self-2 c =
    let hub = c.self.inside in
    let last : c.last_stamp-last.result ≡ (feed_at hub.core c.args.feed).fold.stamp =
    c.last_stamp-last.ensures ∙ ap (λ kept. (feed_at kept c.args.feed).fold.stamp) (c.deref.ensures ∙ c.view.ensures) in
    let next : c.commit.new.self ≡ hub_after c.args.feed c.in_ok-message.message hub.core =
    c.commit.ensures ∙ c.in_ok-next.ensures.after ∙ ap (λ m. hub_after c.args.feed m hub.core) c.in_ok-copy.ensures in
    kept_more hub.history.items hub.core c.args.feed c.last_stamp-last.result c.args.bytes.now c.self.invariant (rw (← c.self.view_is) at c.requires) last c.in_ok-message.message c.in_ok-message.ensures (λ i. omega (arith, c.type_inv.bytes i)) _ _ c.in_ok-push.ensures.items next

pub returns-clause-offered : goal.returns-clause-offered
returns-clause-offered c =
    let hub = c.self.inside in
    let last : c.last_stamp-last.result ≡ (feed_at hub.core c.args.feed).fold.stamp =
    c.last_stamp-last.ensures ∙ ap (λ kept. (feed_at kept c.args.feed).fold.stamp) (c.deref.ensures ∙ c.view.ensures) in
    let counted : c.len.result ≡ length c.push.new.self.items = search rules in
    rw (← c.self.view_is)
    (accepted hub.history.items hub.core c.args.feed c.last_stamp-last.result c.args.bytes.now c.self.invariant (rw (← c.self.view_is) at c.requires) last c.in_ok-message.message c.in_ok-message.ensures _ c.len.result c.in_ok-push.ensures.items counted)

pub returns-clause-legal : goal.returns-clause-legal
returns-clause-legal c = (invariant_of-self-2 c).legal
