-- One feed more was looked at.
use Rattle.std.proofs.Common.{refl, ap, ◌∙◌}
use Rattle.board_core.proofs.FeedLists.{skips, takes}
use Rattle.board_core.proofs.feeds.feeds_of.Goals as goal
use Rattle.board_core.proofs.feeds.feeds_of.Goals.{then-feed-schedule+in_ok-push, else-feed-schedule}

pub loop-number-preserved : goal.loop-number-preserved
loop-number-preserved c =
    let view = c.args.view.now in
    let feed = c.index-named-number.result in
    let shown = c.feeds-named.result.now in
    let are = c.feeds-named.ensures ∙ ap (λ s. s.feeds) c.plans.ensures in
    let so_far = c.loop-number.invariant in
    elim c.if-feed-schedule.branch [
      | then-feed-schedule+in_ok-push w ↦
          takes view c.args.schedule c.loop-number.number shown feed are c.sound.ensures.hub.all c.loop-number-test.true c.index-named-number.is c.loop-number.feeds.items c.if-feed-schedule.feeds.items
          _ w.if-feed-schedule.true refl refl w.feed.ensures.kept w.feed.ensures.over (ap (λ v. v.items) w.feeds-is ∙ w.in_ok-push.ensures.items) so_far
      | else-feed-schedule w ↦
          skips view c.args.schedule c.loop-number.number shown feed are c.sound.ensures.hub.all c.loop-number-test.true c.index-named-number.is c.loop-number.feeds.items c.if-feed-schedule.feeds.items
          w.if-feed-schedule.false (ap (λ v. v.items) w.feeds-is) so_far
    ]
