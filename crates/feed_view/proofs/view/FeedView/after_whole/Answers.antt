-- The table is that of the message, whatever was held before.
use Rattle.std.proofs.Common.{◌≡◌, ◌+◌, refl, sym, ap, ◌∙◌, subst, rules}
use Rattle.std.proofs.lemmas.Result.{IfOk-weaker}
use Rattle.feed_defs.specs.History.{stamp_of}
use Rattle.board_defs.specs.Fold.{FeedFold}
use Rattle.board_defs.specs.Views.{fold_after}
use Rattle.entity_table.proofs.AtOnce.{whole_after}
use Rattle.feed_view.specs.Kept.{FeedSeen, IsOver, seen_of}
use Rattle.feed_view.proofs.view.FeedView.after_whole.Goals as goal

pub returns-clause-after : goal.returns-clause-after
returns-clause-after g c =
    let made : FeedFold = record { count = c.count-count.result + 1; stamp = c.unwrap_or-stamp.result; entities = c.in_ok-table.table } in
    let stamp : c.unwrap_or-stamp.result ≡ stamp_of c.args.message = search rules in
    let entities = c.in_ok-table.ensures ∙ whole_after c.args.message c.args.old.now.fold.entities c.requires.whole in
    let told : made ≡ fold_after c.args.message c.args.old.now.fold = λ i. record { count = c.count-count.ensures.value i + 1; stamp = stamp i; entities = entities i } in
    IfOk-weaker c.build.result (λ view. view ≡ seen_of c.args.plan.now made) (λ view. view.fold ≡ fold_after c.args.message c.args.old.now.fold)
    (λ view is. ap (λ (s : FeedSeen). s.fold) is ∙ told) c.build.ensures.built

pub returns-clause-over : goal.returns-clause-over
returns-clause-over g c =
    let made : FeedFold = record { count = c.count-count.result + 1; stamp = c.unwrap_or-stamp.result; entities = c.in_ok-table.table } in
    IfOk-weaker c.build.result (λ view. view ≡ seen_of c.args.plan.now made) (IsOver c.args.plan.now)
    (λ view is. subst (IsOver c.args.plan.now) (sym is) (record { over = refl })) c.build.ensures.built
