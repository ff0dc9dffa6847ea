-- All that the overlay keeps was gone over, and that is what the table has.
use Rattle.std.proofs.Common.{◌++◌, map, refl, ap, subst, ◌∙◌}
use Rattle.run_overlay.specs.Kept.{FeedOverlay, IsTable}
use Rattle.board_parts.proofs.Lists.{gone_over}
use Rattle.board_core.specs.FeedsOfSchedule.{hub_feed_of}
use Rattle.board_core.proofs.AddedTrips.{of_feed, stored_updates}
use Rattle.board_core.proofs.added.push_added.Goals as goal

pub returns : goal.returns
returns c =
    let one = hub_feed_of c.args.one.now in
    let before = c.args.updates.now.items in
    let items = c.added-stored-items.result in
    let left = c.loop-stored.stored-iterator in
    let table : IsTable c.table.result.now = record { rising = c.iter-all.ensures.rising; keyed = c.iter-all.ensures.keyed } in
    gone_over (stored_updates c.args.at one) before c.loop-stored.updates.items left c.into_iter-stored-iterator.result items refl c.in-None.ensures.steps.0 c.into_iter-stored-iterator.ensures.into_iter_gives c.loop-stored.invariant
    ∙ ap (λ us. before ++ us)
    (of_feed c.args.plan.now c.args.at one c.args.one.now.view.now.overlay items c.requires.over (subst IsTable c.table.ensures table)
    (c.added-stored-items.ensures ∙ ap (λ (o : FeedOverlay). map (λ change. change.1) o.mentions.added) c.overlay.ensures))
