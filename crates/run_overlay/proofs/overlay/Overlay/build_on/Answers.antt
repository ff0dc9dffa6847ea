-- All ids of the table, where there was nothing, and all runs that they touch.
use Rattle.std.proofs.Common.{ap, ◌∙◌}
use Rattle.run_overlay.specs.Changing.{AreIdChanges, mentions_after}
use Rattle.run_overlay.specs.Kept.{FeedOverlay, IsTable, no_overlay}
use Rattle.run_overlay.specs.Turning.{live_turned}
use Rattle.run_overlay.proofs.After.{after_is, candidates_then, changes_of_all}
use Rattle.run_overlay.proofs.overlay.Overlay.build_on.Goals as goal

pub turns_on-requires-clause-candidates : goal.turns_on-requires-clause-candidates
turns_on-requires-clause-candidates g c κs within =
    let table : IsTable c.args.table.now = record { rising = c.iter-all.ensures.rising; keyed = c.iter-all.ensures.keyed } in
    let changes : AreIdChanges c.args.plan.now no_overlay c.args.table.now c.as_slice-ids.result.now = rw (c.as_slice-ids.ensures.value, c.in_ok-changes.ensures) (changes_of_all c.args.plan.now c.args.table.now table) in
    c.candidates-candidates.ensures
    ∙ candidates_then c.args.plan.now no_overlay c.args.table.now c.as_slice-ids.result.now c.in_ok-runs.runs.items changes table c.in_ok-runs.ensures.all
    c.in_ok-mentions.mentions
    (c.in_ok-mentions.ensures ∙ ap (λ (o : FeedOverlay). mentions_after c.args.table.now c.as_slice-ids.result.now o.mentions) (c.none.view_is ∙ c.empty-none.ensures.kept))

pub returns : goal.returns
returns g c =
    let table : IsTable c.args.table.now = record { rising = c.iter-all.ensures.rising; keyed = c.iter-all.ensures.keyed } in
    let changes : AreIdChanges c.args.plan.now no_overlay c.args.table.now c.as_slice-ids.result.now = rw (c.as_slice-ids.ensures.value, c.in_ok-changes.ensures) (changes_of_all c.args.plan.now c.args.table.now table) in
    let nothing = c.none.view_is ∙ c.empty-none.ensures.kept in
    after_is c.args.plan.now no_overlay c.args.table.now c.as_slice-ids.result.now c.as_slice.result.now changes table
    (rw c.as_slice.ensures.value c.in_ok-runs.ensures.all)
    c.in_ok-mentions.mentions c.in_ok-live.live
    (c.in_ok-mentions.ensures ∙ ap (λ (o : FeedOverlay). mentions_after c.args.table.now c.as_slice-ids.result.now o.mentions) nothing)
    (c.in_ok-live.ensures ∙ ap (λ (o : FeedOverlay). live_turned c.in_ok-turns.turns.items o.live) nothing ∙ ap (λ turns. live_turned turns no_overlay.live) c.in_ok-turns.ensures)
