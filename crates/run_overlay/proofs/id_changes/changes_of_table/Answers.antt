-- All that the table holds is gone over.
use Rattle.std.proofs.Common.{◌∙◌}
use Rattle.std.proofs.lemmas.Simd.{map-map}
use Rattle.run_overlay.specs.Changing.{id_change_new}
use Rattle.keyed_lists.proofs.Said.{all_made}
use Rattle.run_overlay.proofs.id_changes.changes_of_table.Goals as goal

pub returns : goal.returns
returns c =
    all_made (id_change_new c.args.plan.now) c.loop-stored.ids.items c.loop-stored.stored-iterator c.into_iter-stored-iterator.result _ c.in-None.ensures.steps.0
    (c.into_iter-stored-iterator.ensures.into_iter_gives ∙ c.iter-stored-items.ensures.items) c.loop-stored.invariant
    ∙ map-map (id_change_new c.args.plan.now) (λ change. change.1) c.args.table.now
