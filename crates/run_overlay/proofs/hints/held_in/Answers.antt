-- All that the table holds is gone over.
use Rattle.std.proofs.Common.{◌∙◌}
use Rattle.run_overlay.specs.Kept.{IsTable}
use Rattle.run_overlay.proofs.Held.{all_gone_over, table_held}
use Rattle.run_overlay.proofs.hints.held_in.Goals as goal

pub returns-clause-all : goal.returns-clause-all
returns-clause-all c =
    all_gone_over (λ stored. stored.now) c.loop-stored.held.items c.loop-stored.stored-iterator c.into_iter-stored-iterator.result _ c.in-None.ensures.steps.0
    (c.into_iter-stored-iterator.ensures.into_iter_gives ∙ c.iter-stored-items.ensures.items) c.loop-stored.invariant

pub returns-clause-held : goal.returns-clause-held
returns-clause-held c =
    let table : IsTable c.args.table.now = record { rising = c.iter-stored-items.ensures.rising; keyed = c.iter-stored-items.ensures.keyed } in
    table_held c.args.table.now table c.loop-stored.held.items c.loop-stored.stored-iterator c.into_iter-stored-iterator.result c.in-None.ensures.steps.0
    (c.into_iter-stored-iterator.ensures.into_iter_gives ∙ c.iter-stored-items.ensures.items) c.loop-stored.invariant
