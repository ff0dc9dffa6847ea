-- The ids of the entities that were gone over.
use Rattle.std.proofs.Common.{◌≡◌, map, take}
use Rattle.run_overlay.specs.Changing.{id_before}
use Rattle.run_overlay.proofs.id_changes.ids_before.Given as goal

abbrev pub invariant-loop-entity : goal.invariant-loop-entity
invariant-loop-entity l = l.ids.items ≡ map (λ e. id_before l.links e.id) (take l.entity-index l.entities)
